mod Comparing
mod Digits
