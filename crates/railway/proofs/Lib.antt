pub mod Sums
pub mod Tables
pub mod Checking
pub mod Cases
