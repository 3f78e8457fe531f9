pub mod Asked
pub mod Tried
