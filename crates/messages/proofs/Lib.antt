pub mod Checks
pub mod Messages
