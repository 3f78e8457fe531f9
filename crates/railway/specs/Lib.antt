pub mod Sound
pub mod Trips
pub mod Tables
