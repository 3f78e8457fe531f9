pub mod Message
pub mod Named
pub mod Told
