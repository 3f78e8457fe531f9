pub mod Requests
pub mod Left
pub mod Message
