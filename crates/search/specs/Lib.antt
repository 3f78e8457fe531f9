pub mod Search
pub mod Room
pub mod Sound
pub mod Examples
pub mod Named
