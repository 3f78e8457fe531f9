pub mod Replaying
pub mod Leaving
pub mod Planning
