pub mod Joining
pub mod Making
pub mod Moves
pub mod Looks
pub mod Walked
pub mod Lowest
