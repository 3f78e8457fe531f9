pub mod Raise
pub mod Shown
pub mod Placed
pub mod Rounding
pub mod Settling
