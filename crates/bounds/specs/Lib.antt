pub mod Bounds
pub mod Told
pub mod Lower
pub mod Named
