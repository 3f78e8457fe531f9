pub mod Graph
pub mod Faults
pub mod Times
pub mod Views
pub mod Told
pub mod Steps
