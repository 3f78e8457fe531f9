pub mod Arcs
pub mod Layouts
pub mod Listing
pub mod Writing
