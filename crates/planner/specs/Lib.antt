pub mod Small
pub mod Nodes
pub mod View
