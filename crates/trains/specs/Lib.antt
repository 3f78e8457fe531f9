pub mod Kinds
pub mod Railway
pub mod Named
pub mod Running
pub mod Laws
