pub mod Strange
pub mod Strangely
