pub mod Refilled
pub mod Tables
pub mod Railed
