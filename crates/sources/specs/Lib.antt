pub mod Head
pub mod Lists
pub mod Records
pub mod Written
