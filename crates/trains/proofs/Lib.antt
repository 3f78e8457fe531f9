pub mod Railways
pub mod Runnings
