pub mod Trials
pub mod laws
