pub mod Codes
pub mod Command
pub mod Faults
pub mod Output
pub mod Runs
pub mod Sessions
pub mod laws
