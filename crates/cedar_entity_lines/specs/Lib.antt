pub mod Codes
pub mod CommandOf
pub mod EntityCommand
pub mod EntityOutput
pub mod Holding
pub mod laws
