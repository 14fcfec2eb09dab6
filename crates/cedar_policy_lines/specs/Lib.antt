pub mod TwoSets
pub mod Codes
pub mod CommandOf
pub mod PolicyCommand
pub mod PolicyOutput
pub mod laws
