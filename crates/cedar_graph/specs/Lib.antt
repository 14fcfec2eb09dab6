pub mod Ascending
pub mod Calls
pub mod Faults
pub mod Graph
pub mod laws
