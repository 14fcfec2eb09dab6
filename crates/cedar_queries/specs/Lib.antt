pub mod Queries
pub mod laws
