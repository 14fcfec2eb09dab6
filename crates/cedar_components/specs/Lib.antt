pub mod Reach
pub mod laws
