pub mod Fresh
pub mod Merge
pub mod laws
