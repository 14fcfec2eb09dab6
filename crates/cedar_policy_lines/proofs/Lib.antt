pub mod Fields
pub mod Merging
