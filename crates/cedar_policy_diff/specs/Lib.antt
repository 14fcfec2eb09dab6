pub mod ListDiff
pub mod Diff
pub mod Codes
pub mod Views
pub mod laws
