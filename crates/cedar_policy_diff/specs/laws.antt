pub mod ListDiffLaws
pub mod DiffLaws
pub mod Emptiness
