pub mod Fronts
pub mod Merged
pub mod Places
pub mod Sets
pub mod Unions
