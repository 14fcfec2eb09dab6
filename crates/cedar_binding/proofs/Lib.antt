pub mod Actions
pub mod Copies
pub mod Texts
