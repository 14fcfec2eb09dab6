pub mod SameEntity
pub mod SameFields
pub mod Stored
