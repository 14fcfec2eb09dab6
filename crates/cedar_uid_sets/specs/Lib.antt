pub mod Codes
pub mod UidSets
pub mod laws
