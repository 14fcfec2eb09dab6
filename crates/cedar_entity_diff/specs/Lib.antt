pub mod Codes
pub mod Diffs
pub mod WouldChange
pub mod laws
