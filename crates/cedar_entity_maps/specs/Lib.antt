pub mod ClosureFaults
pub mod Edits
pub mod Modes
pub mod Plain
pub mod EditErrors
pub mod Affected
pub mod InputStore
pub mod laws
