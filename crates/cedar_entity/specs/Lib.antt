pub mod ClosureErrors
pub mod Codes
pub mod Fields
pub mod Least
pub mod Listing
pub mod Validity
pub mod View
pub mod laws
