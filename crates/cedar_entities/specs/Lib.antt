pub mod Answers
pub mod Calls
pub mod Changes
pub mod Codes
pub mod Present
pub mod SameUids
pub mod StoreFaults
pub mod laws
