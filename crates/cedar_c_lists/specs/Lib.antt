pub mod Answers
pub mod Reasons
pub mod StatusTexts
pub mod Stops
pub mod Texts
pub mod Uids
pub mod laws
