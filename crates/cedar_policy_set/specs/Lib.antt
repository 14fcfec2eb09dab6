pub mod SetEquality
pub mod SetTexts
pub mod Lending
pub mod Refusals
pub mod Steps
pub mod Validity
pub mod laws
