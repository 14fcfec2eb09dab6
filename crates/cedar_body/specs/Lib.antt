pub mod Bodies
pub mod BodyEquality
pub mod BodyTexts
pub mod Codes
pub mod Effects
pub mod Views
pub mod laws
