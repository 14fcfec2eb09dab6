pub mod Components
pub mod Decoding
pub mod EidTexts
pub mod Names
pub mod UidSteps
