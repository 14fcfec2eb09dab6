pub mod Hearing
pub mod Talking
