pub mod BlockBytes
pub mod EscapeBytes
pub mod LineTexts
pub mod Marks
