pub mod FirstLine
pub mod Sessions
