pub mod Named
pub mod Unread
pub mod laws
