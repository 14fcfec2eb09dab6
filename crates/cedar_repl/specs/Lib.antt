pub mod Conversation
pub mod Heard
pub mod Help
pub mod Order
pub mod laws
