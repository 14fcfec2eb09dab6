pub mod Finding
pub mod Reading
pub mod Scanning
pub mod Slots
