pub mod Faults
pub mod Found
pub mod Reading
pub mod Refusing
pub mod Showing
pub mod Slots
pub mod Unknown
