pub mod Asking
pub mod Bare
