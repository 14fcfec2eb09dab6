pub mod Ascii
pub mod Fields
pub mod Halves
