pub mod Levels
pub mod Stacks
