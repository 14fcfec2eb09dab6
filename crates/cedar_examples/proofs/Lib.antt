pub mod Asked
pub mod Bare
pub mod Edited
pub mod Granted
