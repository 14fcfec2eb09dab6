pub mod EnvLaws
pub mod Fits
pub mod NoBindings
