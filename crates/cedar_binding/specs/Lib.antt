pub mod BindingTexts
pub mod Bindings
pub mod Checks
pub mod Codes
pub mod EnvEquality
pub mod Views
pub mod laws
