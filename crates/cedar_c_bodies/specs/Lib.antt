pub mod Annotated
pub mod Bodies
pub mod Scopes
pub mod Encoded
