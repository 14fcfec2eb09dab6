pub mod AnnotationOrder
pub mod Annotations
pub mod Codes
pub mod laws
