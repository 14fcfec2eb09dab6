pub mod AnnotationOrders
