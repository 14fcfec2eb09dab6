pub mod Answering
pub mod Hearing
pub mod Ordering
pub mod Parting
pub mod Pieces
