pub mod Records
pub mod Sets
pub mod TextsJoined
pub mod Told
pub mod Walks
