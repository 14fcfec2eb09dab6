pub mod Faults
pub mod Fields
pub mod Least
pub mod UidOrder
pub mod UidSets
pub mod Views
