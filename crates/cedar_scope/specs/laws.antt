pub mod Filling
pub mod ScopeOrders
pub mod ScopeSlots
