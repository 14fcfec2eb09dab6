pub mod Closures
pub mod EditEnds
pub mod Indexes
pub mod AffectedLists
pub mod MergedRows
