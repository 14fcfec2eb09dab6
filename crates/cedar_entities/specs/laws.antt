pub mod Closures
pub mod Readings
pub mod SameParents
pub mod SameUids
pub mod Finalized
pub mod StoreFaults
