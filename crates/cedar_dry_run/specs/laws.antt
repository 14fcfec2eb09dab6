pub mod Found
pub mod HeldTrials
pub mod OnlyMemory
pub mod Parts
pub mod PlainTrials
pub mod Requested
pub mod Tried
