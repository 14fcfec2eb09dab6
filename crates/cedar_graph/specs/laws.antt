-- Definitions that only private contracts and proofs use, and laws.
pub mod Arcs
pub mod Checks
pub mod Deciding
pub mod Nodes
pub mod Ranks
pub mod Reaches
pub mod Readings
pub mod Writings
