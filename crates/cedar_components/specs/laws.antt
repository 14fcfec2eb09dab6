-- Definitions that only private contracts and proofs use.
pub mod Arcs
pub mod Components
pub mod Lists
pub mod Windows
pub mod Numbers
pub mod Places
pub mod Search
