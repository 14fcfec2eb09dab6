pub mod CallsOf
pub mod Replays
