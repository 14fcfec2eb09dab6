pub mod Machines
pub mod Made
pub mod OneAnswer
pub mod ReadCommands
