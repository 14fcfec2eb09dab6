pub mod Machines
pub mod SlotFlagLaws
pub mod OneAnswer
pub mod OneMerge
pub mod PolicyReading
pub mod ReadCommands
