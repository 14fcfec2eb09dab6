pub mod PolicyLaws
pub mod PolicySlots
pub mod UnknownSteps
pub mod ValidationSteps
