pub mod BodyFaults
pub mod EqualityLaws
pub mod LinkLaws
pub mod ListSteps
pub mod Standing
pub mod StepLaws
