pub mod AncestorSets
pub mod AscendingUids
pub mod FieldLists
pub mod LeastUids
pub mod UidSteps
