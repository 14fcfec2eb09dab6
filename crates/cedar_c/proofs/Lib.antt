pub mod AsBox
pub mod Frame
pub mod PoliciesAsBox
pub mod PolicyChanges
pub mod StoreAsBox
pub mod StoreChanges
pub mod Walking
