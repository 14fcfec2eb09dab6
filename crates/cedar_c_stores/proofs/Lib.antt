pub mod Asking
pub mod Editing
pub mod Gathering
pub mod Noting
pub mod ReadUids
pub mod RowLaws
pub mod Sets
pub mod Showing
