pub mod DiffLaws
pub mod Listed
pub mod OneList
pub mod Parts
