pub mod Children
