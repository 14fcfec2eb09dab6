pub mod EntityReplays
pub mod PolicyReplays
