pub mod Wanted
pub mod Files
pub mod Reasons
pub mod Progress
pub mod Judging
pub mod Walks
pub mod Prelude
