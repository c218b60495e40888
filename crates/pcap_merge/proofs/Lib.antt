pub mod Merged
pub mod Given
pub mod Reading
pub mod Steps
pub mod Starts
pub mod Weave
pub mod Counts
