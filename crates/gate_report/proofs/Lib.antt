pub mod Lines
pub mod LineEnds
pub mod Counts
mod Texts
