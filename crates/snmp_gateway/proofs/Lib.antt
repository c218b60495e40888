pub mod Reading
pub mod Kept
pub mod Whole
pub mod Walk
pub mod Elements
