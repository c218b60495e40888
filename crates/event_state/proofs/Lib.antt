mod FirstSegments
mod Lost
pub mod Wholes
pub mod Early
pub mod ReadMemory
