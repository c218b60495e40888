pub mod Segments
pub mod SegmentFate
pub mod Passed
pub mod Prelude
pub mod Inside
