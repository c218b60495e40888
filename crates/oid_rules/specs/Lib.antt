pub mod Inside
pub mod Sorted
