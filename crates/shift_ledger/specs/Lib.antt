pub mod Answers
pub mod Kept
pub mod Sources
pub mod Prelude
pub mod Inside
