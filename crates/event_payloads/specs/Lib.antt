pub mod Ways
pub mod Taken
pub mod Plain
pub mod Prelude
pub mod Inside
