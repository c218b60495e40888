pub mod Forms
pub mod Held
pub mod Relation
pub mod Reading
pub mod Suits
pub mod Writing
pub mod Inside
