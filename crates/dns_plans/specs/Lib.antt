pub mod Plans
pub mod Steps
pub mod Planned
pub mod Prelude
pub mod Inside
