pub mod Cross
pub mod Forms
pub mod Sound
pub mod Prelude
pub mod Inside
