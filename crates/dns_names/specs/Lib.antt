pub mod Names
pub mod Walk
pub mod Stops
pub mod Spelling
pub mod Texts
pub mod Reverse
pub mod Prelude
pub mod Inside
