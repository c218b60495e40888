pub mod Sessions
pub mod Gives
pub mod Compact
pub mod Inside
