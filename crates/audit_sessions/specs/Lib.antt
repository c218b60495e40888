pub mod Heard
pub mod Gives
pub mod Inside
