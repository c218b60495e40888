pub mod Gathering
pub mod Untold
pub mod Inside
