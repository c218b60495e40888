pub mod Memory
pub mod Counted
pub mod Inside
