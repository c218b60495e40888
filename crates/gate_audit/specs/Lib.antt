pub mod Auditing
pub mod Inside
pub mod Memory
