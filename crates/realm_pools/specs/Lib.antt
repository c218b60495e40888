pub mod Addresses
pub mod Inside
