pub mod Bits
pub mod Free
pub mod Rows
