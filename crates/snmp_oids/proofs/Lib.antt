pub mod Rows
pub mod SubIdentifiers
pub mod Grammar
pub mod Messages
pub mod Places
pub mod Swaps
pub mod Tree
pub mod Writing
pub mod Lengths
mod Named
mod Small
