pub mod Arcs
pub mod Identifier
pub mod Elements
pub mod Inside
