pub mod Engines
pub mod Given
pub mod Inside
pub mod Knowing
pub mod Lost
