pub mod Stops
pub mod Given
pub mod Events
pub mod Inside
