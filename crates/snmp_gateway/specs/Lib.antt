pub mod Parts
pub mod Message
pub mod Renaming
pub mod Element
pub mod Inside
