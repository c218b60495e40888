pub mod Capture
pub mod Reader
pub mod Spelling
pub mod Spelled
pub mod Packets
pub mod Faults
pub mod Prelude
pub mod Inside
