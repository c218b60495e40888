pub mod Lines
pub mod Causes
pub mod Audits
pub mod Decided
pub mod Inside
