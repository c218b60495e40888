pub mod Answered
pub mod Audited
pub mod Makes
pub mod Codes
