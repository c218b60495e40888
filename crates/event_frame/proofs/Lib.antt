pub mod Tests
pub mod Judging
