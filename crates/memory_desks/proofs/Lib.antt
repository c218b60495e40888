pub mod LogLaws
pub mod MemoryLaws
