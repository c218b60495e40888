pub mod Lists
pub mod Documents
pub mod ArcTexts
pub mod Sound
pub mod Forms
pub mod Accepted
mod Repeated
pub mod Names
