pub mod FileLaws
pub mod Gathering
pub mod Taken
pub mod Unread
mod Kept
