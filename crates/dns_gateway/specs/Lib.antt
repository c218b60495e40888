pub mod Addresses
pub mod Renaming
pub mod Replies
