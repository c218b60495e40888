pub mod Steps
pub mod Records
pub mod Numbers
pub mod Joined
pub mod Cut
