pub mod Hosts
pub mod Inside
pub mod Known
pub mod Sending
