pub mod Judged
pub mod Ipv4
