pub mod Udp
pub mod Icmp
