pub mod Draws
pub mod Captures
pub mod Datagrams
pub mod Payloads
pub mod Rounds
pub mod Workloads
