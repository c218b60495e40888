-- What only proofs and private contracts need. What is believed or said by a public contract stands in specs/ itself.
pub mod Alarms
pub mod Armed
pub mod Buckets
pub mod Chained
pub mod Kept
pub mod Whole
