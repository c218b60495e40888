-- What only proofs and private contracts need. What is believed or said by a public contract stands in specs/ itself.
pub mod Gathering
