-- What only proofs and private contracts need. What is believed or said by a public contract stands in specs/ itself.
pub mod Ends
pub mod Longest
pub mod Memo
pub mod Met
pub mod Names
pub mod Octets
pub mod Pieces
pub mod Targets
pub mod Writers
