-- What only proofs and private contracts need. What is believed or said by a public contract stands in specs/ itself.
pub mod Events
pub mod Frames
pub mod Given
pub mod Lines
pub mod Records
pub mod Stops
