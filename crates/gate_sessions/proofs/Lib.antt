pub mod ListedLemmas
pub mod Sent
pub mod SessionLemmas
pub mod Stepped
mod Gone
pub mod Completed
pub mod Bearing
pub mod Relearned
pub mod Agreed
pub mod Witness
pub mod Listing
