pub mod Places
pub mod Fragments
pub mod Coverage
pub mod Joining
pub mod Cuts
pub mod Arrivals
pub mod Prelude
pub mod Inside
