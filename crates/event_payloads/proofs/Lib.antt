pub mod Crossings
pub mod Passes
pub mod HeadersOnly
pub mod DnsTaken
pub mod SnmpTaken
pub mod Alike
