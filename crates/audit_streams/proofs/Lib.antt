pub mod TranscriptLemmas
pub mod Rising
pub mod Places
pub mod PieceTaken
pub mod HostLists
pub mod Longer
pub mod GoesOut
pub mod BothHosts
