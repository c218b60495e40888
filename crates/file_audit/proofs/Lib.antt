mod TakenRecords
mod FoundLines
mod ReportAhead
mod Alikes
pub mod Walked
mod TakenFiles
mod FoundEvents
mod FoundLast
mod BegunCaptures
pub mod LeftCounts
pub mod IncomingEnds
pub mod Wanting
pub mod Files
