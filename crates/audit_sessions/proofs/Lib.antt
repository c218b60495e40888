pub mod CompletedUnits
pub mod LearnedSessions
pub mod HeardLaws
pub mod SeenSessions
pub mod FreshSessions
mod SteppedStreams
