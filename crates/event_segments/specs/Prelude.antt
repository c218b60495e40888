-- The names of this crate that others cite most, passed on from one place. Declares nothing.
pub use Rattle.event_segments.specs.Segments.{AreCalled, Enters, IsSegmentOf, lacks_place, made_on, pair_on, refusal_as, room_tests, stream_refusal, waiting_after}
pub use Rattle.event_segments.specs.SegmentFate.{CompletesUnit, IsPlanOf, image_of, used_by}
pub use Rattle.event_segments.specs.Inside.SegmentFate.{IsStopped}
pub use Rattle.event_segments.specs.Passed.{IsPassed, Tells, left_as, plain_world, told_by, told_kind, world_of}
