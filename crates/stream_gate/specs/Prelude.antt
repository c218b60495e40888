-- The names of this crate that others cite most, passed on from one place. Declares nothing.
pub use Rattle.stream_gate.specs.Directions.{nothing_pushed}
pub use Rattle.stream_gate.specs.Inside.Directions.{DirectionKept, IsStream, kept_by, taken_by}
pub use Rattle.stream_gate.specs.Gates.{GateKept}
pub use Rattle.stream_gate.specs.Inside.Gates.{CanCopy, data_kept, headers_by}
pub use Rattle.stream_gate.specs.Listed.{IsListedStream, entries_of}
pub use Rattle.stream_gate.specs.Memory.{CompletesBy, KeptCompletes, OneBears, units_behind}
pub use Rattle.stream_gate.specs.Inside.Plans.{IsLike, Plans, PlansFrom, PlansNone, plain_until, pushes_by}
pub use Rattle.stream_gate.specs.Segments.{Headers, datagram}
