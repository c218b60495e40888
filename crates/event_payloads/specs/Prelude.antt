-- The names of this crate that others cite most, passed on from one place. Declares nothing.
pub use Rattle.event_payloads.specs.Ways.{IsWay, header_uses, image_by, is_empty, way_tests}
pub use Rattle.event_payloads.specs.Taken.{IsTaken, IsWayOf}
pub use Rattle.event_payloads.specs.Inside.Named.{named_uses}
pub use Rattle.event_payloads.specs.Plain.{plain_rules}
pub use Rattle.event_payloads.specs.Inside.Plain.{asks_none}
