-- The names of this crate that others cite most, passed on from one place. Declares nothing.
pub use Rattle.tcp_tracker.specs.Connections.{AreNamedOnce, IsEnded, after, changed, connection_of, held, is_live, is_of, is_reset, is_tracked, kept}
pub use Rattle.tcp_tracker.specs.Connections.{kept_or_begun, live, noted, place_of, seen_as, starts_anew, timeout, timeout_of}
pub use Rattle.tcp_tracker.specs.Connections.{timeout_or_short, unused, with_flags, with_session, without}
pub use Rattle.tcp_tracker.specs.Inside.Filed.{IsFiled, IsWhole}
pub use Rattle.tcp_tracker.specs.Joined.{replaced}
pub use Rattle.tcp_tracker.specs.Inside.Joined.{IsJoined, IsKept, inline, joined, slots_of}
