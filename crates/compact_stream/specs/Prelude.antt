-- The names of this crate that others cite most, passed on from one place. Declares nothing.
pub use Rattle.compact_stream.specs.Runs.{Run, all_pushed, held_rest, next, run}
pub use Rattle.compact_stream.specs.Kept.{CompactSender, InRange, Keeps, KeepsSender, acknowledged_kept, back_kept, closed, extent_kept, octets_kept, other_kept, own_kept, recent_start, sender_of, sent_pushes, taken_kept, unlike_kept, went_on}
pub use Rattle.compact_stream.specs.Outs.{inner_kept, kept_ends, kept_out, recent_back, sender_sent, standing_kept, start_kept}
pub use Rattle.compact_stream.specs.Sessions.{CompactState, StandsForSession, kept_made, kept_next, kept_refusal, sender_kept}
