-- The names of this crate that others cite most, passed on from one place. Declares nothing.
pub use Rattle.stream_model.specs.Numbers.{known, number_after, number_at, place_near}
pub use Rattle.stream_model.specs.Session.{Outgoing, Segment, Sender, Session, arrival, due_in, extent, other, own, place_acknowledged, recent, repeats_unlike, segment_in, session, start_at, start_of}
pub use Rattle.stream_model.specs.Refusals.{is_data, refusal_of, segment_refusal}
pub use Rattle.stream_model.specs.Agreeing.{Agree, SendsRecent}
pub use Rattle.stream_model.specs.Standing.{Standing, first_recent, standing}
pub use Rattle.stream_model.specs.Sending.{Piece, Sent, acked_with, acknowledgement_at, acknowledgement_to, alone, bare_offset, data_sent, ends_by, grows, high, in_pieces, inner_at, inner_by, inner_number, limit_of, low, other_sent, pieces, reset_sent, segment_with, sends_end, sent_by, syn_sent}
pub use Rattle.stream_model.specs.Steps.{acknowledged, open_of, opened, other_after, own_after, sent, session_ends, session_inner, session_made, session_next, session_open, session_out, session_sent, taken}
pub use Rattle.stream_model.specs.History.{Facts, IsBack, SentIs, if_by, if_to, numbers_of, places_of}
pub use Rattle.stream_model.specs.Progress.{Brings, OnlyHeldWaits, acknowledged_of}
pub use Rattle.stream_model.specs.Rounds.{Hears, LacksEnd, LacksOctets}
pub use Rattle.stream_model.specs.Cuts.{ArePieces, MaySend}
