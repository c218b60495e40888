-- The names of this crate that others cite most, passed on from one place. Declares nothing.
pub use Rattle.gateway.specs.Pieces.{IsFront, Piece, wrote_pieces}
pub use Rattle.gateway.specs.Inside.Pieces.{OnlyWrites, WritesAll}
pub use Rattle.gateway.specs.Inside.Causes.{WritesPieces, WritesReportLine}
pub use Rattle.gateway.specs.Machine.{State, after, after_one, arrivals_by, ended_by, event_piece, files, frame_piece, framed, frames_of, given_by, given_by_all, given_by_merged, heads, last_line, line_after, line_of, line_piece, opening, out_slot, sent}
pub use Rattle.gateway.specs.Ends.{IsOfFirst, Wants, outputs_of}
pub use Rattle.gateway.specs.Inside.Phases.{CanCount, EndsUnwritten, Forwards, Handles, OfEvents, Prepared, Readied, Readies, StopsInFront, WritesLastLine, counting, state_of}
pub use Rattle.gateway.specs.Making.{IsLineOf, IsMake, workload_in}
pub use Rattle.gateway.specs.Answers.{IsPromised, IsRun, Runs, TookForWritten}
