-- The names of this crate that others cite most, passed on from one place. Declares nothing.
pub use Rattle.frag_join.specs.Places.{any_below, count_below, table}
pub use Rattle.frag_join.specs.Fragments.{Fragment, covers, end_of, fragment_in, is_fragment, name_in, octet_in, octets_of, same_name}
pub use Rattle.frag_join.specs.Coverage.{Coverage, added, are_unlike, datagram_of, end_by, end_told, ends_otherwise, header_by, header_told, is_above}
pub use Rattle.frag_join.specs.Coverage.{is_bad, is_complete, is_covered, is_other, is_torn, is_unlike, known_by, nothing, octet_at, octet_of}
pub use Rattle.frag_join.specs.Coverage.{payload_below, reach_of, sealed, spelled, whole_head}
pub use Rattle.frag_join.specs.Joining.{Keeping, State, Step, after, by_known, by_list, changed, event_from, fragment_step}
pub use Rattle.frag_join.specs.Joining.{fragment_taken, fragment_tests, is_live, is_of, live, part_of, part_or_new, place_of}
pub use Rattle.frag_join.specs.Joining.{settled, state_known, step, step_by, step_known, taken_unless, with_fragment}
pub use Rattle.frag_join.specs.Cuts.{Arrives, Brings, IsCut, Original, cover}
pub use Rattle.frag_join.specs.Inside.Held.{header_held}
pub use Rattle.frag_join.specs.Inside.Whole.{IsWhole, known_inside, octet_inside}
pub use Rattle.frag_join.specs.Inside.Kept.{known_at, put_at}
pub use Rattle.frag_join.specs.Arrivals.{Arrival, ArrivalsAre, Reaches, Stopped, arrival, arrival_by, arrivals_from}
pub use Rattle.frag_join.specs.Arrivals.{arrivals_of, coming, joined_in, joiner_after, joiner_of, known_joiner, opened}
