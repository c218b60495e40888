-- The names of this crate that others cite most, passed on from one place. Declares nothing.
pub use Rattle.pcap_merge.specs.Stops.{StopLeavesCounts, slot_of, stop_of}
pub use Rattle.pcap_merge.specs.Order.{is_unread}
pub use Rattle.pcap_merge.specs.Inside.Order.{earlier}
pub use Rattle.pcap_merge.specs.Events.{Ahead, Done, Ending, Ends, Fault, Gives, Merged, Stops, Turn, after, are_good, by_heads, event_at, events_of, front_by, front_of, goes_on, have_good_heads, link_at, merge_from, turn_at, turn_of, up_to, with_event, without_first}
pub use Rattle.pcap_merge.specs.Sides.{IsSpent, one_for, records_ahead, side_work}
pub use Rattle.pcap_merge.specs.Inside.Sides.{Readies, ReadsSide}
pub use Rattle.pcap_merge.specs.Given.{EndsAtTaken, HasRead, TakenFor, count_of_side, with_records}
pub use Rattle.pcap_merge.specs.Merge.{Advances, AtEnds, Begins, ComesTo, Finishes, HasGiven, HeadsAre, Merging, Reads, StopsBy, TakesFew, ahead, all_events, reading_of, sides_ahead, work}
pub use Rattle.pcap_merge.specs.Inside.Merge.{event_given, merging}
pub use Rattle.pcap_merge.specs.Picks.{EndsBy}
