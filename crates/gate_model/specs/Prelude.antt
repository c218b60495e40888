-- The names of this crate that others cite most, passed on from one place. Declares nothing.
pub use Rattle.gate_model.specs.Frame.{Dns, Echo, Error, Kind, Payload, Snmp, Stream, Udp, Whole, datagram_in, datagram_tests}
pub use Rattle.gate_model.specs.Frame.{header_tests, icmp_payload, is_tracked_port, kind_of, transport_tests, udp_payload}
pub use Rattle.gate_model.specs.Lists.{Lists, addresses_in, enter, entered, grows_too_much, is_bad, list_of, renamed_in, with_list}
pub use Rattle.gate_model.specs.Sessions.{WholeSession, completed, entries_by, lists_at, meaning_by}
pub use Rattle.gate_model.specs.Sessions.{reads_by, units_by, whole_learned, whole_next, whole_units}
pub use Rattle.gate_model.specs.Rules.{SessionRules, whole_rules}
pub use Rattle.gate_model.specs.World.{Tracked, World, addresses_of, at_moment, called, destination_of, host_on, opening_world, source_of}
pub use Rattle.gate_model.specs.Stream.{begins, connection_after, ends_by, found_in, is_full, is_opening}
pub use Rattle.gate_model.specs.Stream.{key_in, key_of, lacks_session, made_by, pair_in, pending_by, segment_of}
pub use Rattle.gate_model.specs.Stream.{sent_as, session_in, session_refusal, stepped, stream_timeout, taker_by, tcp_of}
pub use Rattle.gate_model.specs.Inner.{inner_number, inside, is_inner_unbound, is_unknown, with_inside}
pub use Rattle.gate_model.specs.Names.{carried, has_unbound, is_unbound, message_in, named_in, names_after, reply_by}
pub use Rattle.gate_model.specs.Management.{management_after, number_seen}
pub use Rattle.gate_model.specs.Units.{entries_after, entries_in, growth_tests, is_new_unbound}
pub use Rattle.gate_model.specs.Units.{names_in, unit_tests, units_in, uses_of_lists, uses_until}
pub use Rattle.gate_model.specs.Verdict.{address_tests, image_in, is_pool_empty, is_reachable, kind_tests, late_tests, payload_addresses}
pub use Rattle.gate_model.specs.Verdict.{payload_uses, refusal_tests, table_after, tests, uses_of, verdict, verdict_of, world_tests}
pub use Rattle.gate_model.specs.Step.{after_kind, next, next_by, out, out_between, out_by, out_kind, stream_out, taker_in, with_connection}
pub use Rattle.gate_model.specs.Reading.{Agree, AreRelated, Reads, connection_as, tracked_as, world_as}
pub use Rattle.gate_model.specs.Remembered.{EachTracked, IsRenamed, Remembered, RememberedSession, UnitsAreRenamed, remembering_rules}
pub use Rattle.gate_model.specs.Held.{EntryCrosses, HasLists, IsEntryBound, IsImage, IsPairOf, KeepsHosts, KeepsListed, ListsCross, host_in}
pub use Rattle.gate_model.specs.Taken.{TakesSegment}
pub use Rattle.gate_model.specs.GoingOn.{streams_of}
pub use Rattle.gate_model.specs.Promise.{Promised, known_after, remembered_after}
