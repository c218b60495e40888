-- What goes out for a segment that passes, by what its sender and its receiver answer, however their octets are kept (RFC 3022, 4.4;
-- RFC 9293, 3.7.1). In each rule old is what was known of the sender before its segment, and new is what it answers after it. The receiver is
-- the other host, to which all of this goes.
use Rattle.std.specs.Prelude.{◌+◌, ◌-◌, ◌%◌, ◌^◌, ℕ, Bool, false, not, ◌&&◌, ◌||◌, cond, nat_lt, nat_le, ◌==◌, min, max, List, [], ◌∷◌, length, map, Option, Some, None, is_some, is_none}
use Rattle.std.specs.List.{range_with_len}
use Rattle.resegment.specs.Pieces.{piece_count, cut_at, more_follow, piece_octets}
use Rattle.tcp_segments.specs.declared.flags.Flags.{Flags}
use Rattle.tcp_segments.specs.declared.TheConstants.{MOST_PAYLOAD}
use Rattle.tcp_segments.specs.Prelude.{one_if}
use Rattle.stream_model.specs.Numbers.{number_at, number_after, place_near, known}
use Rattle.stream_model.specs.Session.{Segment, Outgoing, arrival, start_at, place_acknowledged}
use Rattle.stream_model.specs.Standing.{Standing, first_recent}
use Rattle.stream_model.specs.declared.TheConstants.{LEAST_PIECE}
use Rattle.stream_model.specs.declared.numbers.Offset.{Offset}
use Rattle.stream_model.specs.declared.refusals.Extent.{Extent}

-- ## Which places of the image go out

-- The stream grows with its segment: it has more octets than before it, or it ends.
abbrev pub grows : Extent → Standing → Bool
grows old new = nat_lt old.octets new.extent.octets || (new.extent.ended && not old.ended)

-- The end goes out for a segment with FIN, as long as the receiver has not acknowledged it. Its place is behind all that is due.
abbrev pub sends_end : Standing → Bool → Bool
sends_end new fin = fin && nat_le new.acked new.extent.due

-- The first place that goes out is where the image of the segment's first octet begins. If that octet is acknowledged to its sender, it is
-- where the image of the first one begins that is not. It is no further than what was due before, so that what becomes due goes out.
abbrev pub low : Extent → Standing → Offset → ℕ
low old new start = min old.due (new.fore (max (old.octets + start.after - start.before) (first_recent new)))

-- The place behind the last that goes out, of a segment of so many octets, with FIN or not. Where the stream grows or its end goes out, all
-- that is due goes out. Otherwise the segment repeats octets, and this is where their image ends. If they are all acknowledged to their
-- sender, it is where the image of all such octets ends, so that nothing goes out.
abbrev pub high : Extent → Standing → Offset → ℕ → Bool → ℕ
high old new start count fin =
    cond (grows old new || sends_end new fin)
    new.extent.due
    (new.rear (max (old.octets + start.after + count - start.before) (first_recent new)))

-- Where a segment without octets stands, counted from the initial number. It stands as far behind all that is due as its segment starts
-- behind the octets so far. If that starts before their end, it stands just before the first place that the receiver has not acknowledged: a
-- receiver answers such a segment by acknowledging again (RFC 9293, 3.10.7.4).
abbrev pub bare_offset : Standing → Offset → ℕ
bare_offset new start = cond (start.before == 0) (new.extent.due + start.after + 1) new.acked

-- The most octets of a piece are what the receiver takes, or LEAST_PIECE if that is more, and at most those that fit a datagram behind two
-- headers without options. The octets of the segment's options are taken off (RFC 9293, 3.7.1).
abbrev pub limit_of : ℕ → Segment → ℕ
limit_of mss segment = min (max mss LEAST_PIECE) MOST_PAYLOAD - segment.options

-- The acknowledgement number that goes to the receiver, whose image is acknowledged up to a place: it acknowledges just the octets whose
-- whole image lies before that.
abbrev pub acknowledgement_at : Standing → ℕ → ℕ
acknowledgement_at receiver acked = number_at (known receiver.extent.initial) (receiver.back acked)

-- The same by what is acknowledged of its image so far.
abbrev pub acknowledgement_to : Standing → ℕ
acknowledgement_to receiver = acknowledgement_at receiver receiver.acked

-- The place up to which the receiver's image is acknowledged, with what the segment acknowledges: one that acknowledges less takes nothing
-- back.
abbrev pub acked_with : Standing → Segment → ℕ
acked_with receiver segment = max receiver.acked (place_acknowledged receiver.extent (arrival segment))

-- ## What goes out

-- All that goes out for a segment, before it is cut into pieces. Without octets it is one segment.
pub record Sent : Type 0 where
  -- The number of the first octet.
  pub sequence : ℕ
  -- The acknowledgement of each piece.
  pub acknowledgement : ℕ
  -- The flags of the last piece.
  pub flags : Flags
  -- The most octets of a piece.
  pub limit : ℕ
  -- All octets that go out.
  pub octets : List ℕ

-- A SYN goes out with the numbers that it has: both streams begin at the numbers of their images.
abbrev pub syn_sent : Segment → ℕ → Sent
syn_sent segment limit = record {
  sequence = segment.sequence;
  acknowledgement = segment.acknowledgement;
  flags = record segment.flags { push = false };
  limit = limit;
  octets = [];
}

-- An RST goes out without octets, where a segment without octets stands, and acknowledges what is acknowledged so far. If the initial number
-- is not known by which a number would be translated, that number stays.
abbrev pub reset_sent : Standing → Standing → Segment → ℕ → Sent
reset_sent old receiver segment limit = record {
  sequence =
      cond (is_some old.extent.initial)
      (number_after (known old.extent.initial) (bare_offset old (start_at old.extent (arrival segment))))
      segment.sequence;
  acknowledgement = cond (segment.flags.ack && is_some receiver.extent.initial) (acknowledgement_to receiver) segment.acknowledgement;
  flags = record segment.flags { fin = false; push = false };
  limit = limit;
  octets = [];
}

-- These octets go out, or one segment without octets. The first stands so far behind the initial number. FIN goes out, or doesn't.
abbrev pub data_sent : Standing → ℕ → Segment → ℕ → ℕ → List ℕ → Bool → Bool → Sent
data_sent new acknowledgement segment limit offset octets fin push = record {
  sequence = number_after (known new.extent.initial) offset;
  acknowledgement = acknowledgement;
  flags = record segment.flags { fin = fin; push = push };
  limit = limit;
  octets = octets;
}

-- Any other segment goes out as the places of the image from the first to before the one behind the last. If there are none, a segment
-- without octets goes out, which stands behind all that is due if the end goes out.
abbrev pub other_sent : Extent → Standing → Offset → Segment → ℕ → ℕ → Sent
other_sent old new start segment acknowledgement limit =
    let first = low old new start in
    let past = high old new start (length segment.octets) segment.flags.fin in
    let fin = sends_end new segment.flags.fin in
    cond (nat_lt first past)
    (data_sent new acknowledgement segment limit (first + 1) (new.part first past) fin segment.flags.push)
    (data_sent new acknowledgement segment limit (cond fin (new.extent.due + 1) (bare_offset new start)) [] fin false)

-- What goes out for a segment, by its sender before and after it, and by its receiver before it.
abbrev pub sent_by : Standing → Standing → Standing → Segment → Sent
sent_by old new receiver segment =
    cond segment.flags.syn (syn_sent segment (limit_of receiver.mss segment))
    (cond segment.flags.reset (reset_sent old receiver segment (limit_of receiver.mss segment))
    (other_sent old.extent new (start_at old.extent (arrival segment)) segment
    (acknowledgement_at receiver (acked_with receiver segment))
    (limit_of receiver.mss segment)))

-- ## As segments

-- Octets that go out in one segment, how far they stand behind the first that goes out, and their flags.
pub record Piece : Type 0 where
  pub offset : ℕ
  pub octets : List ℕ
  pub fin : Bool
  pub push : Bool

-- The octets are cut after so many each, and this is the piece with this index. The last piece has FIN and PSH, where they go out.
abbrev pub piece_at : ℕ → ℕ → List ℕ → Bool → Bool → ℕ → Piece
piece_at limit offset octets fin push index = record {
  offset = offset + cut_at (length octets) limit index;
  octets = piece_octets octets limit index;
  fin = not (more_follow (length octets) limit index) && fin;
  push = not (more_follow (length octets) limit index) && push;
}

-- All pieces of these octets, in their order.
abbrev pub pieces : ℕ → ℕ → List ℕ → Bool → Bool → List Piece
pieces limit offset octets fin push = map (piece_at limit offset octets fin push) (range_with_len 0 (piece_count (length octets) limit))

-- A piece goes out with the number of its first octet (RFC 9293, 3.4: numbers begin again after 2 ^ 32 - 1).
abbrev pub segment_with : Sent → Piece → Outgoing
segment_with s p = record {
  sequence = (s.sequence + p.offset) % 2 ^ 32;
  acknowledgement = s.acknowledgement;
  flags = record s.flags { fin = p.fin; push = p.push };
  octets = p.octets;
}

-- One segment goes out where no octets do.
abbrev pub alone : Sent → Outgoing
alone s = record { sequence = s.sequence; acknowledgement = s.acknowledgement; flags = s.flags; octets = s.octets }

-- Without octets that one segment goes out, otherwise pieces of the limit, of which the last may be shorter.
abbrev pub sent_in : Sent → List ℕ → List Outgoing
sent_in s [] = alone s ∷ []
sent_in s (octet ∷ octets) = map (segment_with s) (pieces s.limit 0 (octet ∷ octets) s.flags.fin s.flags.push)

-- All that goes out for a segment, as segments.
abbrev pub in_pieces : Sent → List Outgoing
in_pieces s = sent_in s s.octets

-- ## What else a step answers

-- An RST ends the session. One that starts before the end of its sender's octets so far is old, and doesn't (RFC 9293, 3.10.7.4).
abbrev pub ends_by : Standing → Segment → Bool
ends_by sender segment = segment.flags.reset && (is_none sender.extent.initial || ((start_at sender.extent (arrival segment)).before == 0))

-- An ICMP error brings back the head of a segment that went out, whose number is one of the image (RFC 792). Its sender gets its own number
-- of the octet whose image has that place. If the place is acknowledged, it gets the one just before its first octet that is not. The place
-- is told by how far it lies before the end of what is due, or behind it.
abbrev pub inner_number : Standing → ℕ → Offset → ℕ
inner_number sender initial place =
    cond (nat_le (sender.acked + place.before) (sender.extent.due + place.after))
    (number_at initial (sender.back (sender.extent.due + place.after - place.before)))
    (number_after initial (first_recent sender))

-- There is no such number of a place that was not sent yet.
abbrev pub inner_at : Standing → ℕ → Offset → Option ℕ
inner_at sender initial place = cond (nat_lt (one_if sender.extent.ended) place.after) None (Some (inner_number sender initial place))

-- The same of a number of the image. There is none while the initial number is not known.
abbrev pub inner_by : Standing → Option ℕ → ℕ → Option ℕ
inner_by sender None number = None
inner_by sender (Some initial) number = inner_at sender initial (place_near initial sender.extent.due number)
