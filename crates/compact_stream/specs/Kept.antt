-- What is kept of a sender, without the octets that will not be sent again.
use Rattle.std.specs.Prelude.{◌≡◌, ◌≤◌, ◌<◌, ◌+◌, ◌-◌, ◌*◌, ℕ, Bool, true, false, ◌||◌, cond, nat_le, min, max, List, [], ◌++◌, length, drop, Option, Some}
use Rattle.dialogue.specs.Prelude.{Meaning, IsRest, is_released, Push, Plain, is_unlike, Cut, cut, due_rest, pushes_of, back}
use Rattle.dialogue.specs.declared.TheConstants.{MOST_RECENT}
use Rattle.shift_ledger.specs.Prelude.{back_by, Kept, StandsFor, pushed, pruned}
use Rattle.tcp_segments.specs.Prelude.{one_if}
use Rattle.stream_model.specs.Prelude.{Sender, Segment, arrival, start_at, place_acknowledged}
use Rattle.stream_model.specs.declared.refusals.Extent.{Extent}
use Rattle.compact_stream.specs.Runs.{held_rest, run, all_pushed}
use Rattle.stream_model.specs.declared.refusals.TheConstants.{STREAM_LIMIT}

-- the pushes whose image is due
abbrev pub sent_pushes : Meaning → Bool → Cut → List Push
sent_pushes m ended c = pushes_of m c (due_rest m ended c.rest)

-- a sender: of its octets are kept a held rest, or else whether there is a released one, a ledger of the pushes whose image is due, and the recent ones, which may be sent again
pub record CompactSender : Type 0 where
  pub mss : ℕ
  pub initial : Option ℕ
  pub ended : Bool
  pub acked : ℕ
  pub rest : List ℕ
  pub released : Bool
  pub ledger : Kept
  pub recent : List ℕ

-- the sender with these octets
abbrev pub sender_of : Meaning → CompactSender → List ℕ → Sender
sender_of m h octets = record { meaning = m; mss = h.mss; initial = h.initial; octets = octets; ended = h.ended; acked = h.acked }

-- what is kept is that of these octets
pub record Keeps (m : Meaning) (h : CompactSender) (s : List ℕ) : Type 0 where
  pub rest : h.rest ≡ cond h.ended [] (held_rest m (cut m s).rest)
  pub released : h.ended ≡ false → h.released ≡ is_released m (cut m s).rest
  pub ledger : StandsFor h.ledger (sent_pushes m h.ended (cut m s)) (min h.acked h.ledger.octets_out)
  pub recent : h.recent ≡ drop (back m h.ended s h.acked) s

-- what is kept is that of this sender
pub record KeepsSender (m : Meaning) (h : CompactSender) (a : Sender) : Type 0 where
  pub is : a ≡ sender_of m h a.octets
  pub keeps : Keeps m h a.octets

-- what decides a refusal, of it
abbrev pub extent_kept : CompactSender → Extent
extent_kept h =
    record { initial = h.initial; octets = h.ledger.octets_in + length h.rest; due = h.ledger.octets_out; ended = h.ended; recent = length h.recent }

-- how many octets it has sent
abbrev pub octets_kept : CompactSender → ℕ
octets_kept h = h.ledger.octets_in + length h.rest

-- the place of the first recent octet
abbrev pub recent_start : CompactSender → ℕ
recent_start h = octets_kept h - length h.recent

-- Back of a place of its image, from the greatest acknowledged one on
abbrev pub back_kept : CompactSender → ℕ → ℕ
back_kept h q = cond (nat_le q h.ledger.octets_out) (back_by h.ledger q) (octets_kept h + 1)

-- a segment has other octets than the recent ones, at their places
abbrev pub unlike_kept : CompactSender → Segment → Bool
unlike_kept h segment = is_unlike h.recent (start_at (extent_kept h) (arrival segment)).before segment.octets

-- its numbers are in their ranges, its rest is one, and an image has at most one and a half times its octets
pub record InRange (m : Meaning) (h : CompactSender) : Type 0 where
  pub octets : h.ledger.octets_in + length h.rest < STREAM_LIMIT
  pub image : 2 * h.ledger.octets_out ≤ 3 * h.ledger.octets_in
  pub acked : h.acked ≤ h.ledger.octets_out + one_if h.ended
  pub rest : IsRest m h.rest
  pub recent : length h.recent ≤ MOST_RECENT

-- an open stream with these octets more
abbrev pub went_on : Meaning → CompactSender → List ℕ → CompactSender
went_on m h octets =
    let r = run m (record { rest = h.rest; released = h.released; pushes = [] }) octets in
    record h { rest = r.rest; released = r.released; ledger = all_pushed h.ledger r.pushes; recent = h.recent ++ octets }

-- an open stream ends: a held rest is pushed
abbrev pub closed : CompactSender → CompactSender
closed h = record h { ended = true; rest = []; ledger = pushed h.ledger (Plain (length h.rest)) }

-- what is kept after a segment with neither SYN nor RST
abbrev pub taken_kept : Meaning → CompactSender → Segment → CompactSender
taken_kept m h segment =
    let more = went_on m h (drop (start_at (extent_kept h) (arrival segment)).before segment.octets) in
    cond h.ended h (cond segment.flags.fin (closed more) more)

-- what is kept of who sent a segment, after it
abbrev pub own_kept : Meaning → CompactSender → Segment → CompactSender
own_kept m h segment =
    cond segment.flags.syn (record h { initial = Some segment.sequence; mss = segment.mss }) (cond segment.flags.reset h (taken_kept m h segment))

-- the image is acknowledged up to a place: changed units below it and octets below its Back are forgotten
abbrev pub acknowledged_kept : CompactSender → ℕ → CompactSender
acknowledged_kept h place =
    let acked = max h.acked place in
    record h { acked = acked; ledger = pruned h.ledger (min acked h.ledger.octets_out); recent = drop (back_kept h acked - recent_start h) h.recent }

-- what is kept of who took a segment, after it
abbrev pub other_kept : CompactSender → Segment → CompactSender
other_kept h segment = cond (segment.flags.syn || segment.flags.reset) h (acknowledged_kept h (place_acknowledged (extent_kept h) (arrival segment)))
