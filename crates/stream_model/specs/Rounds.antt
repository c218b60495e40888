-- Two hosts that do what every host does: one sends again from the first octet that it has no acknowledgement of, and the other takes what goes on from what it has, and acknowledges what it has (RFC 9293, 3.8.1, 3.10.7.4).
use Rattle.std.specs.Prelude.{◌≡◌, ◌≤◌, ◌<◌, ◌⊎◌, ℕ, true, List, [], ◌∷◌, length, None}
use Rattle.gate_base.specs.declared.host.Host.{Host}
use Rattle.gate_base.specs.Prelude.{peer}
use Rattle.stream_model.specs.Numbers.{known}
use Rattle.stream_model.specs.Session.{Sender, Session, Segment, Outgoing, own, due_in, extent, arrival, place_acknowledged}
use Rattle.stream_model.specs.Refusals.{is_data, segment_refusal}
use Rattle.stream_model.specs.Steps.{session_next, session_out}
use Rattle.stream_model.specs.History.{OneShows}
use Rattle.stream_model.specs.Progress.{acknowledged_of, BeginsBy, Covers, OneEnds}

-- a host has so many octets of a stream from the first on, its end counted as one more, and so many after these segments: no fewer, and more where they show it the next one, or, behind all of them, the end
pub record Hears (initial : ℕ) (stream : List ℕ) (had : ℕ) (outs : List Outgoing) (has : ℕ) : Type 0 where
  pub keeps : had ≤ has
  pub goes_on : OneShows initial stream had outs → had < has
  pub ends : had ≡ length stream → OneEnds initial had outs → had < has

-- what is sent again, how many octets of the image its receiver has then, and its answer
pub record Round : Type 0 where
  pub repeat : Segment
  pub has : ℕ
  pub answer : Segment

-- the session after both segments, of which this host sends the first
abbrev pub after_repeat : Host → Session → Round → Session
after_repeat host s x = session_next host s x.repeat

abbrev pub after_round : Host → Session → Round → Session
after_round host s x = session_next (peer host) (after_repeat host s x) x.answer

-- not all that is due of a sender's octets is acknowledged, and it sends again the first that it doesn't know to be acknowledged
pub record LacksOctets (a new : Sender) (g : Segment) (knows : ℕ) : Type 0 where
  pub covers : Covers a g knows
  pub lacks : a.acked < length (due_in new)

-- its end isn't acknowledged, and it sends it again, from the first octet on that it doesn't know to be acknowledged
pub record LacksEnd (a new : Sender) (g : Segment) (knows : ℕ) : Type 0 where
  pub begins : BeginsBy a g knows
  pub fin : g.flags.fin ≡ true
  pub ended : new.ended ≡ true
  pub lacks : a.acked ≤ length (due_in new)

-- of the stream of a host that knows so many of its octets to be acknowledged, and of whose image the other host has so many octets:
pub record IsRound (host : Host) (s : Session) (knows had : ℕ) (x : Round) : Type 0 where
  -- while not all that is due is acknowledged, or the end isn't, a segment passes that has the first octet that isn't known to be acknowledged, or begins there and has the end;
  pub passes : segment_refusal host s x.repeat ≡ None
  pub kind : is_data (arrival x.repeat) ≡ true
  pub lacks : LacksOctets (own host s) (own host (after_repeat host s x)) x.repeat knows
      ⊎ LacksEnd (own host s) (own host (after_repeat host s x)) x.repeat knows
  -- the other host hears what goes out for it,
  pub hears : Hears (known (own host s).initial) (due_in (own host (after_repeat host s x))) had (session_out host s x.repeat) x.has
  -- and acknowledges all that it has by a segment that passes
  pub answered : segment_refusal (peer host) (after_repeat host s x) x.answer ≡ None
  pub answers : is_data (arrival x.answer) ≡ true
  pub all : place_acknowledged (extent (own host (after_repeat host s x))) (arrival x.answer) ≡ x.has

-- one round after the other; what comes back with an answer is known from then on
abbrev pub AllRounds : Host → Session → ℕ → ℕ → List Round → Type 0
AllRounds host s knows had [] = Unit {0}
AllRounds host s knows had (x ∷ xs) = IsRound host s knows had x
    × AllRounds host (after_round host s x) (acknowledged_of (own host (after_round host s x))) x.has xs

-- the session after them
abbrev pub after_rounds : Host → Session → List Round → Session
after_rounds host s [] = s
after_rounds host s (x ∷ xs) = after_rounds host (after_round host s x) xs
