-- That a session goes on: nothing that is due is kept back, what is sent again brings what is lacking, and what was acknowledged is acknowledged again.
use Rattle.std.specs.Prelude.{◌≡◌, ◌≤◌, ◌<◌, ◌+◌, ◌⊎◌, ℕ, Bool, true, false, cond, List, [], ◌∷◌, ◌++◌, length, Some}
use Rattle.std.specs.List.{slice_get}
use Rattle.dialogue.specs.Prelude.{Meaning, IsRest, is_held, Span, cut, image, spans, back}
use Rattle.stream_model.specs.Numbers.{number_at, number_after, known}
use Rattle.stream_model.specs.Session.{Sender, Segment, Outgoing, due_in, start_of}
use Rattle.stream_model.specs.History.{OneShows}

-- how many of a sender's octets are acknowledged to it, its end counted as one more: the place of the first that isn't
abbrev pub acknowledged_of : Sender → ℕ
acknowledged_of a = back a.meaning a.ended a.octets a.acked

-- a rest that is held in a stream that has not ended, or nothing
abbrev pub held_rest : Meaning → Bool → List ℕ → List ℕ
held_rest m true rest = []
held_rest m false rest = cond (is_held m rest) rest []

-- what is held of a sender's octets
abbrev pub held_of : Sender → List ℕ
held_of a = held_rest a.meaning a.ended (cut a.meaning a.octets).rest

-- of a sender's stream nothing waits but a held rest:
pub record OnlyHeldWaits (a : Sender) : Type 0 where
  -- what is due is all of the image but what is held,
  pub due : image a.meaning a.octets ≡ due_in a ++ held_of a
  -- in which no whole unit stands,
  pub rest : IsRest a.meaning (held_of a)
  -- and which the dialogue holds, if it is anything;
  pub holds : (held_of a ≡ []) ⊎ (a.meaning.holds (held_of a) ≡ true)
  -- where the receiver has acknowledged all that is due, all octets but those held are acknowledged to their sender,
  pub octets : a.acked ≡ length (due_in a) → acknowledged_of a + length (held_of a) ≡ length a.octets
  -- and the end too, where it has acknowledged that
  pub ending : a.ended ≡ true → a.acked ≡ length (due_in a) + 1 → acknowledged_of a ≡ length a.octets + 1

-- a segment begins at this place of its sender's stream, or before it
abbrev pub BeginsBy : Sender → Segment → ℕ → Type 0
BeginsBy a g place = length a.octets + (start_of a g).after ≤ place + (start_of a g).before

-- it ends at this place, or before it
abbrev pub EndsBy : Sender → Segment → ℕ → Type 0
EndsBy a g place = length a.octets + (start_of a g).after + length g.octets ≤ place + (start_of a g).before

-- it ends at this place, or after it
abbrev pub Reaches : Sender → Segment → ℕ → Type 0
Reaches a g place = place + (start_of a g).before ≤ length a.octets + (start_of a g).after + length g.octets

-- it has the octet at this place
pub record Covers (a : Sender) (g : Segment) (place : ℕ) : Type 0 where
  pub begins : BeginsBy a g place
  pub goes_past : Reaches a g (place + 1)

-- each place of a stream from one on is shown by one of these
abbrev pub AllShown : ℕ → List ℕ → ℕ → List Outgoing → Type 0
AllShown initial stream first outs = (q : ℕ) → first ≤ q → q < length stream → OneShows initial stream q outs

-- an end goes out, behind octets that end at this place, or alone at it
pub record EndsAt (initial place : ℕ) (o : Outgoing) : Type 0 where
  pub fin : o.flags.fin ≡ true
  pub at : ℕ
  pub number : o.sequence ≡ number_at initial at
  pub octets : at + length o.octets ≡ place

-- with one of these the end goes out at this place
abbrev pub OneEnds : ℕ → ℕ → List Outgoing → Type 0
OneEnds initial place [] = ⊥
OneEnds initial place (o ∷ os) = EndsAt initial place o ⊎ OneEnds initial place os

-- one segment without octets and without an end, with the number just before that of the first octet that its receiver has not acknowledged: a receiver answers such a one by acknowledging again (RFC 9293, 3.10.7.4)
pub record AsksAgain (initial acked : ℕ) (outs : List Outgoing) : Type 0 where
  pub one : Outgoing
  pub is : outs ≡ one ∷ []
  pub octets : one.octets ≡ []
  pub fin : one.flags.fin ≡ false
  pub number : one.sequence ≡ number_after initial acked

-- what goes out for a segment, which its sender a sends and after which it is new:
pub record Brings (a new : Sender) (g : Segment) (outs : List Outgoing) : Type 0 where
  -- all that becomes due with it;
  pub due : AllShown (known a.initial) (due_in new) (length (due_in a)) outs
  -- the end, where the stream ends with it;
  pub ended : a.ended ≡ false → g.flags.fin ≡ true → OneEnds (known a.initial) (length (due_in new)) outs
  -- where it has the first octet that is not acknowledged to its sender, the first octet of the image that its receiver has not acknowledged, as long as that is due,
  pub lacking : Covers a g (acknowledged_of a) → a.acked < length (due_in new) → OneShows (known a.initial) (due_in new) a.acked outs
  -- and all that is due from there on, where it goes as far as its sender's octets so far;
  pub onward : Covers a g (acknowledged_of a) → Reaches a g (length a.octets) → AllShown (known a.initial) (due_in new) a.acked outs
  -- of each of its octets that is not acknowledged to its sender, the whole image, as far as it is due;
  pub each : (p q : ℕ) (x : Span) → acknowledged_of a ≤ p → Covers a g p → slice_get (spans new.meaning new.octets) p ≡ Some x → x.first ≤ q
      → q < x.past → q < length (due_in new) → OneShows (known a.initial) (due_in new) q outs
  -- where it has the end, which its receiver has not acknowledged, the end,
  pub ending : g.flags.fin ≡ true → a.acked ≤ length (image new.meaning new.octets) → OneEnds (known a.initial) (length (due_in new)) outs
  -- behind all that is due and not acknowledged, unless it begins behind the first octet that is not acknowledged to its sender;
  pub behind : g.flags.fin ≡ true → a.acked ≤ length (image new.meaning new.octets) → BeginsBy a g (acknowledged_of a)
      → AllShown (known a.initial) (due_in new) a.acked outs
  -- and where all of it, the end too, is acknowledged to its sender and it repeats something, a segment that asks the receiver to acknowledge again
  pub again : EndsBy a g (acknowledged_of a) → ((1 ≤ (start_of a g).before) ⊎ (g.flags.fin ≡ true))
      → ((g.flags.fin ≡ false) ⊎ (length (image new.meaning new.octets) < a.acked)) → AsksAgain (known a.initial) a.acked outs
