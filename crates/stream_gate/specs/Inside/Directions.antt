-- What only proofs and private contracts need beside `Directions`.
use Rattle.std.specs.Prelude.{◌-◌, ℕ, Bool, false, cond, List, [], length, drop, Option}
use Rattle.dialogue.specs.Prelude.{Meaning}
use Rattle.shift_ledger.specs.Prelude.{Kept}
use Rattle.compact_stream.specs.Prelude.{CompactSender, Keeps, InRange, went_on, closed}
use Rattle.stream_gate.specs.Directions.{nothing_pushed}

-- a dialogue, and what is kept of a sender but for its ledger's spare
pub record DirectionKept (D : Type 0) : Type 0 where
  pub dialogue : D
  pub kept : CompactSender

-- what the fields keep
abbrev pub kept_by : ℕ → Option ℕ → Bool → ℕ → ℕ → Bool → Kept → List ℕ → CompactSender
kept_by mss initial ended acked held released ledger recent = record {
  mss = mss;
  initial = initial;
  ended = ended;
  acked = acked;
  rest = drop (length recent - held) recent;
  released = released;
  ledger = record ledger { spare = 0 };
  recent = recent;
}

-- it is in its ranges, and there is a stream of which it is kept
pub record IsStream (m : Meaning) (h : CompactSender) : Type 0 where
  pub range : InRange m h
  pub octets : List ℕ
  pub keeps : Keeps m h octets

-- a sender that has sent nothing
abbrev pub sender_begun : Option ℕ → ℕ → CompactSender
sender_begun initial mss =
    record { mss = mss; initial = initial; ended = false; acked = 0; rest = []; released = false; ledger = nothing_pushed; recent = [] }

-- a stream with these octets more, which end it or not; an ended one stays as it is
abbrev pub taken_by : Meaning → CompactSender → List ℕ → Bool → CompactSender
taken_by m h octets fin = cond h.ended h (cond fin (closed (went_on m h octets)) (went_on m h octets))
