-- One host of a session, and both, with the dialogues by which their octets go on.
use Rattle.std.specs.Prelude.{ℕ, Bool, false, List, [], cond, Option}
use Rattle.dialogue.specs.Prelude.{Meaning, is_held, cut}
use Rattle.stream_model.specs.Prelude.{Sender, Session}

-- what was heard of a host
pub record Heard : Type 0 where
  pub mss : ℕ
  pub initial : Option ℕ
  pub octets : List ℕ
  pub ended : Bool
  pub acked : ℕ

-- the sender of which this was heard, whose octets go on so
abbrev pub sender_by : Meaning → Heard → Sender
sender_by m h = record { meaning = m; mss = h.mss; initial = h.initial; octets = h.octets; ended = h.ended; acked = h.acked }

-- both dialogues, and what was heard of both hosts of a session
pub record HeardStreams (C S : Type 0) : Type 0 where
  pub client_dialogue : C
  pub server_dialogue : S
  pub client : Heard
  pub server : Heard

-- the session of both hosts
abbrev pub session_of : {C S : Type 0} → (C → Meaning) → (S → Meaning) → HeardStreams C S → Session
session_of of_client of_server w =
    record { client = sender_by (of_client w.client_dialogue) w.client; server = sender_by (of_server w.server_dialogue) w.server }

-- nothing was heard but a number, if one is known, and the largest segment
abbrev pub unheard : Option ℕ → ℕ → Heard
unheard initial mss = record { mss = mss; initial = initial; octets = []; ended = false; acked = 0 }

-- the held rest of a sender
abbrev pub held_in : Sender → List ℕ
held_in a = cond a.ended [] (let rest = (cut a.meaning a.octets).rest in cond (is_held a.meaning rest) rest [])
