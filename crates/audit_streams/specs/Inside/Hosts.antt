-- What only proofs and private contracts need beside `Hosts`.
use Rattle.dialogue.specs.Prelude.{Meaning}
use Rattle.stream_model.specs.Prelude.{Sender}
use Rattle.audit_streams.specs.Hosts.{Heard, sender_by}

-- a dialogue, and what was heard of the host whose octets go on by it
pub record HeardStream (D : Type 0) : Type 0 where
  pub dialogue : D
  pub heard : Heard

-- the sender, by what its dialogue means
abbrev pub sender_of : {D : Type 0} → (D → Meaning) → HeardStream D → Sender
sender_of meaning x = sender_by (meaning x.dialogue) x.heard
