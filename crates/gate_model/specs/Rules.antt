-- What a tracked session answers, however it is represented.
use Rattle.std.specs.Prelude.{ℕ, Bool, List, Option}
use Rattle.gate_base.specs.declared.address.Addr.{Addr}
use Rattle.gate_base.specs.declared.event.Pair.{Pair}
use Rattle.verdicts.specs.declared.refusal.Refusal.{Refusal}
use Rattle.gate_base.specs.declared.host.Host.{Host}
use Rattle.gate_base.specs.declared.host.Host.TheVariants.{Client, Server}
use Rattle.dialogue.specs.Prelude.{Entry}
use Rattle.stream_model.specs.Prelude.{Segment, Outgoing, segment_refusal, session_ends, session_inner, session_made, session_open, session_out}
use Rattle.gate_model.specs.Sessions.{WholeSession, entries_by, lists_at, meaning_by, whole_units, whole_learned, whole_next}

-- the answers of sessions of one representation; where a segment is taken, it is told which host sends it, and what an address that it names first is called
pub record SessionRules (S : Type 0) : Type 0 where
  -- the session of a client's first SYN, by the server's port, the pair of its hosts, the SYN's number and its maximum segment size
  pub made : ℕ → Pair → ℕ → ℕ → S
  -- why a segment is refused
  pub refusal : Host → S → Segment → Option Refusal
  -- the units that a segment completes; only a session of DNS tells any
  pub units : Host → S → Segment → List (List ℕ)
  -- the list of entries of a host
  pub listed : Host → S → List Entry
  -- the session after a segment that passes, into whose list the addresses in its units are entered first
  pub next : (Addr → Option Addr) → Host → S → Segment → S
  -- what goes out of it
  pub out : (Addr → Option Addr) → Host → S → Segment → List Outgoing
  -- whether it ends the session
  pub ends : Host → S → Segment → Bool
  -- the sender's own number of one that an ICMP error brings back
  pub inner : Host → S → ℕ → Option ℕ
  -- how many changed lines or units wait to be acknowledged
  pub pending : S → ℕ

-- sessions over whole lists
abbrev pub whole_rules : SessionRules WholeSession
whole_rules = record {
  made = λ port pair initial mss. let meaning = meaning_by (lists_at port) pair in
      record { lists = lists_at port; session = session_made (meaning Client) (meaning Server) initial mss };
  refusal = λ from x segment. segment_refusal from x.session segment;
  units = whole_units;
  listed = λ host x. entries_by x.lists host;
  next = whole_next;
  out = λ image from x segment. session_out from (whole_learned image from x segment).session segment;
  ends = λ from x segment. session_ends from x.session segment;
  inner = λ host x number. session_inner host x.session number;
  pending = λ x. session_open x.session;
}
