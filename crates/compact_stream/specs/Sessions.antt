-- What is kept of a session.
use Rattle.std.specs.Prelude.{ℕ, false, [], Option, Some, None}
use Rattle.shift_ledger.specs.Prelude.{Kept}
use Rattle.verdicts.specs.declared.refusal.Refusal.{Refusal}
use Rattle.gate_base.specs.declared.host.Host.{Host}
use Rattle.gate_base.specs.declared.host.Host.TheVariants.{Client, Server}
use Rattle.dialogue.specs.Prelude.{Meaning}
use Rattle.stream_model.specs.Prelude.{Session, Segment, arrival, refusal_of}
use Rattle.compact_stream.specs.Kept.{CompactSender, KeepsSender, extent_kept, unlike_kept, own_kept, other_kept}
use Rattle.tcp_segments.specs.declared.options.TheConstants.{DEFAULT_SEGMENT_SIZE}

-- what is kept of both hosts
pub record CompactState : Type 0 where
  pub client : CompactSender
  pub server : CompactSender

-- what is kept of the session that a client's first SYN makes, by its initial number, its maximum segment size and two ledgers of nothing
abbrev pub kept_made : ℕ → ℕ → Kept → Kept → CompactState
kept_made initial mss client server = record {
  client = record { mss = mss; initial = Some initial; ended = false; acked = 0; rest = []; released = false; ledger = client; recent = [] };
  server = record { mss = DEFAULT_SEGMENT_SIZE; initial = None; ended = false; acked = 0; rest = []; released = false; ledger = server; recent = [] };
}

-- what is kept is that of this session
pub record StandsForSession (m n : Meaning) (h : CompactState) (x : Session) : Type 0 where
  pub client : KeepsSender m h.client x.client
  pub server : KeepsSender n h.server x.server

-- what is kept of who sends a segment of this host
abbrev pub sender_kept : Host → CompactState → CompactSender
sender_kept Client h = h.client
sender_kept Server h = h.server

-- what is kept of who takes it
abbrev pub receiver_kept : Host → CompactState → CompactSender
receiver_kept Client h = h.server
receiver_kept Server h = h.client

-- why a segment is refused, by what is kept
abbrev pub kept_refusal : Host → CompactState → Segment → Option Refusal
kept_refusal from h segment =
    refusal_of from (extent_kept (sender_kept from h)) (extent_kept (receiver_kept from h)) (arrival segment)
    (unlike_kept (sender_kept from h) segment)

-- what is kept after a segment of a host
abbrev pub kept_next : Meaning → Meaning → Host → CompactState → Segment → CompactState
kept_next m n Client h segment = record { client = own_kept m h.client segment; server = other_kept h.server segment }
kept_next m n Server h segment = record { client = other_kept h.client segment; server = own_kept n h.server segment }
