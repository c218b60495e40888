-- What an engine tells of datagrams, and does with its sessions.
use Rattle.std.specs.Prelude.{◌≡◌, ℕ, true, false, List, [], Option, Some, None}
use Rattle.gate_base.specs.declared.address.Addr.{Addr}
use Rattle.gate_base.specs.declared.event.Pair.{Pair}
use Rattle.gate_base.specs.declared.side.Side.{Side}
use Rattle.gate_base.specs.declared.host.Host.{Host}
use Rattle.gate_base.specs.declared.host.Host.TheVariants.{Client}
use Rattle.ipv4_frames.specs.Ipv4.{Datagram}
use Rattle.tcp_segments.specs.Prelude.{Tcp, flags_of}
use Rattle.stream_model.specs.Prelude.{Segment, segment_in}
use Rattle.gate_model.specs.Prelude.{HasLists, SessionRules, segment_of, is_opening, Tracked, host_on}
use Rattle.event_payloads.specs.Prelude.{image_by}
use Rattle.event_payloads.specs.declared.addresses.Way.{Way}
use Rattle.event_segments.specs.Prelude.{Tells, waiting_after}
use Rattle.event_state.specs.declared.stepped.Stepped.{Stepped}

-- what is told of datagrams that pass; what is told of a segment by what its session handed out and the datagrams that it put; whether all stays as it was where memory runs out for a datagram; and the segments for which a session may want it
pub record Gives (S P A : Type 0) : Type 1 where
  pub tells : Tells S A
  pub cut : P → List (List ℕ) → A
  pub Keeps : Type 0
  pub MayWant : Host → S → Segment → Type 0

-- a session takes a segment: this goes out, and so many changed lines or units wait in it then
pub record IsStepped {S P A : Type 0} (rules : SessionRules S) (gives : Gives S P A) (image : Addr → Option Addr) (way : Way) (d : Datagram)
    (t : Tracked S) (stepped : Stepped P) (sent : List (List ℕ)) : Type 0 where
  pub gone : gives.cut stepped.sent sent ≡ gives.tells.segment image way.side d (image_by way.of_source way.source).0
      (image_by way.of_destination way.destination).0 (Some t)
  pub waits : stepped.waiting ≡ waiting_after rules image way.side d t

-- memory runs out for it, where it may: nothing has changed, where the engine says that
pub record IsUnstepped {S P A X : Type 0} (gives : Gives S P A) (side : Side) (d : Datagram) (t : Tracked S) (before after : X)
    (sent : List (List ℕ)) : Type 0 where
  pub same : gives.Keeps → after ≡ before
  pub nothing : gives.Keeps → sent ≡ []
  pub wants : gives.MayWant (host_on side t) t.session (segment_of d)

-- what holds of the rules of both engines: they have lists; what a session that begins refuses doesn't depend on its hosts, nor does it pass a SYN with an RST; and only an RST ends one
pub record HasLaws {S : Type 0} (rules : SessionRules S) : Type 0 where
  pub lists : HasLists rules
  pub pairs : (port : ℕ) (p q : Pair) (initial mss : ℕ) (g : Segment)
      → rules.refusal Client (rules.made port p initial mss) g ≡ rules.refusal Client (rules.made port q initial mss) g
  pub opens : (pair : Pair) (tcp : Tcp) → is_opening tcp.flags ≡ true
      → rules.refusal Client (rules.made tcp.destination_port pair tcp.sequence tcp.mss) (segment_in tcp) ≡ None → (flags_of tcp.flags).reset ≡ false
  pub goes_on : (from : Host) (s : S) (tcp : Tcp) → (flags_of tcp.flags).reset ≡ false → rules.ends from s (segment_in tcp) ≡ false
