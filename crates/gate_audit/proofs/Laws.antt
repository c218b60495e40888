-- The laws of the rules by what was heard.
use Rattle.std.proofs.Common.{◌≡◌, true, false, None}
use Rattle.std.proofs.lemmas.Bool.{and_left}
use Rattle.gate_base.specs.declared.event.Pair.{Pair}
use Rattle.gate_base.specs.declared.host.Host.{Host}
use Rattle.gate_base.specs.declared.host.Host.TheVariants.{Client}
use Rattle.tcp_segments.specs.Prelude.{Tcp, flags_of}
use Rattle.stream_model.specs.Prelude.{segment_in}
use Rattle.audit_streams.proofs.HostLists.{opens_alone}
use Rattle.gate_model.specs.Prelude.{is_opening}
use Rattle.audit_sessions.specs.Heard.{HeardSession, heard_rules, session_in}
use Rattle.audit_sessions.proofs.FreshSessions.{fresh_verdict}
use Rattle.audit_sessions.proofs.HeardLaws.{heard_lists}
use Rattle.event_segments.proofs.NoUnits.{syn_held}
use Rattle.event_state.specs.Engines.{HasLaws}

-- a SYN that passes has no RST
opens_plain : (pair : Pair) (tcp : Tcp) → is_opening tcp.flags ≡ true
    → heard_rules.refusal Client (heard_rules.made tcp.destination_port pair tcp.sequence tcp.mss) (segment_in tcp) ≡ None
    → (flags_of tcp.flags).reset ≡ false
opens_plain pair tcp opens none =
    let s = (session_in (heard_rules.made tcp.destination_port pair tcp.sequence tcp.mss)).session in
    opens_alone Client s.client s.server (segment_in tcp) none (syn_held (flags_of tcp.flags).syn (flags_of tcp.flags).ack opens)

goes_on : (f : Host) (h : HeardSession) (tcp : Tcp) → (flags_of tcp.flags).reset ≡ false → heard_rules.ends f h (segment_in tcp) ≡ false
goes_on f h tcp plain = and_left _ _ plain

pub heard_laws : HasLaws heard_rules
heard_laws = record { lists = heard_lists; pairs = fresh_verdict; opens = opens_plain; goes_on = goes_on }
