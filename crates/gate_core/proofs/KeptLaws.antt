-- The laws of the rules by what is kept.
use Rattle.std.proofs.Common.{◌≡◌, ◌&&◌, ◌||◌, Bool, true, false, None, refl, ap, ◌==◌, is_none}
use Rattle.gate_base.specs.declared.host.Host.{Host}
use Rattle.gate_base.specs.declared.host.Host.TheVariants.{Client}
use Rattle.tcp_segments.specs.Prelude.{Tcp, flags_of}
use Rattle.compact_stream.specs.Prelude.{unlike_kept, kept_made, kept_refusal, sender_kept, start_kept}
use Rattle.stream_gate.specs.Prelude.{nothing_pushed}
use Rattle.stream_gate.proofs.GateLemmas.{syn_alone}
use Rattle.stream_model.specs.Prelude.{segment_in}
use Rattle.gate_model.specs.Prelude.{is_opening}
use Rattle.gate_sessions.specs.Compact.{CompactSession, compact_rules}
use Rattle.gate_sessions.proofs.Listing.{kept_have_lists}
use Rattle.event_segments.proofs.NoUnits.{syn_held}
use Rattle.event_state.specs.Engines.{HasLaws}

-- a SYN that passes has no RST
opens_plain : (tcp : Tcp) → is_opening tcp.flags ≡ true
    → kept_refusal Client (kept_made tcp.sequence tcp.mss nothing_pushed nothing_pushed) (segment_in tcp) ≡ None → (flags_of tcp.flags).reset ≡ false
opens_plain tcp opens none =
    let h = kept_made tcp.sequence tcp.mss nothing_pushed nothing_pushed in
    syn_alone Client h.client h.server (segment_in tcp) (unlike_kept h.client (segment_in tcp)) none
    (syn_held (flags_of tcp.flags).syn (flags_of tcp.flags).ack opens)

goes_on : (f : Host) (k : CompactSession) (tcp : Tcp) → (flags_of tcp.flags).reset ≡ false → compact_rules.ends f k (segment_in tcp) ≡ false
goes_on f k tcp plain =
    ap (λ (x : Bool). x && (is_none (sender_kept f k.kept).initial || (start_kept (sender_kept f k.kept) (segment_in tcp)).before == 0)) plain

pub kept_laws : HasLaws compact_rules
kept_laws = record { lists = kept_have_lists; pairs = λ port p q initial mss g. refl; opens = λ pair tcp. opens_plain tcp; goes_on = goes_on }
