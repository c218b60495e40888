-- The first segment of a session.
use Rattle.std.proofs.Common.{◌≡◌, ℕ, true, false, ◌&&◌, Option, Some, None, refl, sym, ap, ◌∙◌, Bool, cond}
use Rattle.std.proofs.lemmas.Bool.{and_parts}
use Rattle.gate_base.specs.declared.event.Pair.{Pair}
use Rattle.verdicts.specs.declared.refusal.Refusal.{Refusal}
use Rattle.gate_base.specs.declared.side.Side.{Side}
use Rattle.gate_base.proofs.Sides.{same_side-itself}
use Rattle.gate_base.specs.declared.host.Host.TheVariants.{Client, Server}
use Rattle.binding_table.specs.Prelude.{Bindings}
use Rattle.ipv4_frames.specs.Ipv4.{Datagram}
use Rattle.tcp_segments.specs.Prelude.{Tcp, flags_of}
use Rattle.tcp_tracker.specs.Prelude.{connection_of}
use Rattle.tcp_tracker.specs.declared.connection.ConnKey.{ConnKey}
use Rattle.stream_model.specs.Prelude.{segment_in}
use Rattle.gate_model.specs.Prelude.{Stream, is_tracked_port, SessionRules, tcp_of, segment_of, key_in, is_opening, pair_in, made_by, session_refusal, ends_by, table_after, World, host_on}
use Rattle.event_payloads.specs.declared.addresses.Way.{Way}
use Rattle.event_segments.specs.Prelude.{made_on, pair_on}
use Rattle.event_segments.proofs.SegmentTests.{IsFirst, first_is}
use Rattle.event_state.specs.Engines.{HasLaws}

-- its verdict is that of a session of any pair
pub first_refusal : {S : Type 0} (rules : SessionRules S) → HasLaws rules → (side : Side) (port : ℕ) (p q : Pair) (tcp : Tcp) (d : Datagram)
    → tcp ≡ tcp_of d → session_refusal rules side d (Some (record { client = side; pair = p; session = rules.made port p tcp.sequence tcp.mss }))
    ≡ rules.refusal Client (rules.made port q tcp.sequence tcp.mss) (segment_in tcp)
first_refusal rules laws side port p q tcp d e =
    ap (λ (b : Bool). rules.refusal (cond b Client Server) (rules.made port p tcp.sequence tcp.mss) (segment_of d)) (same_side-itself side)
    ∙ laws.pairs port p q tcp.sequence tcp.mss (segment_of d)
    ∙ ap (λ (t : Tcp). rules.refusal Client (rules.made port q tcp.sequence tcp.mss) (segment_in t)) (sym e)

begun_refusal : {S : Type 0} (rules : SessionRules S) → HasLaws rules → (table : Bindings) (side : Side) (q : Pair) (tcp : Tcp) (d : Datagram)
    → tcp ≡ tcp_of d → session_refusal rules side d (Some (made_by rules table side d)) ≡ rules.refusal Client
    (rules.made tcp.destination_port q tcp.sequence tcp.mss) (segment_in tcp)
begun_refusal rules laws table side q tcp d e =
    first_refusal rules laws side (tcp_of d).destination_port (pair_in table side d) q (tcp_of d) d refl
    ∙ ap (λ (t : Tcp). rules.refusal Client (rules.made t.destination_port q t.sequence t.mss) (segment_in t)) (sym e)

pub first_begins : {S : Type 0} (rules : SessionRules S) → HasLaws rules
    → (live : World S) (way : Way) (d : Datagram) (key : ConnKey) (tcp : Tcp) (pair : Pair) (verdict : Option Refusal)
    → key ≡ key_in live.table way.side d → connection_of key live.connections ≡ None → tcp ≡ tcp_of d →
    (is_opening tcp.flags && is_tracked_port tcp.destination_port) ≡ true → pair ≡ pair_on way
    → verdict ≡ rules.refusal Client (rules.made tcp.destination_port pair tcp.sequence tcp.mss) (segment_in tcp)
    → IsFirst rules live way.side d verdict
first_begins rules laws live way d key tcp pair verdict named absent is first p v =
    let opens = (and_parts (is_opening tcp.flags) (is_tracked_port tcp.destination_port) first).0 in
    first_is rules laws.lists live way.side d key tcp verdict named absent is first
    (begun_refusal rules laws (table_after rules live way.side live.clock d Stream) way.side pair tcp d is ∙ sym v)
    (λ n. ap (λ (t : Tcp). (flags_of t.flags).reset) (sym is) ∙ laws.opens pair tcp opens (sym v ∙ n))

-- the session that it makes passes it
pub made_passes : {S : Type 0} (rules : SessionRules S) → HasLaws rules
    → (way : Way) (pair : Pair) (tcp : Tcp) (d : Datagram) (verdict : Option Refusal) → tcp ≡ tcp_of d
    → verdict ≡ rules.refusal Client (rules.made tcp.destination_port pair tcp.sequence tcp.mss) (segment_in tcp) → verdict ≡ None
    → session_refusal rules way.side d (Some (made_on rules way tcp)) ≡ None
made_passes rules laws way pair tcp d verdict is v none = first_refusal rules laws way.side tcp.destination_port (pair_on way) pair tcp d is ∙ sym v
    ∙ none

-- nor does it end
pub begun_goes_on : {S : Type 0} (rules : SessionRules S) → HasLaws rules → (way : Way) (d : Datagram) → (flags_of (tcp_of d).flags).reset ≡ false
    → ends_by rules way.side d (Some (made_on rules way (tcp_of d))) ≡ false
begun_goes_on rules laws way d plain =
    let t = made_on rules way (tcp_of d) in
    laws.goes_on (host_on way.side t) t.session (tcp_of d) plain
