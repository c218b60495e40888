-- Frames for which memory runs out.
use Rattle.std.proofs.Common.{◌≡◌, ℕ, List, [], Option, Some, None, refl, sym, ap, subst, ◌≤◌, length, inl, inr}
use Rattle.gate_base.specs.Prelude.{Event}
use Rattle.verdicts.specs.Prelude.{first_that_holds, unless_refused}
use Rattle.verdicts.specs.declared.refusal.Refusal.{Refusal}
use Rattle.gate_base.specs.declared.side.Side.{Side}
use Rattle.gate_base.specs.declared.host.Host.TheVariants.{Client, Server}
use Rattle.ipv4_frames.specs.Ipv4.{Datagram}
use Rattle.stream_gate.specs.Prelude.{KeptCompletes}
use Rattle.gate_model.specs.Prelude.{Kind, Lists, Tracked, World, datagram_in, found_in, host_on, kind_of, meaning_by, segment_of, session_in, session_refusal, units_in}
use Rattle.gate_sessions.specs.Compact.{CompactSession, compact_rules}
use Rattle.gate_sessions.specs.Gives.{kept_gives}
use Rattle.gate_sessions.specs.Sessions.{ListedMayWant, KeptMayWant}
use Rattle.event_segments.specs.Prelude.{stream_refusal}
use Rattle.event_state.specs.Lost.{IsLost, KindMayWant, SegmentMayWant, early_tests}
use Rattle.gate_core.specs.Memory.{CompletesKept, GateMayWant}

-- by its session
lost_by : (live : World CompactSession) (side : Side) (d : Datagram) (t : Tracked CompactSession) → session_in (found_in live side d) ≡ Some t
    → session_refusal compact_rules side d (Some t) ≡ None → None ≡ stream_refusal compact_rules live side d
    → (lists : Option Lists) → t.session.lists ≡ lists → ListedMayWant lists (host_on side t) t.session (segment_of d)
    → SegmentMayWant compact_rules CompletesKept live side d
lost_by live side d t e verdict p None l h =
    let k = t.session in
    let kept : CompletesKept (host_on side t) k (segment_of d) =
    subst (λ (ls : Option Lists). KeptCompletes (meaning_by ls k.pair Client) (meaning_by ls k.pair Server) (host_on side t) k.kept (segment_of d))
    (sym l) h in
    inl (sym p, inr (record { tracked = t; found = e; refusal = verdict; wants = kept }))
lost_by live side d t e verdict p (Some lists) l h =
    let units = compact_rules.units (host_on side t) t.session (segment_of d) in
    let same : units_in compact_rules side d (Some t) ≡ units = ap (λ (v : Option Refusal). unless_refused v units []) verdict in
    inr (record { tracked = t; found = e; completes = subst (λ (us : List (List ℕ)). 1 ≤ length us) (sym same) h })

-- a segment of which the engine says so
segment_wants : (live : World CompactSession) (side : Side) (d : Datagram) → SegmentMayWant compact_rules KeptMayWant live side d
    → SegmentMayWant compact_rules CompletesKept live side d
segment_wants live side d (inl (none, inl begins)) = inl (none, inl begins)
segment_wants live side d (inl (none, inr m)) = lost_by live side d m.tracked m.found m.refusal (sym none) m.tracked.session.lists refl m.wants
segment_wants live side d (inr units) = inr units

needs_by : (kind : Kind) (live : World CompactSession) (side : Side) (d : Datagram) → KindMayWant compact_rules KeptMayWant kind live side d
    → KindMayWant compact_rules CompletesKept kind live side d
needs_by kind live side d (inl dns) = inl dns
needs_by kind live side d (inr (stream, wants)) = inr (stream, segment_wants live side d wants)

-- a frame of which it says so
pub wanted : (live : World CompactSession) (e : Event) (after : World CompactSession) (sent : List (List ℕ))
    → IsLost compact_rules (kept_gives {P = Unit {0}}) (first_that_holds (early_tests live e)) (kind_of (datagram_in e)) live e.side (datagram_in e)
    after sent → GateMayWant live e
wanted live e after sent h = record { early = h.allowed; needs = needs_by (kind_of (datagram_in e)) live e.side (datagram_in e) h.wants }
