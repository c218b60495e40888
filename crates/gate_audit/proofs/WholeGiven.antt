-- How many datagrams go out whole.
use Rattle.std.proofs.Common.{◌≡◌, ℕ, List, Option, Some, None, ap, length, []}
use Rattle.gate_base.specs.declared.address.Addr.{Addr}
use Rattle.verdicts.specs.declared.refusal.Refusal.{Refusal}
use Rattle.gate_base.specs.declared.side.Side.{Side}
use Rattle.ipv4_frames.specs.Ipv4.{Datagram}
use Rattle.gate_model.specs.Prelude.{Whole, Kind, Stream, taker_in, table_after, image_in, World, Tracked, called, source_of, destination_of}
use Rattle.lawful_files.specs.Prelude.{Wanted, Exactly, Cut, wanted_segment}
use Rattle.audit_records.specs.Cutting.{Cutting}
use Rattle.audit_sessions.specs.Gives.{audit_tells, heard_gives}
use Rattle.audit_sessions.specs.Heard.{HeardSession, heard_rules, heard_sent}
use Rattle.event_segments.specs.Prelude.{told_kind}
use Rattle.event_state.specs.Given.{IsGiven}
use Rattle.event_state.specs.declared.taken.Taken.{Taken}
use Rattle.event_state.specs.declared.taken.Taken.TheVariants as takes
use Rattle.gate_audit.specs.Inside.Given.{IsWhole}

abbrev datagrams_of : Wanted → List (List ℕ)
datagrams_of (Exactly datagrams) = datagrams
datagrams_of (Cut d source destination sent) = []

one_segment : (image : Addr → Option Addr) (side : Side) (d : Datagram) (source destination : ℕ) (taker : Option (Tracked HeardSession))
    (sent : List (List ℕ)) → Exactly sent ≡ wanted_segment heard_sent image side d source destination taker → length sent ≡ 1
one_segment image side d source destination None sent e = ap (λ (w : Wanted). length (datagrams_of w)) e
one_segment image side d source destination (Some t) sent e = absurd cc

one_kind : (live : World HeardSession) (side : Side) (d : Datagram) (kind : Kind) (sent : List (List ℕ))
    → Exactly sent ≡ told_kind heard_rules audit_tells live side d kind → length sent ≡ 1
one_kind live side d (Whole payload) sent e = ap (λ (w : Wanted). length (datagrams_of w)) e
one_kind live side d Stream sent e =
    let table = table_after heard_rules live side live.clock d Stream in
    one_segment (image_in heard_rules live side live.clock d) side d (called table side (source_of d)).0 (called table side (destination_of d)).0
    (taker_in heard_rules live side live.clock d) sent e

pub is_whole : (told : Option Refusal) (kind : Kind) (live : World HeardSession) (side : Side) (d : Datagram) (taken : Taken Cutting)
    (after : World HeardSession) (sent : List (List ℕ)) → IsGiven heard_rules heard_gives told kind live side d taken after sent → IsWhole taken sent
is_whole told kind live side d (takes.Refused refusal) after sent h = ap datagrams_of h.gone
is_whole told kind live side d takes.Whole after sent h = one_kind live side d kind sent h.gone
is_whole told kind live side d (takes.Cut pieces) after sent h = tt
