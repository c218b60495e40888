-- Each datagram that goes out has a lifetime less by 1.
use Rattle.std.proofs.Common.{◌≡◌, ◌+◌, ◌-◌, ◌≤◌, ℕ, List, [], ◌∷◌, ◌++◌, All, Option, Some, None, length, drop, map}
use Rattle.std.proofs.Common.{refl, sym, ◌∙◌, ap, subst, arith, length-take-le}
use Rattle.std.proofs.lemmas.List.{drop_all}
use Rattle.std.proofs.lemmas.List.Elements.{All-cons, All-nil}
use Rattle.gate_base.specs.Prelude.{Event}
use Rattle.gate_base.specs.declared.address.Addr.{Addr}
use Rattle.verdicts.specs.declared.verdict.Verdict.TheVariants.{Pass}
use Rattle.gate_base.specs.declared.side.Side.{Side}
use Rattle.ether_frames.specs.Ether.{octets_in}
use Rattle.ipv4_frames.specs.Ipv4.{Datagram, spelled_head, head_with}
use Rattle.ipv4_frames.proofs.Items.{items, front_items}
use Rattle.stream_model.specs.Prelude.{Outgoing}
use Rattle.tcp_segments.specs.Prelude.{spelled_segment, flags_octet}
use Rattle.twice_translate.specs.Renamed.{datagram_of, renamed, sealed_payload, with_payload}
use Rattle.twice_translate.proofs.Accepted.{reads}
use Rattle.binding_table.specs.Prelude.{Bindings}
use Rattle.gate_model.specs.Inner.{inner_after}
use Rattle.gate_model.specs.Prelude.{SessionRules, Kind, Whole, Udp, Echo, Error, Dns, Snmp, Stream, Tracked, World, at_moment, datagram_in, kind_of}
use Rattle.gate_model.specs.Prelude.{out, out_by, out_between, stream_out, sent_as, tcp_of, segment_of, host_on, inside, with_inside, names_after}
use Rattle.gate_model.specs.Prelude.{management_after, table_after, called, source_of, destination_of, image_in, taker_in}
use Rattle.gate_model.specs.Verdict.{verdict}
use Rattle.gate_model.proofs.ReadBack.{is_good}

abbrev IsLower : Datagram → List ℕ → Type 0
IsLower d octets = (datagram_of octets).lifetime ≡ d.lifetime - 1

lower_items : (model payload : List ℕ) (total lifetime source destination : ℕ)
    → (datagram_of (spelled_head (items 0 20 model) total lifetime source destination ++ payload)).lifetime ≡ lifetime
unfolding head_with
lower_items model payload total lifetime source destination = refl

lower_head : (model payload : List ℕ) (total lifetime source destination : ℕ) → length model ≡ 20
    → (datagram_of (spelled_head model total lifetime source destination ++ payload)).lifetime ≡ lifetime
lower_head model payload total lifetime source destination count =
    let none : drop 20 model ≡ [] = drop_all 20 model (omega arith) in
    let shown : items 0 20 model ≡ model = sym (ap (λ more. items 0 20 model ++ more) none) ∙ sym (front_items 20 model (omega arith)) in
    let P : List ℕ → Type 0 = λ m. (datagram_of (spelled_head m total lifetime source destination ++ payload)).lifetime ≡ lifetime in
    subst P shown (lower_items model payload total lifetime source destination)

lower_renamed : (x : Datagram) (source destination : ℕ) → length x.header ≡ 20 → IsLower x (renamed x source destination)
unfolding renamed
lower_renamed x source destination count =
    lower_head x.header (sealed_payload x.protocol source destination x.payload) (20 + length x.payload) (x.lifetime - 1) source destination count

one : (d : Datagram) (octets : List ℕ) → IsLower d octets → All (IsLower d) (octets ∷ [])
one d octets h = All-cons (IsLower d) octets [] h (All-nil (IsLower d))

lower_segments : (d : Datagram) (source destination : ℕ) (outs : List Outgoing) → length d.header ≡ 20
    → All (IsLower d) (map (sent_as d source destination) outs)
lower_segments d source destination [] count = All-nil (IsLower d)
lower_segments d source destination (o ∷ outs) count =
    let segment = spelled_segment (tcp_of d).header source destination o.sequence o.acknowledgement (flags_octet o.flags) o.octets in
    All-cons (IsLower d) (sent_as d source destination o) (map (sent_as d source destination) outs)
    (lower_head d.header segment (20 + length segment) (d.lifetime - 1) source destination count)
    (lower_segments d source destination outs count)

lower_stream : {S : Type 0} (rules : SessionRules S) (image : Addr → Option Addr) (side : Side) (d : Datagram) (source destination : ℕ)
    (t : Option (Tracked S)) → length d.header ≡ 20 → All (IsLower d) (stream_out rules image side d source destination t)
lower_stream rules image side d source destination None count = one d (renamed d source destination) (lower_renamed d source destination count)
lower_stream rules image side d source destination (Some t) count =
    lower_segments d source destination (rules.out image (host_on side t) t.session (segment_of d)) count

lower_between : {S : Type 0} (rules : SessionRules S) (live : World S) (table : Bindings) (side : Side) (moment : ℕ) (d : Datagram)
    (source destination : ℕ) (kind : Kind) → length d.header ≡ 20
    → All (IsLower d) (out_between rules live table side moment d source destination kind)
lower_between rules live table side moment d source destination (Whole Udp) count =
    one d (renamed d source destination) (lower_renamed d source destination count)
lower_between rules live table side moment d source destination (Whole Echo) count =
    one d (renamed d source destination) (lower_renamed d source destination count)
lower_between rules live table side moment d source destination (Whole Error) count =
    let x = with_inside d (inner_after rules live side (inside d)) in
    one d (renamed x source destination) (lower_renamed x source destination count)
lower_between rules live table side moment d source destination (Whole Dns) count =
    let x = with_payload d (names_after live.table table side d) in
    one d (renamed x source destination) (lower_renamed x source destination count)
lower_between rules live table side moment d source destination (Whole Snmp) count =
    let x = with_payload d (management_after table side d) in
    one d (renamed x source destination) (lower_renamed x source destination count)
lower_between rules live table side moment d source destination Stream count =
    lower_stream rules (image_in rules live side moment d) side d source destination (taker_in rules live side moment d) count

pub lifetimes_are : {S : Type 0} (rules : SessionRules S) (w : World S) (e : Event) → verdict rules w e ≡ Pass
    → All (λ octets. (datagram_of octets).lifetime ≡ (datagram_in e).lifetime - 1) (out rules w e)
lifetimes_are rules w e v =
    let octets = octets_in e.link e.octets in
    let live = at_moment w e.moment in
    let d = datagram_in e in
    let table = table_after rules live e.side e.moment d (kind_of d) in
    let read = reads octets (is_good rules w e v).accepted.header in
    let long : 20 ≤ length octets = let low = read.long in let high = read.within in omega (arith, low, high) in
    subst (λ (o : List (List ℕ)). All (IsLower d) o) (sym (ap (out_by rules live e) v))
    (lower_between rules live table e.side e.moment d (called table e.side (source_of d)).0 (called table e.side (destination_of d)).0 (kind_of d)
    (length-take-le 20 octets long))
