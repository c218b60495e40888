-- A segment that a session takes by a plan: what it enters, and what is used.
use Rattle.std.proofs.Common.{◌≡◌, ◌≢◌, ◌≤◌, ◌+◌, ℕ, false, List, [], ◌∷◌, ◌++◌, length, take, Option, Some, refl, sym, ap, subst, ◌∙◌, arith, All, le-ltb, length-append}
use Rattle.gate_base.specs.Prelude.{other}
use Rattle.verdicts.specs.Prelude.{unless_refused}
use Rattle.gate_base.specs.declared.address.Addr.{Addr}
use Rattle.verdicts.specs.declared.refusal.Refusal.{Refusal}
use Rattle.gate_base.specs.declared.side.Side.{Side}
use Rattle.gate_base.specs.declared.host.Host.{Host}
use Rattle.gate_base.specs.declared.host.Host.TheVariants.{Client, Server}
use Rattle.binding_table.specs.Prelude.{Bindings, cross, free, IsLawful, Use, after_uses, needed}
use Rattle.binding_table.specs.declared.binding.Crossing.TheVariants.{Unbound}
use Rattle.dialogue.specs.Prelude.{Entry, AreImages}
use Rattle.dialogue.specs.declared.learns.UnitImage.{UnitImage}
use Rattle.dns_stream.specs.Prelude.{dns_units}
use Rattle.ipv4_frames.specs.Ipv4.{Datagram}
use Rattle.gate_model.specs.Prelude.{HasLists, addresses_in, entered, renamed_in, segment_of, stepped, stream_timeout, uses_until, names_in, uses_of_lists, Tracked, World, addresses_of, source_of, destination_of, host_on, SessionRules}
use Rattle.gate_model.proofs.ListsKept.{needed_front, all_front}
use Rattle.gate_model.proofs.ListsWorld.{lists_grow}
use Rattle.dns_plans.specs.Prelude.{beside, entered_all}
use Rattle.dns_plans.proofs.EnteredLemmas.{entered-beside}
use Rattle.event_payloads.specs.Prelude.{IsWayOf, is_empty}
use Rattle.event_payloads.specs.declared.addresses.Way.{Way}
use Rattle.event_payloads.proofs.HeadersOnly.{empty_is}
use Rattle.event_segments.specs.Prelude.{image_of, IsPlanOf, AreCalled, Enters}
use Rattle.event_segments.specs.SegmentFate.{uses_planned}
use Rattle.event_segments.specs.declared.found.SegmentPlan.{SegmentPlan}
use Rattle.event_segments.proofs.SegmentsPassed.{AreUsed, source_is, destination_is}
use Rattle.event_segments.proofs.UnitsUsed.{until_of, table_with, header_called}

-- ## What is entered

named_in_session : {S : Type 0} (rules : SessionRules S) (side : Side) (d : Datagram) (t : Tracked S) (live : World S) (plan : SegmentPlan)
    → IsPlanOf rules live side d t plan → names_in rules side d (Some t) ≡ addresses_in (rules.units (host_on side t) t.session (segment_of d))
named_in_session rules side d t live plan p =
    ap (λ (v : Option Refusal). addresses_in (unless_refused v (rules.units (host_on side t) t.session (segment_of d)) [])) p.refusal

pub called_by : {S : Type 0} (rules : SessionRules S) (live : World S) (side : Side) (d : Datagram) (t : Tracked S) (plan : SegmentPlan)
    (entries : List Entry) → IsPlanOf rules live side d t plan → entries ≡ plan.units.entries.items
    → AreCalled rules (image_of rules live side d) side d t entries
called_by rules live side d t plan entries p e = e ∙ p.units.entries
    ∙ ap (beside (image_of rules live side d)) (named_in_session rules side d t live plan p)

pub enters_by : {S : Type 0} (rules : SessionRules S) (live : World S) (side : Side) (d : Datagram) (t : Tracked S) (plan : SegmentPlan)
    (entries : List Entry) (images : List UnitImage) → IsPlanOf rules live side d t plan → entries ≡ plan.units.entries.items
    → images ≡ plan.units.images.items → Enters rules side d t entries images
enters_by rules live side d t plan entries images p e i =
    let es = rules.listed (host_on side t) t.session in
    let image = image_of rules live side d in
    let ns = names_in rules side d (Some t) in
    let same : entered_all es entries ≡ entered image es ns = ap (entered_all es) (e ∙ p.units.entries) ∙ entered-beside image es ns in
    record {
      passes = p.refusal;
      few = subst (λ (xs : List Entry). length xs ≤ 256) (sym same) p.units.few;
      image = image;
      called = called_by rules live side d t plan entries p e;
      right = subst (λ (xs : List Entry). AreImages (dns_units xs) images) (sym same)
          (subst (AreImages (dns_units (entered image es ns))) (sym i) p.units.images);
    }

-- ## What is used

-- each list begins as it was
begins_so : {S : Type 0} (rules : SessionRules S) (lists : HasLists rules) (live : World S) (side : Side) (d : Datagram) (t : Tracked S) (host : Host)
    → take (length (rules.listed host t.session)) (rules.listed host (stepped rules (image_of rules live side d) side d t).session)
    ≡ rules.listed host t.session
begins_so rules lists live side d t host =
    let more = lists_grow rules lists (image_of rules live side d) (host_on side t) t.session (segment_of d) host in
    let xs = rules.listed host t.session in
    ap (take (length xs)) more.1 ∙ take-front xs more.0
  where
    take-front : (xs ys : List Entry) → take (length xs) (xs ++ ys) ≡ xs
    take-front [] ys = refl
    take-front (x ∷ xs) ys = ap (λ (zs : List Entry). x ∷ zs) (take-front xs ys)

pub still_within : {S : Type 0} (rules : SessionRules S) (lists : HasLists rules) (live : World S) (side : Side) (d : Datagram) (t s : Tracked S)
    (host : Host) (count : ℕ) → s ≡ stepped rules (image_of rules live side d) side d t → count ≡ length (rules.listed host t.session)
    → count ≤ length (rules.listed host s.session)
still_within {S = S} rules lists live side d t s host count e n =
    let more = lists_grow rules lists (image_of rules live side d) (host_on side t) t.session (segment_of d) host in
    let long : length (rules.listed host s.session) ≡ length (rules.listed host t.session ++ more.0) =
    ap (λ (x : Tracked S). length (rules.listed host x.session)) e ∙ ap length more.1 in
    omega (arith, n, long, length-append (rules.listed host t.session) more.0)

abbrev by_lists : {S : Type 0} → Tracked S → ℕ → List Entry → List Entry → List Use
by_lists t until one two = uses_until t.client until (renamed_in one) ++ uses_until (other t.client) until (renamed_in two)

-- the uses by the plan are those of the segment
uses_as : {S : Type 0} (rules : SessionRules S) (lists : HasLists rules) (live : World S) (way : Way) (d : Datagram) (t s : Tracked S)
    (plan : SegmentPlan) (timeout : ℕ) → IsWayOf live way.side d way → IsPlanOf rules live way.side d t plan
    → s ≡ stepped rules (image_of rules live way.side d) way.side d t → stream_timeout rules live way.side d ≡ timeout
    → uses_planned rules way plan timeout s ≡ uses_until way.side (until_of rules live way.side d) (addresses_of d)
    ++ (uses_until way.side (until_of rules live way.side d) (names_in rules way.side d (Some t)) ++ uses_of_lists rules
    (until_of rules live way.side d) (Some t))
uses_as {S = S} rules lists live way d t s plan timeout w p e h =
    let side = way.side in
    let image = image_of rules live side d in
    let until = until_of rules live side d in
    let t' = stepped rules image side d t in
    let moment : way.moment.0 + timeout ≡ until = ap (λ (n : ℕ). n + timeout) w.moment_is ∙ ap (λ (n : ℕ). live.clock + n) (sym h) in
    let U : ℕ → Addr → Addr → List Addr → Tracked S → List Entry → List Entry → List Use =
    λ u a b ns x one two. uses_until side u (a ∷ b ∷ []) ++ (uses_until side u ns ++ by_lists x u one two) in
    ap (λ (x : Tracked S). uses_planned rules way plan timeout x) e
    ∙ ap (λ (u : ℕ). U u way.source way.destination plan.units.named.items t' (take plan.client (rules.listed Client t'.session))
    (take plan.server (rules.listed Server t'.session))) moment
    ∙ ap (λ (a : Addr). U until a way.destination plan.units.named.items t' (take plan.client (rules.listed Client t'.session))
    (take plan.server (rules.listed Server t'.session))) w.source_is
    ∙ ap (λ (a : Addr). U until (source_of d) a plan.units.named.items t' (take plan.client (rules.listed Client t'.session))
    (take plan.server (rules.listed Server t'.session))) w.destination_is
    ∙ ap (λ (ns : List Addr). U until (source_of d) (destination_of d) ns t' (take plan.client (rules.listed Client t'.session))
    (take plan.server (rules.listed Server t'.session))) p.units.named
    ∙ ap (λ (xs : List Entry). U until (source_of d) (destination_of d) (names_in rules side d (Some t)) t' xs
    (take plan.server (rules.listed Server t'.session)))
    (ap (λ (n : ℕ). take n (rules.listed Client t'.session)) p.client ∙ begins_so rules lists live side d t Client)
    ∙ ap (λ (xs : List Entry). U until (source_of d) (destination_of d) (names_in rules side d (Some t)) t' (rules.listed Client t.session) xs)
    (ap (λ (n : ℕ). take n (rules.listed Server t'.session)) p.server ∙ begins_so rules lists live side d t Server)

pub planned_used : {S : Type 0} (rules : SessionRules S) (lists : HasLists rules) (live : World S) (way : Way) (d : Datagram) (t s : Tracked S)
    (plan : SegmentPlan) (timeout : ℕ) (table : Bindings) → IsLawful live.table → IsWayOf live way.side d way → IsPlanOf rules live way.side d t plan
    → s ≡ stepped rules (image_of rules live way.side d) way.side d t → stream_timeout rules live way.side d ≡ timeout
    → table ≡ after_uses live.table (uses_planned rules way plan timeout s) → AreUsed rules live way.side d way table
planned_used rules lists live way d t s plan timeout table lawful w p e h b =
    let side = way.side in
    let until = until_of rules live side d in
    let header = addresses_of d in
    let names = names_in rules side d (Some t) in
    let fits : needed live.table side (addresses_of d) ≤ free live.table (other side) =
    omega (arith, needed_front live.table side header names, p.units.room) in
    let bound : All (λ address. cross live.table side address ≢ Unbound) (addresses_of d) =
    all_front (λ address. cross live.table side address ≢ Unbound) header names p.units.bound in
    let room : is_empty way.of_source ≡ false = empty_is rules live side d way w
    ∙ le-ltb (free live.table (other side)) (needed live.table side header) fits in
    let so = header_called rules live side d t lawful p.found bound fits in
    record {
      bound = b ∙ ap (after_uses live.table) (uses_as rules lists live way d t s plan timeout w p e h) ∙ sym (table_with rules live side d t p.found);
      source = source_is live side d way until w room ∙ so.source;
      destination = destination_is live side d way until w ∙ so.destination;
    }
