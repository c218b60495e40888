-- ICMP errors, refused for the datagram inside, or passed.
use Rattle.std.proofs.Common.{◌≡◌, ◌+◌, ℕ, Bool, true, false, not, ◌||◌, List, [], ◌∷◌, ◌++◌, Option, Some, None}
use Rattle.std.proofs.Common.{Result, Ok, Err, refl, sym, ap, ◌∙◌, option_and_then, is_none, unwrap_or, if◌then◌else◌}
use Rattle.gate_base.specs.declared.address.Addr.{Addr}
use Rattle.verdicts.specs.declared.refusal.Refusal.{Refusal}
use Rattle.verdicts.specs.declared.refusal.Refusal.TheVariants.{BadInner, InnerUnbound, PoolEmpty}
use Rattle.gate_base.specs.declared.side.Side.{Side}
use Rattle.binding_table.specs.Prelude.{Bindings, seen, after_uses}
use Rattle.icmp_errors.specs.Inner.{is_inner, inner_fields, read_inner, inner_with}
use Rattle.icmp_errors.specs.declared.BadInner.{BadInner as NoInner}
use Rattle.icmp_errors.specs.declared.Inner.{Inner}
use Rattle.ipv4_frames.specs.Ipv4.{Datagram}
use Rattle.verdicts.specs.Prelude.{first_that_holds}
use Rattle.twice_translate.specs.Renamed.{renamed}
use Rattle.gate_model.specs.Prelude.{Error, Whole, inside, with_inside, inner_number, is_unknown, is_inner_unbound, kind_tests}
use Rattle.gate_model.specs.Prelude.{is_pool_empty, uses_until, World, source_of, destination_of, called, SessionRules}
use Rattle.gate_model.specs.declared.timeouts.TheConstants.{ICMP_TIMEOUT}
use Rattle.gate_model.specs.Inner.{inner_after}
use Rattle.event_payloads.specs.Prelude.{IsTaken, IsWayOf, image_by, is_empty, header_uses}
use Rattle.event_payloads.specs.declared.addresses.Way.{Way}
use Rattle.event_payloads.proofs.HeadersOnly.{are_images, empty_is, uses_are}

-- ## The datagram inside

-- what was read of it
pub record IsRead (octets : List ℕ) (inner : Inner) : Type 0 where
  pub holds : is_inner octets ≡ true
  pub fields : inner ≡ inner_fields octets

abbrev answer : Bool → Inner → Result Inner NoInner
answer holds inner = if holds then Ok inner else Err (record {})

pub inner_read : (octets : List ℕ) (inner : Inner) → read_inner octets ≡ Ok inner → IsRead octets inner
inner_read octets inner = by_test (is_inner octets) refl
  where
    by_test : (holds : Bool) → is_inner octets ≡ holds → answer holds (inner_fields octets) ≡ Ok inner → IsRead octets inner
    by_test true e r = record { holds = e; fields = cc }
    by_test false e r = absurd (cc)

-- what is known of it, where both its addresses have images
pub record IsKnown {S : Type 0} (rules : SessionRules S) (live : World S) (side : Side) (d : Datagram) (inner : Inner) (source destination : Addr)
    (number : Option (Option ℕ)) : Type 0 where
  pub read : IsRead (inside d) inner
  pub source_is : seen live.table side inner.source ≡ Some source
  pub destination_is : seen live.table side inner.destination ≡ Some destination
  pub number_is : number ≡ inner_number rules live side inner

-- ## The tests

abbrev first_by : Bool → Bool → Bool → Option Refusal
first_by inner unbound empty = first_that_holds ((not inner, BadInner) ∷ (unbound, InnerUnbound) ∷ (empty, PoolEmpty) ∷ [])

unbound_is : {S : Type 0} (rules : SessionRules S) (live : World S) (side : Side) (d : Datagram) (inner : Inner) (source destination : Addr)
    (number : Option (Option ℕ)) → IsKnown rules live side d inner source destination number
    → is_inner_unbound rules live side (inner_fields (inside d)) ≡ is_unknown number
unbound_is rules live side d inner source destination number k =
    ap (is_inner_unbound rules live side) (sym k.read.fields)
    ∙ ap (λ (o : Option Addr). (is_none o || is_none (seen live.table side inner.destination)) || is_unknown (inner_number rules live side inner))
    k.source_is
    ∙ ap (λ (o : Option Addr). is_none o || is_unknown (inner_number rules live side inner)) k.destination_is
    ∙ ap is_unknown (sym k.number_is)

-- the first test that holds, of one that is known
first_is : {S : Type 0} (rules : SessionRules S) (live : World S) (side : Side) (d : Datagram) (way : Way) (inner : Inner) (source destination : Addr)
    (number : Option (Option ℕ)) → IsWayOf live side d way → IsKnown rules live side d inner source destination number
    → first_by true (is_unknown number) (is_empty way.of_source)
    ≡ first_that_holds (kind_tests rules live side live.clock d (Whole Error) ++ (is_pool_empty rules live side d (Whole Error), PoolEmpty) ∷ [])
first_is rules live side d way inner source destination number w k =
    ap (λ (b : Bool). first_by b (is_unknown number) (is_empty way.of_source)) (sym k.read.holds)
    ∙ ap (λ (b : Bool). first_by (is_inner (inside d)) b (is_empty way.of_source))
    (sym (unbound_is rules live side d inner source destination number k))
    ∙ ap (first_by (is_inner (inside d)) (is_inner_unbound rules live side (inner_fields (inside d)))) (empty_is rules live side d way w)

-- the datagram inside can't be read
pub error_bad : {S : Type 0} (rules : SessionRules S) (live : World S) (side : Side) (d : Datagram) (octets : List ℕ) (e : NoInner) (table : Bindings)
    (sent : List (List ℕ)) → octets ≡ inside d → read_inner octets ≡ Err e → table ≡ live.table → sent ≡ []
    → IsTaken rules live side d (Whole Error) (Some BadInner) table sent
error_bad rules live side d octets e table sent same read t s = record {
  answer =
      ap (λ (b : Bool). first_by b (is_inner_unbound rules live side (inner_fields (inside d))) (is_pool_empty rules live side d (Whole Error)))
      (sym (ap is_inner (sym same) ∙ by_test (is_inner octets) refl read));
  bound = t;
  gone = s;
}
  where
    by_test : (holds : Bool) → is_inner octets ≡ holds → answer holds (inner_fields octets) ≡ Err e → is_inner octets ≡ false
    by_test true e r = absurd (cc)
    by_test false e r = e

-- one of its addresses has no image
pub error_unseen : {S : Type 0} (rules : SessionRules S) (live : World S) (side : Side) (d : Datagram) (inner : Inner) (table : Bindings)
    (sent : List (List ℕ)) → IsRead (inside d) inner
    → (is_none (seen live.table side inner.source) || is_none (seen live.table side inner.destination)) ≡ true → table ≡ live.table → sent ≡ []
    → IsTaken rules live side d (Whole Error) (Some InnerUnbound) table sent
error_unseen rules live side d inner table sent read unseen t s =
    let empty = is_pool_empty rules live side d (Whole Error) in
    let unbound : is_inner_unbound rules live side (inner_fields (inside d)) ≡ true =
    ap (is_inner_unbound rules live side) (sym read.fields) ∙ ap (λ (b : Bool). b || is_unknown (inner_number rules live side inner)) unseen in
    record {
      answer = ap (λ (b : Bool). first_by true b empty) (sym unbound)
          ∙ ap (λ (b : Bool). first_by b (is_inner_unbound rules live side (inner_fields (inside d))) empty) (sym read.holds);
      bound = t;
      gone = s;
    }

pub error_unknown : {S : Type 0} (rules : SessionRules S) (live : World S) (side : Side) (d : Datagram) (way : Way) (inner : Inner)
    (source destination : Addr) (number : Option (Option ℕ)) (table : Bindings) (sent : List (List ℕ)) → IsWayOf live side d way
    → IsKnown rules live side d inner source destination number → is_unknown number ≡ true → table ≡ live.table → sent ≡ []
    → IsTaken rules live side d (Whole Error) (Some InnerUnbound) table sent
error_unknown rules live side d way inner source destination number table sent w k unknown t s = record {
  answer = ap (λ (b : Bool). first_by true b (is_empty way.of_source)) (sym unknown)
      ∙ first_is rules live side d way inner source destination number w k;
  bound = t;
  gone = s;
}

pub error_empty : {S : Type 0} (rules : SessionRules S) (live : World S) (side : Side) (d : Datagram) (way : Way) (inner : Inner)
    (source destination : Addr) (number : Option (Option ℕ)) (table : Bindings) (sent : List (List ℕ)) → IsWayOf live side d way
    → IsKnown rules live side d inner source destination number → is_unknown number ≡ false → is_empty way.of_source ≡ true → table ≡ live.table
    → sent ≡ [] → IsTaken rules live side d (Whole Error) (Some PoolEmpty) table sent
error_empty rules live side d way inner source destination number table sent w k known empty t s = record {
  answer = ap (first_by true false) (sym empty) ∙ ap (λ (b : Bool). first_by true b (is_empty way.of_source)) (sym known)
      ∙ first_is rules live side d way inner source destination number w k;
  bound = t;
  gone = s;
}

-- ## What goes out

inner_is : {S : Type 0} (rules : SessionRules S) (live : World S) (side : Side) (d : Datagram) (inner : Inner) (source destination : Addr)
    (number : Option (Option ℕ)) → IsKnown rules live side d inner source destination number
    → inner_with (inside d) source.0 destination.0 (option_and_then (λ n. n) number) ≡ inner_after rules live side (inside d)
inner_is rules live side d inner source destination number k =
    let W : Addr → Addr → Option (Option ℕ) → List ℕ = λ a b n. inner_with (inside d) a.0 b.0 (option_and_then (λ m. m) n) in
    ap (λ (o : Option Addr). W (unwrap_or o inner.source) destination number) (sym k.source_is)
    ∙ ap (λ (o : Option Addr). W (called live.table side inner.source) (unwrap_or o inner.destination) number) (sym k.destination_is)
    ∙ ap (W (called live.table side inner.source) (called live.table side inner.destination)) k.number_is
    ∙ ap (λ (i : Inner). W (called live.table side i.source) (called live.table side i.destination) (inner_number rules live side i)) k.read.fields

pub error_passes : {S : Type 0} (rules : SessionRules S) (live : World S) (side : Side) (d : Datagram) (way : Way) (inner : Inner)
    (source destination : Addr) (number : Option (Option ℕ)) (table : Bindings) (sent : List (List ℕ)) → IsWayOf live side d way
    → IsKnown rules live side d inner source destination number → is_unknown number ≡ false → is_empty way.of_source ≡ false
    → table ≡ after_uses live.table (header_uses way ICMP_TIMEOUT)
    → sent ≡ renamed (with_inside d (inner_with (inside d) source.0 destination.0 (option_and_then (λ n. n) number)))
    (image_by way.of_source way.source).0 (image_by way.of_destination way.destination).0 ∷ []
    → IsTaken rules live side d (Whole Error) None table sent
error_passes rules live side d way inner source destination number table sent w k known room t s =
    let images = are_images live side d way (live.clock + ICMP_TIMEOUT) w room in
    let after = after_uses live.table (uses_until side (live.clock + ICMP_TIMEOUT) (source_of d ∷ destination_of d ∷ [])) in
    let R : List ℕ → Addr → Addr → List (List ℕ) = λ octets a b. renamed (with_inside d octets) a.0 b.0 ∷ [] in
    record {
      answer = ap (first_by true false) (sym room) ∙ ap (λ (b : Bool). first_by true b (is_empty way.of_source)) (sym known)
          ∙ first_is rules live side d way inner source destination number w k;
      bound = t ∙ uses_are live side d way ICMP_TIMEOUT w;
      gone = s
          ∙ ap (λ (octets : List ℕ). R octets (image_by way.of_source way.source) (image_by way.of_destination way.destination))
          (inner_is rules live side d inner source destination number k)
          ∙ ap (λ (a : Addr). R (inner_after rules live side (inside d)) a (image_by way.of_destination way.destination)) images.source
          ∙ ap (R (inner_after rules live side (inside d)) (called after side (source_of d))) images.destination;
    }
