-- Datagrams of which only the header is renamed.
use Rattle.std.proofs.Common.{◌≡◌, ◌+◌, ℕ, Bool, true, false, List, [], ◌∷◌, Option, refl, sym, ap, ◌∙◌, ◌||◌, ◌==◌, slice_index}
use Rattle.gate_base.specs.declared.address.Addr.{Addr}
use Rattle.verdicts.specs.declared.refusal.Refusal.{Refusal}
use Rattle.verdicts.specs.declared.refusal.Refusal.TheVariants.{PoolEmpty}
use Rattle.gate_base.specs.declared.side.Side.{Side}
use Rattle.binding_table.specs.Prelude.{Bindings, cross, is_settled, Use, after_uses}
use Rattle.ipv4_frames.specs.Ipv4.{Datagram}
use Rattle.twice_translate.specs.Renamed.{renamed}
use Rattle.gate_base.specs.Prelude.{u16_at}
use Rattle.verdicts.specs.Prelude.{first_that_holds, unless_refused}
use Rattle.udp_icmp.specs.Icmp.{is_error_type}
use Rattle.gate_model.specs.Prelude.{Whole, Udp, Echo, udp_payload, icmp_payload, is_pool_empty}
use Rattle.gate_model.specs.Prelude.{uses_until, World, source_of, destination_of, called, SessionRules}
use Rattle.gate_model.specs.declared.timeouts.TheConstants.{ICMP_TIMEOUT, UDP_TIMEOUT}
use Rattle.event_payloads.specs.Prelude.{IsTaken, IsWayOf, image_by, is_empty, header_uses}
use Rattle.event_payloads.specs.declared.addresses.Way.{Way}
use Rattle.event_payloads.proofs.Passes.{pool_empty_is, source_called, destination_called}

by_refusal : (b : Bool) (r : Option Refusal) (x y : List (List ℕ)) → r ≡ first_that_holds ((b, PoolEmpty) ∷ []) → (b ≡ false → x ≡ y)
    → unless_refused r x [] ≡ unless_refused r y []
by_refusal true r x y e f = rw e refl
by_refusal false r x y e f = rw e (f refl)

pub of_source_is : {S : Type 0} (live : World S) (side : Side) (d : Datagram) (way : Way) → IsWayOf live side d way
    → way.of_source ≡ cross live.table side (source_of d)
of_source_is live side d way w = w.crossings.source ∙ ap (λ (x : Side). cross live.table x way.source) w.side_is
    ∙ ap (cross live.table side) w.source_is

pub of_destination_is : {S : Type 0} (live : World S) (side : Side) (d : Datagram) (way : Way) → IsWayOf live side d way
    → way.of_destination ≡ cross live.table side (destination_of d)
of_destination_is live side d way w = w.crossings.destination ∙ ap (λ (x : Side). cross live.table x way.destination) w.side_is
    ∙ ap (cross live.table side) w.destination_is

-- the images of both addresses are what they are called after both uses
pub record AreImages {S : Type 0} (live : World S) (side : Side) (d : Datagram) (until : ℕ) (way : Way) : Type 0 where
  pub source : image_by way.of_source way.source ≡ called (after_uses live.table (uses_until side until (source_of d ∷ destination_of d ∷ []))) side
      (source_of d)
  pub destination : image_by way.of_destination way.destination ≡ called
      (after_uses live.table (uses_until side until (source_of d ∷ destination_of d ∷ []))) side (destination_of d)

pub are_images : {S : Type 0} (live : World S) (side : Side) (d : Datagram) (way : Way) (until : ℕ) → IsWayOf live side d way
    → is_empty way.of_source ≡ false → AreImages live side d until way
are_images live side d way until w room =
    let s = of_source_is live side d way w in
    let t = of_destination_is live side d way w in
    record {
      source = ap (λ c. image_by c way.source) s ∙ ap (image_by (cross live.table side (source_of d))) w.source_is
          ∙ sym (source_called live.table side (source_of d) (destination_of d) (record { 0 = until }) w.outside (ap is_empty (sym s) ∙ room));
      destination = ap (λ c. image_by c way.destination) t ∙ ap (image_by (cross live.table side (destination_of d))) w.destination_is
          ∙ sym (destination_called live.table side (source_of d) (destination_of d) (record { 0 = until }) (ap is_settled (sym t) ∙ w.settled));
    }

pub images_are : {S : Type 0} (live : World S) (side : Side) (d : Datagram) (way : Way) (until : ℕ) → IsWayOf live side d way
    → is_empty way.of_source ≡ false →
    renamed d (image_by way.of_source way.source).0 (image_by way.of_destination way.destination).0 ∷ []
    ≡ (let after = after_uses live.table (uses_until side until (source_of d ∷ destination_of d ∷ [])) in
    renamed d (called after side (source_of d)).0 (called after side (destination_of d)).0 ∷ [])
images_are live side d way until w room =
    let images = are_images live side d way until w room in
    let R : Addr → Addr → List (List ℕ) = λ a b. renamed d a.0 b.0 ∷ [] in
    let after = after_uses live.table (uses_until side until (source_of d ∷ destination_of d ∷ [])) in
    ap (λ (a : Addr). R a (image_by way.of_destination way.destination)) images.source ∙ ap (R (called after side (source_of d))) images.destination

pub empty_is : {S : Type 0} (rules : SessionRules S) (live : World S) (side : Side) (d : Datagram) (way : Way) → IsWayOf live side d way
    → is_empty way.of_source ≡ is_pool_empty rules live side d (Whole Udp)
empty_is rules live side d way w =
    ap is_empty (of_source_is live side d way w)
    ∙ sym (pool_empty_is live.table side (source_of d) (destination_of d) (ap is_settled (sym (of_destination_is live side d way w)) ∙ w.settled))

-- the uses of a way are those of its datagram
pub uses_are : {S : Type 0} (live : World S) (side : Side) (d : Datagram) (way : Way) (timeout : ℕ) → IsWayOf live side d way →
    after_uses live.table (header_uses way timeout) ≡ after_uses live.table
    (uses_until side (live.clock + timeout) (source_of d ∷ destination_of d ∷ []))
uses_are live side d way timeout w =
    ap (λ (x : Side). after_uses live.table (uses_until x (way.moment.0 + timeout) (way.source ∷ way.destination ∷ []))) w.side_is
    ∙ ap (λ (m : ℕ). after_uses live.table (uses_until side (m + timeout) (way.source ∷ way.destination ∷ []))) w.moment_is
    ∙ ap (λ (a : Addr). after_uses live.table (uses_until side (live.clock + timeout) (a ∷ way.destination ∷ []))) w.source_is
    ∙ ap (λ (a : Addr). after_uses live.table (uses_until side (live.clock + timeout) (source_of d ∷ a ∷ []))) w.destination_is

pub udp_taken : {S : Type 0} (rules : SessionRules S) (live : World S) (side : Side) (d : Datagram) (way : Way) (r : Option Refusal)
    (table : Bindings) (sent : List (List ℕ)) → IsWayOf live side d way → r ≡ first_that_holds ((is_empty way.of_source, PoolEmpty) ∷ [])
    → table ≡ unless_refused r (after_uses live.table (header_uses way UDP_TIMEOUT)) live.table
    → sent ≡ unless_refused r (renamed d (image_by way.of_source way.source).0 (image_by way.of_destination way.destination).0 ∷ []) []
    → IsTaken rules live side d (Whole Udp) r table sent
udp_taken rules live side d way r table sent w e t o = record {
  answer = e ∙ ap (λ (b : Bool). first_that_holds ((b, PoolEmpty) ∷ [])) (empty_is rules live side d way w);
  bound = t ∙ ap (λ (x : Bindings). unless_refused r x live.table) (uses_are live side d way UDP_TIMEOUT w);
  gone = o ∙ by_refusal (is_empty way.of_source) r _ _ e (images_are live side d way (live.clock + UDP_TIMEOUT) w);
}

pub echo_taken : {S : Type 0} (rules : SessionRules S) (live : World S) (side : Side) (d : Datagram) (way : Way) (r : Option Refusal)
    (table : Bindings) (sent : List (List ℕ)) → IsWayOf live side d way → r ≡ first_that_holds ((is_empty way.of_source, PoolEmpty) ∷ [])
    → table ≡ unless_refused r (after_uses live.table (header_uses way ICMP_TIMEOUT)) live.table
    → sent ≡ unless_refused r (renamed d (image_by way.of_source way.source).0 (image_by way.of_destination way.destination).0 ∷ []) []
    → IsTaken rules live side d (Whole Echo) r table sent
echo_taken rules live side d way r table sent w e t o = record {
  answer = e ∙ ap (λ (b : Bool). first_that_holds ((b, PoolEmpty) ∷ [])) (empty_is rules live side d way w);
  bound = t ∙ ap (λ (x : Bindings). unless_refused r x live.table) (uses_are live side d way ICMP_TIMEOUT w);
  gone = o ∙ by_refusal (is_empty way.of_source) r _ _ e (images_are live side d way (live.clock + ICMP_TIMEOUT) w);
}

-- ## Kinds

pub echo_kind : (d : Datagram) → is_error_type (slice_index d.payload 0) ≡ false → icmp_payload d ≡ Echo
echo_kind d e = rw e refl

pub udp_plain : (d : Datagram) (p q : ℕ) → p ≡ u16_at 0 d.payload → q ≡ u16_at 2 d.payload → (p == 53 || q == 53) ≡ false
    → (p == 161 || q == 161) ≡ false → (p == 162 || q == 162) ≡ false → udp_payload d ≡ Udp
udp_plain d p q e f x y z = rw (← e, ← f, x, y, z) refl

-- over the same table
pub over_table : (r : Option Refusal) (uses : List Use) (one two table : Bindings) → two ≡ one → table ≡ unless_refused r (after_uses one uses) one
    → table ≡ unless_refused r (after_uses two uses) two
over_table r uses one two table e t = t ∙ ap (λ (x : Bindings). unless_refused r (after_uses x uses) x) (sym e)
