-- A datagram of any kind but a segment.
use Rattle.std.proofs.Common.{◌≡◌, ℕ, Bool, true, false, not, List, [], ◌∷◌, ◌++◌, Option, Some, None, refl, sym, ap, ◌∙◌, subst, if◌then◌else◌, ◌==◌, ◌||◌, slice_index, Result, IfOk}
use Rattle.udp_icmp.specs.Icmp.{is_error_type}
use Rattle.gate_base.specs.Prelude.{u16_at}
use Rattle.verdicts.specs.Prelude.{first_that_holds, unless_refused}
use Rattle.std.specs.Option.{option_or}
use Rattle.gate_base.specs.declared.address.Addr.{Addr}
use Rattle.gate_base.specs.declared.event.Moment.{Moment}
use Rattle.verdicts.specs.declared.refusal.Refusal.{Refusal}
use Rattle.verdicts.specs.declared.refusal.Refusal.TheVariants.{SourceInPool, NoBinding, PoolEmpty}
use Rattle.gate_base.specs.declared.side.Side.{Side}
use Rattle.binding_table.specs.Prelude.{Bindings, cross, in_pool}
use Rattle.ipv4_frames.specs.Ipv4.{Datagram}
use Rattle.gate_model.specs.Prelude.{Whole, Payload, Kind, Udp, Error, Dns, Snmp, Stream, udp_payload, icmp_payload, kind_of, out_kind, is_reachable, address_tests, kind_tests, late_tests, is_pool_empty, world_tests, table_after, World, source_of, destination_of, SessionRules}
use Rattle.event_payloads.specs.Prelude.{IsTaken, IsWayOf, plain_rules, asks_none, way_tests}
use Rattle.event_segments.specs.Prelude.{refusal_as, plain_world, Tells, told_kind, told_by, left_as, IsPassed}
use Rattle.event_payloads.proofs.Alike.{way_like, taken_like}
use Rattle.event_segments.proofs.UnitsJudged.{by_ok}
use Rattle.event_payloads.specs.declared.addresses.Way.{Way}
use Rattle.event_payloads.proofs.Passes.{reached_settled}
use Rattle.event_frame.proofs.Tests.{first-append}

two_none : (a b : Bool) → first_that_holds ((a, SourceInPool) ∷ (not b, NoBinding) ∷ []) ≡ None → (a ≡ false) × (b ≡ true)
two_none true b e = absurd cc
two_none false true e = (refl, refl)
two_none false false e = absurd cc

-- the way of a datagram whose addresses are not refused
pub way_of : {S : Type 0} (live : World S) (side : Side) (d : Datagram) (moment : Moment) → moment.0 ≡ live.clock
    → first_that_holds (address_tests live.table side d) ≡ None →
    IsWayOf live side d
    (record {
      side = side;
      moment = moment;
      source = source_of d;
      destination = destination_of d;
      of_source = cross live.table side (source_of d);
      of_destination = cross live.table side (destination_of d);
    })
way_of live side d moment m none =
    let both = two_none (in_pool live.table side (source_of d)) (is_reachable live.table side (destination_of d)) none in
    record {
      side_is = refl;
      moment_is = m;
      source_is = refl;
      destination_is = refl;
      crossings = record { source = refl; destination = refl };
      outside = both.0;
      settled = reached_settled live.table side (destination_of d) both.1;
    }

-- ## What a way is

abbrev pub the_way : {S : Type 0} → World S → Side → Datagram → Moment → Way
the_way live side d moment =
    record {
      side = side;
      moment = moment;
      source = source_of d;
      destination = destination_of d;
      of_source = cross live.table side (source_of d);
      of_destination = cross live.table side (destination_of d);
    }

pub way_is : {S : Type 0} (live : World S) (side : Side) (d : Datagram) (moment : Moment) (w : Way) (s t : Addr) → s.0 ≡ d.source
    → t.0 ≡ d.destination → w
    ≡ record {
      side = side;
      moment = moment;
      source = s;
      destination = t;
      of_source = cross live.table side s;
      of_destination = cross live.table side t;
    } → w ≡ the_way live side d moment
way_is live side d moment w s t f g e =
    let R : Addr → Addr → Way =
    λ a b. record {
      side = side;
      moment = moment;
      source = a;
      destination = b;
      of_source = cross live.table side a;
      of_destination =
          cross live.table side b;
    } in
    let one : s ≡ source_of d = ap (λ (n : ℕ). let a : Addr = record { 0 = n } in a) f in
    let two : t ≡ destination_of d = ap (λ (n : ℕ). let a : Addr = record { 0 = n } in a) g in
    e ∙ ap (λ (a : Addr). R a t) one ∙ ap (R (source_of d)) two

-- a refusal by the addresses
pub refused_way : {S : Type 0} (rules : SessionRules S) (live : World S) (side : Side) (d : Datagram) (r : Refusal)
    → first_that_holds (address_tests live.table side d) ≡ Some r → Some r ≡ first_that_holds (world_tests rules live side live.clock d (kind_of d))
refused_way rules live side d r e =
    let rest =
    kind_tests rules live side live.clock d (kind_of d)
    ++ (is_pool_empty rules live side d (kind_of d), PoolEmpty) ∷ late_tests rules live side live.clock d (kind_of d) in
    sym (first-append (address_tests live.table side d) rest ∙ ap (λ (o : Option Refusal). option_or o (first_that_holds rest)) e)

-- a way whose addresses are not refused
pub record IsAllowed {S : Type 0} (live : World S) (side : Side) (d : Datagram) (way : Way) : Type 0 where
  pub none : first_that_holds (address_tests live.table side d) ≡ None
  pub one_side : way.side ≡ side
  pub of : IsWayOf live way.side d way

pub allowed : {S : Type 0} (live : World S) (side : Side) (d : Datagram) (moment : Moment) (w : Way) (s t : Addr) → moment.0 ≡ live.clock
    → s.0 ≡ d.source → t.0 ≡ d.destination →
    w ≡ record
    { side = side; moment = moment; source = s; destination = t; of_source = cross live.table side s; of_destination = cross live.table side t }
    → first_that_holds (way_tests live.table w) ≡ None → IsAllowed live side d w
allowed live side d moment w s t m f g e n =
    let way = way_is live side d moment w s t f g e in
    let none = sym (ap (λ (x : Way). first_that_holds (way_tests live.table x)) way) ∙ n in
    record {
      none = none;
      one_side = ap (λ (x : Way). x.side) way;
      of =
          subst (λ (x : Way). IsWayOf live x.side d x) (sym way) (way_of live side d moment m none);
    }

-- ## By what is carried

pub udp_is : (d : Datagram) → d.protocol ≡ 17 → kind_of d ≡ Whole (udp_payload d)
udp_is d p = rw p refl

pub icmp_is : (d : Datagram) → (d.protocol == 17) ≡ false → (d.protocol == 6) ≡ false → kind_of d ≡ Whole (icmp_payload d)
icmp_is d p q = rw (p, q) refl

pub tcp_is : (d : Datagram) → d.protocol ≡ 6 → kind_of d ≡ Stream
tcp_is d p = rw p refl

-- the kind by the ports, and by the type
pub udp_dns : (d : Datagram) (p q : ℕ) → p ≡ u16_at 0 d.payload → q ≡ u16_at 2 d.payload → (p == 53 || q == 53) ≡ true → udp_payload d ≡ Dns
udp_dns d p q e f x = rw (← e, ← f, x) refl

pub udp_snmp : (d : Datagram) (p q : ℕ) → p ≡ u16_at 0 d.payload → q ≡ u16_at 2 d.payload → (p == 53 || q == 53) ≡ false
    → ((p == 161 || q == 161) || (p == 162 || q == 162)) ≡ true → udp_payload d ≡ Snmp
udp_snmp d p q e f x y = rw (← e, ← f, x, y) refl

pub error_kind : (d : Datagram) → is_error_type (slice_index d.payload 0) ≡ true → icmp_payload d ≡ Error
error_kind d e = rw e refl

-- ## What becomes of it

-- over the whole world
pub taken_as : {S A : Type 0} (rules : SessionRules S) (tells : Tells S A) (live : World S) (side : Side) (d : Datagram) (payload : Payload)
    (r : Option Refusal) (table : Bindings) (sent : List (List ℕ)) (given : A) → IsTaken rules live side d (Whole payload) r table sent
    → given ≡ tells.whole sent → IsPassed rules tells (refusal_as rules (Whole payload) live side d) (Whole payload) live side d r
    (record live { table = table }) given
taken_as {S = S} rules tells live side d payload r table sent given t g = record {
  answer = t.answer;
  left = ap (λ (x : Bindings). let w : World S = record live { table = x } in w) t.bound ∙ by_refusal r;
  gone = g ∙ ap tells.whole t.gone ∙ by_told r;
}
  where
    by_refusal : (o : Option Refusal)
        → (let w : World S = record live { table = unless_refused o (table_after rules live side live.clock d (Whole payload)) live.table } in w)
        ≡ left_as rules (Whole payload) o live side d
    by_refusal None = refl
    by_refusal (Some s) = refl

    by_told : (o : Option Refusal)
        → tells.whole (unless_refused o (out_kind rules live side live.clock d (Whole payload)) []) ≡ told_by tells o
        (told_kind rules tells live side d (Whole payload))
    by_told None = refl
    by_told (Some s) = refl

-- the tests of a datagram whose addresses are not refused are those of its kind
pub told_kinds : {S : Type 0} (rules : SessionRules S) (live : World S) (side : Side) (d : Datagram) (kind : Kind)
    → first_that_holds (address_tests live.table side d) ≡ None
    → refusal_as rules kind live side d ≡ first_that_holds (world_tests rules live side live.clock d kind)
told_kinds rules live side d kind none =
    let rest =
    kind_tests rules live side live.clock d kind
    ++ (is_pool_empty rules live side d kind, PoolEmpty) ∷ late_tests rules live side live.clock d kind in
    sym (first-append (address_tests live.table side d) rest ∙ ap (λ (o : Option Refusal). option_or o (first_that_holds rest)) none)

-- ## A UDP datagram

udp_asks : (a b : Bool) → asks_none (Whole (if a then Dns else if b then Snmp else Udp)) ≡ true
udp_asks true b = refl
udp_asks false true = refl
udp_asks false false = refl

-- its way, over a world without connections
pub way_plain : {S : Type 0} (live : World S) (side : Side) (d : Datagram) (way : Way) → IsWayOf live side d way
    → IsWayOf (plain_world way.moment.0 live.table) side d way
way_plain live side d way w = subst (λ (n : ℕ). IsWayOf (plain_world n live.table) side d way) (sym w.moment_is) (way_like live side d way w)

-- what becomes of it is the same over any world
pub udp_like : {S E : Type 0} (rules : SessionRules S) (live : World S) (side : Side) (d : Datagram) (way : Way) (res : Result (Option Refusal) E)
    (table : Bindings) (sent : List (List ℕ)) → IsWayOf live side d way
    → IfOk res (λ r. IsTaken plain_rules (plain_world way.moment.0 live.table) side d (Whole (udp_payload d)) r table sent)
    → IfOk res (λ r. IsTaken rules live side d (Whole (udp_payload d)) r table sent)
udp_like rules live side d way res table sent w h =
    by_ok res (λ r. taken_like rules live side d (Whole (udp_payload d)) r table sent (udp_asks _ _))
    (subst (λ (n : ℕ). IfOk res (λ r. IsTaken plain_rules (plain_world n live.table) side d (Whole (udp_payload d)) r table sent)) w.moment_is h)
