-- What is known where no test holds.
use Rattle.std.proofs.Common.{◌≡◌, ℕ, Bool, true, false, List, [], ◌∷◌, ◌++◌, Option, Some, None, refl}
use Rattle.gate_base.specs.Prelude.{Event}
use Rattle.verdicts.specs.Prelude.{first_that_holds}
use Rattle.verdicts.specs.declared.verdict.Verdict.TheVariants.{Pass}
use Rattle.verdicts.specs.declared.refusal.Refusal.{Refusal}
use Rattle.verdicts.specs.declared.refusal.Refusal.TheVariants.{NoSession, SessionsFull, PoolEmpty}
use Rattle.gate_base.specs.declared.side.Side.{Side}
use Rattle.ipv4_frames.specs.Ipv4.{Datagram}
use Rattle.gate_model.specs.Prelude.{Kind, Stream, datagram_in, header_tests, datagram_tests, transport_tests, kind_of, SessionRules, found_in}
use Rattle.gate_model.specs.Prelude.{lacks_session, session_refusal, is_full, verdict_of, tests, world_tests, address_tests, kind_tests, late_tests}
use Rattle.gate_model.specs.Prelude.{is_pool_empty, image_in, refusal_tests, taker_in, unit_tests, World, at_moment}
use Rattle.gate_model.specs.Verdict.{verdict}

-- no test holds
pub record NoneHolds (tests : List (Bool × Refusal)) : Type 0 where
  pub none : first_that_holds tests ≡ None

pub none_head : {test : Bool × Refusal} {more : List (Bool × Refusal)} → NoneHolds (test ∷ more) → test.0 ≡ false
none_head {test = (true, r)} h = absurd (let e = h.none in cc)
none_head {test = (false, r)} h = refl

pub none_tail : {test : Bool × Refusal} {more : List (Bool × Refusal)} → NoneHolds (test ∷ more) → NoneHolds more
none_tail {test = (true, r)} h = absurd (let e = h.none in cc)
none_tail {test = (false, r)} h = record { none = h.none }

left_of : (xs ys : List (Bool × Refusal)) → first_that_holds (xs ++ ys) ≡ None → first_that_holds xs ≡ None
left_of [] ys e = refl
left_of ((true, r) ∷ xs) ys e = cc
left_of ((false, r) ∷ xs) ys e = left_of xs ys e

right_of : (xs ys : List (Bool × Refusal)) → first_that_holds (xs ++ ys) ≡ None → first_that_holds ys ≡ None
right_of [] ys e = e
right_of ((true, r) ∷ xs) ys e = cc
right_of ((false, r) ∷ xs) ys e = right_of xs ys e

pub none_left : (xs ys : List (Bool × Refusal)) → NoneHolds (xs ++ ys) → NoneHolds xs
none_left xs ys h = record { none = left_of xs ys h.none }

pub none_right : (xs ys : List (Bool × Refusal)) → NoneHolds (xs ++ ys) → NoneHolds ys
none_right xs ys h = record { none = right_of xs ys h.none }

pub none_told : (o : Option Refusal) → NoneHolds (refusal_tests o) → o ≡ None
none_told None h = refl
none_told (Some r) h = absurd (let e = h.none in cc)

pub pass_is : (o : Option Refusal) → verdict_of o ≡ Pass → o ≡ None
pass_is None e = refl
pass_is (Some r) e = cc

-- no test of a datagram's addresses, of what it carries and of the pool holds
pub record Passes {S : Type 0} (rules : SessionRules S) (live : World S) (side : Side) (moment : ℕ) (d : Datagram) (kind : Kind) : Type 0 where
  pub address : NoneHolds (address_tests live.table side d)
  pub content : NoneHolds (kind_tests rules live side moment d kind)
  pub pool : is_pool_empty rules live side d kind ≡ false
  pub late : NoneHolds (late_tests rules live side moment d kind)

parts : {S : Type 0} (rules : SessionRules S) (live : World S) (side : Side) (moment : ℕ) (d : Datagram) (kind : Kind)
    → NoneHolds (world_tests rules live side moment d kind) → Passes rules live side moment d kind
parts rules live side moment d kind h =
    let late = late_tests rules live side moment d kind in
    let later =
    none_right (address_tests live.table side d)
    (kind_tests rules live side moment d kind ++ (is_pool_empty rules live side d kind, PoolEmpty) ∷ late) h in
    let last = none_right (kind_tests rules live side moment d kind) ((is_pool_empty rules live side d kind, PoolEmpty) ∷ late) later in
    record {
      address =
          none_left (address_tests live.table side d)
          (kind_tests rules live side moment d kind ++ (is_pool_empty rules live side d kind, PoolEmpty) ∷ late) h;
      content = none_left (kind_tests rules live side moment d kind) ((is_pool_empty rules live side d kind, PoolEmpty) ∷ late) later;
      pool = none_head {test = (is_pool_empty rules live side d kind, PoolEmpty)} {more = late} last;
      late = none_tail {test = (is_pool_empty rules live side d kind, PoolEmpty)} {more = late} last;
    }

pub passes : {S : Type 0} (rules : SessionRules S) (w : World S) (e : Event) → verdict rules w e ≡ Pass
    → Passes rules (at_moment w e.moment) e.side e.moment (datagram_in e) (kind_of (datagram_in e))
unfolding verdict
passes rules w e h =
    let live = at_moment w e.moment in
    let d = datagram_in e in
    let rest = world_tests rules live e.side e.moment d (kind_of d) in
    let all : NoneHolds (tests rules live e) = record { none = pass_is (first_that_holds (tests rules live e)) h } in
    let one : NoneHolds (datagram_tests d ++ (transport_tests d ++ rest)) =
    none_right (header_tests e) (datagram_tests d ++ (transport_tests d ++ rest)) all in
    parts rules live e.side e.moment d (kind_of d)
    (none_right (transport_tests d) (rest) (none_right (datagram_tests d) (transport_tests d ++ rest) one))

-- the same of a segment
pub record StreamPasses {S : Type 0} (rules : SessionRules S) (live : World S) (side : Side) (moment : ℕ) (d : Datagram) : Type 0 where
  pub lacks : lacks_session (found_in live side d) d ≡ false
  pub taken : session_refusal rules side d (taker_in rules live side moment d) ≡ None
  pub units : NoneHolds (unit_tests rules (image_in rules live side moment d) live.table side d (taker_in rules live side moment d))
  pub full : is_full live.connections (found_in live side d) d ≡ false

pub stream_passes : {S : Type 0} (rules : SessionRules S) (live : World S) (side : Side) (moment : ℕ) (d : Datagram)
    → NoneHolds (kind_tests rules live side moment d Stream) → StreamPasses rules live side moment d
stream_passes rules live side moment d h =
    let found = found_in live side d in
    let refusal = session_refusal rules side d (taker_in rules live side moment d) in
    let full : List (Bool × Refusal) = (is_full live.connections found d, SessionsFull) ∷ [] in
    let units = unit_tests rules (image_in rules live side moment d) live.table side d (taker_in rules live side moment d) in
    let two = none_tail {test = (lacks_session found d, NoSession)} {more = refusal_tests refusal ++ (units ++ full)} h in
    let three = none_right (refusal_tests refusal) (units ++ full) two in
    record {
      lacks = none_head {test = (lacks_session found d, NoSession)} {more = refusal_tests refusal ++ (units ++ full)} h;
      taken = none_told refusal (none_left (refusal_tests refusal) (units ++ full) two);
      units = none_left units full three;
      full = none_head {test = (is_full live.connections found d, SessionsFull)} {more = []} (none_right units full three);
    }
