-- A connection that doesn't live goes.
use Rattle.std.proofs.Common.{◌≡◌, ◌<◌, ℕ, zero, suc, Bool, true, false, cond, List, [], ◌∷◌, length, All, Option, Some, None, option_map, refl, sym, ◌∙◌, ap, subst, arith, option_and_then, slice_get, IfSome, IsSome, remove}
use Rattle.std.proofs.lemmas.List.Edits.{length-remove}
use Rattle.gate_base.specs.declared.event.Moment.{Moment}
use Rattle.tcp_tracker.specs.Prelude.{is_of, is_live, live, place_of, connection_of, changed, without, IsEnded, inline, joined, IsKept}
use Rattle.tcp_tracker.specs.declared.connection.ConnKey.{ConnKey}
use Rattle.tcp_tracker.specs.declared.connection.Connection.{Connection}
use Rattle.slab.specs.Slab.{Slab, get}
use Rattle.tcp_tracker.proofs.Joining.{place_within, connection_joined, found_kept}
use Rattle.tcp_tracker.proofs.Replacing.{IsWithout}

live_removed : {S : Type 0} (now : Moment) (all : List (Connection S)) (i : ℕ) (c : Connection S) → slice_get all i ≡ Some c → is_live now c ≡ false
    → live now (remove all i) ≡ live now all
live_removed now [] i c e over = absurd (let none : None ≡ Some c = e in cc)
live_removed now (x ∷ all) zero c e over = let same : x ≡ c = cc in let gone : is_live now x ≡ false = ap (is_live now) same ∙ over in rw gone refl
live_removed now (x ∷ all) (suc i) c e over = ap (λ more. cond (is_live now x) (x ∷ more) more) (live_removed now all i c e over)

-- without it the same live, and it is one fewer
pub record IsFewer {S : Type 0} (now : Moment) (old new : List (Connection S)) : Type 0 where
  pub lives : live now new ≡ live now old
  pub fewer : length new < length old

pub ended_fewer : {S : Type 0} (now : Moment) (all : List (Connection S)) (key : ConnKey) (c : Connection S) → connection_of key all ≡ Some c
    → is_live now c ≡ false → IsFewer now all (without all key)
ended_fewer {S = S} now all key c found over = by_place (place_of key all) refl found
  where
    by_place : (o : Option ℕ) → place_of key all ≡ o → option_and_then (slice_get all) (place_of key all) ≡ Some c → IsFewer now all (without all key)
    by_place None p e = absurd (let none : None ≡ Some c = sym (ap (option_and_then (slice_get all)) p) ∙ e in cc)
    by_place (Some i) p e =
        let same : without all key ≡ remove all i = ap (λ (o : Option ℕ). changed all o None) p in
        let at : slice_get all i ≡ Some c = sym (ap (option_and_then (slice_get all)) p) ∙ e in
        record {
          lives = ap (live now) same ∙ live_removed now all i c at over;
          fewer = omega (arith, ap length same, length-remove all i (place_within (is_of key) all i p), place_within (is_of key) all i p);
        }

pub live_joined : {X : Type 0} (slots : Slab X) (now : Moment) (all : List (Connection ℕ)) → joined slots (live now all) ≡ live now (joined slots all)
live_joined slots now [] = refl
live_joined {X = X} slots now (c ∷ all) = by_test (is_live now c) (live_joined slots now all)
  where
    by_test : (b : Bool) → joined slots (live now all) ≡ live now (joined slots all) → joined slots (cond b (c ∷ live now all) (live now all))
        ≡ cond b (inline slots c ∷ live now (joined slots all)) (live now (joined slots all))
    by_test true e = ap (λ (xs : List (Connection X)). inline slots c ∷ xs) e
    by_test false e = e

-- the slot of a connection's session has one
pub filled_at : {X : Type 0} (slots : Slab X) (key : ConnKey) (all : List (Connection ℕ)) (c : Connection ℕ) (slot : ℕ) → All (IsKept slots) all
    → connection_of key all ≡ Some c → c.session ≡ Some slot → IsSome (get slots slot)
filled_at slots key all c slot h e s =
    let kept : IsKept slots c = subst (λ (o : Option (Connection ℕ)). IfSome o (IsKept slots)) e (found_kept slots key all h) in
    subst (λ (o : Option ℕ). IfSome o (λ one. IsSome (get slots one))) s kept

pub session_at : (key : ConnKey) (all : List (Connection ℕ)) (c : Connection ℕ) → connection_of key all ≡ Some c
    → option_and_then (λ (d : Connection ℕ). d.session) (connection_of key all) ≡ c.session
session_at key all c e = ap (option_and_then (λ (d : Connection ℕ). d.session)) e

pub dropped : {X : Type 0} (old new : Slab X) (now : Moment) (all next : List (Connection ℕ)) (c : Connection ℕ) → IsEnded now all next c
    → IsWithout old new all c.key → IsFewer now (joined old all) (joined new next)
dropped old new now all next c ended w =
    let same : joined new next ≡ without (joined old all) c.key = ap (joined new) ended.rest ∙ w.is in
    let f = ended_fewer now (joined old all) c.key (inline old c) (connection_joined old c.key all ∙ ap (option_map (inline old)) ended.there)
    ended.over in
    record { lives = ap (live now) same ∙ f.lives; fewer = omega (arith, ap length same, f.fewer) }
