-- What the tests of units tell.
use Rattle.std.proofs.Common.{◌≡◌, ◌≤◌, ℕ, Bool, true, false, cond, List, [], length, refl, sym, subst, ◌∙◌, ap, arith, map, nat_lt, Option, Some, None, Result, Ok, Err, IfOk, IfErr, is_some}
use Rattle.std.specs.List.{list_any}
use Rattle.gate_base.specs.Prelude.{other}
use Rattle.verdicts.specs.Prelude.{first_that_holds}
use Rattle.gate_base.specs.declared.address.Addr.{Addr}
use Rattle.verdicts.specs.declared.refusal.Refusal.{Refusal}
use Rattle.verdicts.specs.declared.refusal.Refusal.TheVariants.{RenamesFull, PoolEmpty, UnitGrows}
use Rattle.binding_table.specs.Prelude.{Bindings, free, needed}
use Rattle.dialogue.specs.Prelude.{Entry, AreImages, Meaning}
use Rattle.dns_stream.specs.Prelude.{dns_units, unit_end}
use Rattle.gate_model.specs.Prelude.{entered, grows_too_much, is_bad, is_new_unbound}
use Rattle.dns_plans.specs.Prelude.{whole_units, names_in, all_addresses, called_after, plan_tests, entered_all, beside, image_unit, TellsFirst}
use Rattle.dns_plans.specs.Planned.{IsPlan, IsStopped}
use Rattle.dns_plans.specs.Inside.Steps.{none_tests}
use Rattle.dns_plans.specs.declared.plan.Endpoints.{Endpoints}
use Rattle.dns_plans.specs.declared.plan.UnitPlan.{UnitPlan}
use Rattle.dns_plans.specs.declared.stop.PlanStop.{PlanStop}
use Rattle.dns_plans.proofs.EnteredLemmas.{same_count, list_after}
use Rattle.dns_plans.proofs.NamedLemmas.{units-first, units-none}

-- where no unit is whole, two tests are left
pub none_told : (t : Bindings) (called : Addr → Option Addr) (ends : Endpoints) (es : List Entry) (octets : List ℕ) → unit_end octets ≡ None
    → first_that_holds (plan_tests t called ends es octets) ≡ first_that_holds (none_tests t ends es)
none_told t called ends es octets none = let e : whole_units octets ≡ [] = units-none octets none in rw e refl

none_named : (octets : List ℕ) → unit_end octets ≡ None → names_in octets ≡ []
none_named octets none = let e : whole_units octets ≡ [] = units-none octets none in rw e refl

no_images : (m : Meaning) → AreImages m []
no_images m k d lt = absurd (omega (arith, lt))

module _ (t : Bindings) (ends : Endpoints) (es : List Entry) (octets : List ℕ) (none : unit_end octets ≡ None) where
  pub none_plan : (r : Result UnitPlan PlanStop) → IfOk r (λ _. first_that_holds (none_tests t ends es) ≡ None)
      → IfOk r (λ plan. plan.named.items ≡ []) → IfOk r (λ plan. plan.entries.items ≡ []) → IfOk r (λ plan. plan.images.items ≡ [])
      → IfOk r (IsPlan t ends es octets)
  none_plan (Err stop) passes named entries images = tt
  none_plan (Ok plan) passes named entries images = record {
    passes = λ uses u. none_told t (called_after t uses ends.side) ends es octets none ∙ passes;
    named = named ∙ sym (none_named octets none);
    entries = λ uses u. entries ∙ ap (beside (called_after t uses ends.side)) (sym (none_named octets none));
    units = ap (map image_unit) images ∙ sym (units-none octets none);
    images =
        subst (AreImages (dns_units (entered_all es plan.entries.items))) (sym images) (no_images (dns_units (entered_all es plan.entries.items)));
  }

  pub none_stopped : (r : Result UnitPlan PlanStop) → IfErr r (TellsFirst (first_that_holds (none_tests t ends es)))
      → IfErr r (IsStopped t ends es octets)
  none_stopped (Ok plan) told = tt
  none_stopped (Err stop) told = λ uses u. subst (λ (first : Option Refusal). TellsFirst first stop)
      (sym (none_told t (called_after t uses ends.side) ends es octets none)) told

pub some_whole : (octets : List ℕ) → is_some (unit_end octets) ≡ true → 1 ≤ length (whole_units octets)
some_whole octets e = from (unit_end octets) refl e
  where
    from : (end : Option ℕ) → unit_end octets ≡ end → is_some end ≡ true → 1 ≤ length (whole_units octets)
    from None f e = cc
    from (Some n) f e = let g = units-first octets n f in rw g (omega arith)

-- there are too many entries afterwards
pub full_told : (t : Bindings) (called : Addr → Option Addr) (ends : Endpoints) (es named : List Entry) (octets : List ℕ)
    → list_any is_bad (whole_units octets) ≡ false → list_any (is_new_unbound t ends.side es) (names_in octets) ≡ false
    → map (λ (entry : Entry). entry.0) named ≡ names_in octets → nat_lt 256 (length (entered_all es named)) ≡ true
    → first_that_holds (plan_tests t called ends es octets) ≡ Some RenamesFull
full_told t called ends es named octets good bound are full =
    let many : nat_lt 256 (length (entered called es (names_in octets))) ≡ true =
    ap (nat_lt 256) (sym (same_count called es named (names_in octets) are)) ∙ full in
    rw (good, bound, many) refl

-- or not, and the other realm's pool has too few free addresses
pub empty_told : (t : Bindings) (called : Addr → Option Addr) (ends : Endpoints) (es named : List Entry) (octets : List ℕ)
    → list_any is_bad (whole_units octets) ≡ false → list_any (is_new_unbound t ends.side es) (names_in octets) ≡ false
    → map (λ (entry : Entry). entry.0) named ≡ names_in octets → nat_lt 256 (length (entered_all es named)) ≡ false
    → nat_lt (free t (other ends.side)) (needed t ends.side (all_addresses ends (names_in octets))) ≡ true
    → first_that_holds (plan_tests t called ends es octets) ≡ Some PoolEmpty
empty_told t called ends es named octets good bound are few lacks =
    let some : nat_lt 256 (length (entered called es (names_in octets))) ≡ false =
    ap (nat_lt 256) (sym (same_count called es named (names_in octets) are)) ∙ few in
    rw (good, bound, some, lacks) refl

-- or it has enough, and what is left is whether an image grows too much
pub last_told : (t : Bindings) (called : Addr → Option Addr) (ends : Endpoints) (es named : List Entry) (octets : List ℕ) (grows : Bool)
    → list_any is_bad (whole_units octets) ≡ false → list_any (is_new_unbound t ends.side es) (names_in octets) ≡ false
    → named ≡ beside called (names_in octets) → nat_lt 256 (length (entered_all es named)) ≡ false
    → nat_lt (free t (other ends.side)) (needed t ends.side (all_addresses ends (names_in octets))) ≡ false
    → list_any (grows_too_much (entered_all es named)) (whole_units octets) ≡ grows
    → first_that_holds (plan_tests t called ends es octets) ≡ cond grows (Some UnitGrows) None
last_told t called ends es named octets grows good bound is few enough long =
    let after : entered_all es named ≡ entered called es (names_in octets) = list_after called es named (names_in octets) is in
    let some : nat_lt 256 (length (entered called es (names_in octets))) ≡ false = ap (λ (xs : List Entry). nat_lt 256 (length xs)) (sym after)
    ∙ few in
    let so : list_any (grows_too_much (entered called es (names_in octets))) (whole_units octets) ≡ grows =
    ap (λ (xs : List Entry). list_any (grows_too_much xs) (whole_units octets)) (sym after) ∙ long in
    rw (good, bound, some, enough, so) refl
