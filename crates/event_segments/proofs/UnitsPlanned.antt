-- The refusal of a segment of a session is that of the plan of its units.
use Rattle.std.proofs.Common.{◌≡◌, ◌≤◌, ℕ, Bool, true, false, List, [], ◌∷◌, length, nat_lt, Option, None, refl, sym, ap, ◌∙◌, map, ltb-false}
use Rattle.std.specs.List.{AllByRecursion, list_any}
use Rattle.gate_base.specs.Prelude.{other}
use Rattle.verdicts.specs.Prelude.{first_that_holds}
use Rattle.gate_base.specs.declared.address.Addr.{Addr}
use Rattle.verdicts.specs.declared.refusal.Refusal.{Refusal}
use Rattle.verdicts.specs.declared.refusal.Refusal.TheVariants.{BadUnit, UnitUnbound, RenamesFull, PoolEmpty, UnitGrows}
use Rattle.binding_table.specs.Prelude.{Bindings, free, needed}
use Rattle.dialogue.specs.Prelude.{Entry}
use Rattle.gate_model.specs.Prelude.{addresses_in, enter, entered, is_bad, grows_too_much, is_new_unbound}
use Rattle.dialogue.specs.declared.TheConstants.{MOST_ENTRIES}
use Rattle.dns_plans.specs.Prelude.{whole_units, beside, all_addresses, plan_tests}
use Rattle.dns_plans.specs.declared.plan.Endpoints.{Endpoints}
use Rattle.dns_plans.proofs.EnteredLemmas.{same_count, entered-beside}

-- ## What is told by two ways to call addresses

enter_alike : (f g : Addr → Option Addr) (es : List Entry) (a : Addr) → f a ≡ g a → enter f es a ≡ enter g es a
enter_alike f g es a e = ap (λ (image : Option Addr). enter (λ (x : Addr). image) es a) e

pub entered_alike : (f g : Addr → Option Addr) (es : List Entry) (names : List Addr) → AllByRecursion (λ a. f a ≡ g a) names
    → entered f es names ≡ entered g es names
entered_alike f g es [] h = refl
entered_alike f g es (a ∷ names) h = ap (λ (xs : List Entry). entered f xs names) (enter_alike f g es a h.0)
    ∙ entered_alike f g (enter g es a) names h.1

pub beside_alike : (f g : Addr → Option Addr) (names : List Addr) → AllByRecursion (λ a. f a ≡ g a) names → beside f names ≡ beside g names
beside_alike f g [] h = refl
beside_alike f g (a ∷ names) h = ap (λ (image : Option Addr). (a, image) ∷ beside f names) h.0
    ∙ ap (λ (xs : List Entry). (a, g a) ∷ xs) (beside_alike f g names h.1)

addresses_beside : (f : Addr → Option Addr) (names : List Addr) → map (λ (entry : Entry). entry.0) (beside f names) ≡ names
addresses_beside f [] = refl
addresses_beside f (a ∷ names) = ap (λ (xs : List Addr). a ∷ xs) (addresses_beside f names)

-- a list gets as long, whatever addresses are called
counts_alike : (f g : Addr → Option Addr) (es : List Entry) (names : List Addr) → length (entered f es names) ≡ length (entered g es names)
counts_alike f g es names = ap length (sym (entered-beside f es names)) ∙ same_count g es (beside f names) names (addresses_beside f names)

abbrev pub five : Bool → Bool → Bool → Bool → Bool → Option Refusal
five bad unbound full empty grows =
    first_that_holds ((bad, BadUnit) ∷ (unbound, UnitUnbound) ∷ (full, RenamesFull) ∷ (empty, PoolEmpty) ∷ (grows, UnitGrows) ∷ [])

five_alike : (bad unbound full empty g h : Bool) → (bad ≡ false → unbound ≡ false → empty ≡ false → g ≡ h)
    → five bad unbound full empty g ≡ five bad unbound full empty h
five_alike true unbound full empty g h same = refl
five_alike false true full empty g h same = refl
five_alike false false true empty g h same = refl
five_alike false false false true g h same = refl
five_alike false false false false g h same = ap (λ (b : Bool). first_that_holds ((b, UnitGrows) ∷ [])) (same refl refl refl)

pub plans_alike : (table : Bindings) (f g : Addr → Option Addr) (ends : Endpoints) (es : List Entry) (octets : List ℕ)
    → (list_any (is_new_unbound table ends.side es) (addresses_in (whole_units octets)) ≡ false
    → nat_lt (free table (other ends.side)) (needed table ends.side (all_addresses ends (addresses_in (whole_units octets)))) ≡ false
    → AllByRecursion (λ a. f a ≡ g a) (addresses_in (whole_units octets)))
    → first_that_holds (plan_tests table f ends es octets) ≡ first_that_holds (plan_tests table g ends es octets)
plans_alike table f g ends es octets same =
    let units = whole_units octets in
    let names = addresses_in units in
    let bad = list_any is_bad units in
    let unbound = list_any (is_new_unbound table ends.side es) names in
    let empty = nat_lt (free table (other ends.side)) (needed table ends.side (all_addresses ends names)) in
    ap (λ (n : ℕ). five bad unbound (nat_lt MOST_ENTRIES n) empty (list_any (grows_too_much (entered f es names)) units)) (counts_alike f g es names)
    ∙ five_alike bad unbound (nat_lt MOST_ENTRIES (length (entered g es names))) empty (list_any (grows_too_much (entered f es names)) units)
    (list_any (grows_too_much (entered g es names)) units)
    (λ good few room. ap (λ (xs : List Entry). list_any (grows_too_much xs) units) (entered_alike f g es names (same few room)))

-- ## Where none of the tests holds

pub record NoneTold (table : Bindings) (f : Addr → Option Addr) (ends : Endpoints) (es : List Entry) (octets : List ℕ) : Type 0 where
  pub bound : list_any (is_new_unbound table ends.side es) (addresses_in (whole_units octets)) ≡ false
  pub few : length (entered f es (addresses_in (whole_units octets))) ≤ MOST_ENTRIES
  pub room : nat_lt (free table (other ends.side)) (needed table ends.side (all_addresses ends (addresses_in (whole_units octets)))) ≡ false

five_none : (bad unbound full empty grows : Bool) → five bad unbound full empty grows ≡ None → (unbound ≡ false) × ((full ≡ false) × (empty ≡ false))
five_none true unbound full empty grows e = absurd (cc)
five_none false true full empty grows e = absurd (cc)
five_none false false true empty grows e = absurd (cc)
five_none false false false true grows e = absurd (cc)
five_none false false false false grows e = (refl, (refl, refl))

pub none_told : (table : Bindings) (f : Addr → Option Addr) (ends : Endpoints) (es : List Entry) (octets : List ℕ)
    → first_that_holds (plan_tests table f ends es octets) ≡ None → NoneTold table f ends es octets
none_told table f ends es octets none =
    let units = whole_units octets in
    let names = addresses_in units in
    let parts = five_none (list_any is_bad units) (list_any (is_new_unbound table ends.side es) names)
    (nat_lt MOST_ENTRIES (length (entered f es names)))
    (nat_lt (free table (other ends.side)) (needed table ends.side (all_addresses ends names)))
    (list_any (grows_too_much (entered f es names)) units) none in
    record { bound = parts.0; few = ltb-false MOST_ENTRIES (length (entered f es names)) parts.1.0; room = parts.1.1 }
