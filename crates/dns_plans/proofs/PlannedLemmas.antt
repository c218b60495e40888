-- Addresses that are bound, and what they are called.
use Rattle.std.proofs.Common.{◌≡◌, ◌≢◌, true, false, List, [], ◌∷◌, length, take, drop, ◌-◌, refl, sym, ◌∙◌, ap, subst, arith, inl, inr, map, Option, not, All, take_all, length-drop}
use Rattle.std.specs.List.{list_all, list_any}
use Rattle.std.proofs.lemmas.Bool.{cases_Bool, or_parts, and_parts, not-true, true≢false}
use Rattle.std.proofs.lemmas.List.Elements.{All-nil, All-cons, All-head, All-tail}
use Rattle.gate_base.specs.declared.address.Addr.{Addr}
use Rattle.gate_base.specs.declared.side.Side.{Side}
use Rattle.binding_table.specs.Prelude.{Bindings, cross, Use, AreUsesOf, after_uses, image_after, images_after}
use Rattle.binding_table.specs.declared.binding.Crossing.TheVariants.{Unbound}
use Rattle.binding_table.proofs.Once.{address_is}
use Rattle.dialogue.specs.Prelude.{Entry, is_of, is_listed}
use Rattle.gate_model.specs.Prelude.{is_unbound, is_new_unbound}
use Rattle.gate_model.proofs.ListsBound.{not_unbound}
use Rattle.dns_plans.specs.Prelude.{all_addresses, called_after, AreBound, IsListBound}
use Rattle.dns_plans.specs.declared.plan.Endpoints.{Endpoints}

abbrev IsBound : Bindings → Side → Addr → Type 0
IsBound t side address = cross t side address ≢ Unbound

-- a listed address is bound, where all of the list are
listed_bound : (t : Bindings) (side : Side) (es : List Entry) (a : Addr) → IsListBound t side es → is_listed es a.0 ≡ true → IsBound t side a
listed_bound t side [] a h e = absurd (true≢false (sym e))
listed_bound t side (x ∷ es) a h e =
    elim (cases_Bool (is_of a.0 x)) [
      | inl is ↦ subst (IsBound t side) (address_is x.0 a is) (All-head (IsBound t side) x.0 (map (λ (entry : Entry). entry.0) es) h)
      | inr not ↦ listed_bound t side es a (All-tail (IsBound t side) x.0 (map (λ (entry : Entry). entry.0) es) h) (rw not at e)
    ]

one_bound : (t : Bindings) (side : Side) (es : List Entry) (a : Addr) → IsListBound t side es → is_new_unbound t side es a ≡ false → IsBound t side a
one_bound t side es a h e =
    elim (cases_Bool (is_listed es a.0)) [
      | inl listed ↦ listed_bound t side es a h listed
      | inr new ↦ not_unbound (cross t side a) (rw new at e)
    ]

pub named_bound : (t : Bindings) (side : Side) (es : List Entry) (named : List Addr) → IsListBound t side es
    → list_any (is_new_unbound t side es) named ≡ false → AreBound t side named
named_bound t side es [] h e = All-nil (IsBound t side)
named_bound t side es (a ∷ named) h e =
    let parts = or_parts (is_new_unbound t side es a) (list_any (is_new_unbound t side es) named) e in
    All-cons (IsBound t side) a named (one_bound t side es a h parts.0) (named_bound t side es named h parts.1)

abbrev IsOf : Side → Use → Type 0
IsOf side one = one.side ≡ side

-- where the uses are of the realm's addresses, their images are those of the addresses
images_are : (f : Side → Addr → Option Addr) (side : Side) (uses : List Use) → All (IsOf side) uses
    → map (λ (one : Use). f one.side one.address) uses ≡ map (f side) (map (λ (one : Use). one.address) uses)
images_are f side [] h = refl
images_are f side (one ∷ uses) h =
    ap (λ (s : Side). f s one.address ∷ map (λ (one : Use). f one.side one.address) uses) (All-head (IsOf side) one uses h)
    ∙ ap (λ more. f side one.address ∷ more) (images_are f side uses (All-tail (IsOf side) one uses h))

drop-map : {X Y : Type 0} (f : X → Y) (xs : List X) → drop 2 (map f xs) ≡ map f (drop 2 xs)
drop-map f [] = refl
drop-map f (x ∷ []) = refl
drop-map f (x ∷ y ∷ xs) = refl

pub images_behind_are : (t : Bindings) (side : Side) (addresses : List Addr) (uses : List Use) → AreUsesOf side addresses uses
    → drop 2 (images_after t uses) ≡ map (called_after t uses side) (drop 2 addresses)
images_behind_are t side addresses uses u =
    ap (drop 2) (images_are (image_after t (after_uses t uses)) side uses u.sides ∙ ap (map (image_after t (after_uses t uses) side)) u.each)
    ∙ drop-map (image_after t (after_uses t uses) side) addresses

-- what stands behind the first two, as a range
pub behind_two : {X : Type 0} (xs : List X) → take (length xs - 2) (drop 2 xs) ≡ drop 2 xs
behind_two xs = take_all (length xs - 2) (drop 2 xs) (omega (arith, length-drop 2 xs))

-- where no new address is unbound, nor one of the header or of the list, none of those that are used is
pub used_bound : (t : Bindings) (ends : Endpoints) (es : List Entry) (names : List Addr) → AreBound t ends.side (ends.source ∷ ends.destination ∷ [])
    → IsListBound t ends.side es → list_any (is_new_unbound t ends.side es) names ≡ false → AreBound t ends.side (all_addresses ends names)
used_bound t ends es names header listed new =
    let P = IsBound t ends.side in
    All-cons P ends.source (ends.destination ∷ names) (All-head P ends.source (ends.destination ∷ []) header)
    (All-cons P ends.destination names (All-head P ends.destination [] (All-tail P ends.source (ends.destination ∷ []) header))
    (named_bound t ends.side es names listed new))

-- a list none of whose addresses is unbound, by a test of each
pub all_bound : (t : Bindings) (side : Side) (es : List Entry) → list_all (λ (entry : Entry). not (is_unbound (cross t side entry.0))) es ≡ true
    → IsListBound t side es
all_bound t side [] h = All-nil (IsBound t side)
all_bound t side (e ∷ es) h =
    let parts = and_parts (not (is_unbound (cross t side e.0))) (list_all (λ (entry : Entry). not (is_unbound (cross t side entry.0))) es) h in
    All-cons (IsBound t side) e.0 (map (λ (entry : Entry). entry.0) es)
    (not_unbound (cross t side e.0) (not-true (is_unbound (cross t side e.0)) parts.0)) (all_bound t side es parts.1)
