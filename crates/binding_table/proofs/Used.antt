-- What uses of addresses keep and give.
use Rattle.std.proofs.Common.{◌≡◌, ◌≢◌, ◌≤◌, ◌<◌, ◌+◌, ℕ, zero, suc, Bool, true, false, not, ◌&&◌, ◌||◌, ◌==◌, cond, List, [], ◌∷◌, map, length, All, IsSome, Option, Some, None, refl, sym, ◌∙◌, ap, subst, arith, inl, inr, get_or, set, take, take_all, find, eq-eqb}
use Rattle.std.specs.Option.{option_or}
use Rattle.std.proofs.lemmas.List.{length-map, length-set}
use Rattle.std.proofs.lemmas.List.Folds.{find-append, list_any_at}
use Rattle.gate_base.specs.Prelude.{is_unicast_number, other, same_side}
use Rattle.gate_base.specs.declared.address.Addr.{Addr}
use Rattle.gate_base.specs.declared.event.Moment.{Moment}
use Rattle.gate_base.specs.declared.side.Side.{Side}
use Rattle.gate_settings.specs.Prelude.{is_in_same}
use Rattle.gate_settings.specs.declared.settings.Block.{Block}
use Rattle.binding_table.specs.declared.binding.Binding.{Binding}
use Rattle.binding_table.specs.declared.binding.Crossing.{Crossing}
use Rattle.binding_table.specs.declared.binding.Crossing.TheVariants.{Same, Bound, New, Unbound, Empty}
use Rattle.binding_table.specs.Prelude.{Bindings, is_same, is_settled, is_of_host, in_pool, cross, seen, seen_by, with_binding, extend_through, extended, free, IsBoundTo, IsKnownAs, IsLawful, Use, AreUsesOf, used, used_by, after_uses, is_address, needed}
use Rattle.binding_table.proofs.Kept.{same_pair, ends_extended}
use Rattle.binding_table.proofs.Planned.{IsAt, address_of, at_start, at_step, used_follows, planned}

-- ## What is known stays known, and as long

pub find_map : {A : Type 0} (p : A → Bool) (f : A → A) → ((x : A) → p (f x) ≡ p x) → (xs : List A) (x : A) → find p xs ≡ Some x
    → find p (map f xs) ≡ Some (f x)
find_map p f same [] x e = cc
find_map {A = A} p f same (y ∷ ys) x e = rw (same y) (by_test (p y) (λ k. find_map p f same ys x k) e)
  where
    by_test : (b : Bool) → (find p ys ≡ Some x → find p (map f ys) ≡ Some (f x)) → cond b (Some y) (find p ys) ≡ Some x
        → cond b (Some (f y)) (find p (map f ys)) ≡ Some (f x)
    by_test true more e = let is : y ≡ x = cc in ap (λ (z : A). Some (f z)) is
    by_test false more e = more e

pub host_same : (side : Side) (host : ℕ) (from_pool : Bool) (from : Side) (address : Addr) (until : Moment) (b : Binding)
    → is_of_host side host (extend_through from_pool from address until b) ≡ is_of_host side host b
host_same side host from_pool from address until b =
    let p = same_pair from_pool from address until b in
    ap (λ (s : Side). same_side s side && (extend_through from_pool from address until b).host.0 == host) p.side
    ∙ ap (λ (a : Addr). same_side b.side side && a.0 == host) p.host

bound_extended : (table : Bindings) (side : Side) (host alias until : ℕ) (from : Side) (address : Addr) (later : Moment)
    → IsBoundTo table side host alias until → IsBoundTo (extended table from address later) side host alias until
bound_extended table side host alias until from address later h =
    let pool = in_pool table from address in
    record {
      binding = extend_through pool from address later h.binding;
      found = find_map (is_of_host side host) (extend_through pool from address later) (host_same side host pool from address later) table.entries
          h.binding h.found;
      alias_is = ap (λ (a : Addr). a.0) (same_pair pool from address later h.binding).alias ∙ h.alias_is;
      lasts = ends_extended until pool from address later h.binding h.lasts;
    }

bound_pushed : (table : Bindings) (side : Side) (host alias until : ℕ) (one : Binding) → IsBoundTo table side host alias until
    → IsBoundTo (with_binding table one) side host alias until
bound_pushed table side host alias until one h = record {
  binding = h.binding;
  found = find-append (is_of_host side host) table.entries (one ∷ []) ∙ ap (λ o. option_or o (find (is_of_host side host) (one ∷ []))) h.found;
  alias_is = h.alias_is;
  lasts = h.lasts;
}

bound_used_by : (table : Bindings) (side : Side) (host alias until : ℕ) (from : Side) (address : Addr) (later : Moment) (c : Crossing)
    → IsBoundTo table side host alias until → IsBoundTo (used_by table from address later c) side host alias until
bound_used_by table side host alias until from address later Same h = h
bound_used_by table side host alias until from address later (Bound image) h = bound_extended table side host alias until from address later h
bound_used_by table side host alias until from address later (New image) h =
    bound_pushed table side host alias until (record { side = from; host = address; alias = image; until = later; fixed = false }) h
bound_used_by table side host alias until from address later Unbound h = h
bound_used_by table side host alias until from address later Empty h = h

pub same_used : (table : Bindings) (one : Use) (address : Addr) → is_same (used table one) address ≡ is_same table address
same_used table one address = ap (λ (blocks : List Block). not (is_unicast_number address.0) || is_in_same address blocks)
    (used_follows table one).same

pub known_used : (table : Bindings) (side : Side) (host alias until : ℕ) (one : Use) → IsKnownAs table side host alias until
    → IsKnownAs (used table one) side host alias until
known_used table side host alias until one (inl same) = inl (same_used table one (record { 0 = host }) ∙ same.0, same.1)
known_used table side host alias until one (inr h) =
    inr (bound_used_by table side host alias until one.side one.address one.until (cross table one.side one.address) h)

pub known_after : (uses : List Use) (table : Bindings) (side : Side) (host alias until : ℕ) → IsKnownAs table side host alias until
    → IsKnownAs (after_uses table uses) side host alias until
known_after [] table side host alias until h = h
known_after (one ∷ uses) table side host alias until h = known_after uses (used table one) side host alias until
    (known_used table side host alias until one h)

-- ## What is used is seen

-- the rest of a plan
reach : (n : ℕ) (table : Bindings) (side : Side) (addresses : List Addr) (uses : List Use) (place : ℕ) (images : List (Option Addr))
    (given : Option Addr) → IsLawful table → AreUsesOf side addresses uses → All (λ address. cross table side address ≢ Unbound) addresses
    → place + n ≡ length addresses → length images ≡ length addresses → IsAt table side addresses place images given uses
    → (last : List (Option Addr)) × (alias : Option Addr) × IsAt table side addresses (length addresses) last alias uses
reach zero table side addresses uses place images given lawful e bound left long at =
    let done : place ≡ length addresses = omega arith in
    (images, given, subst (λ (k : ℕ). IsAt table side addresses k images given uses) done at)
reach (suc n) table side addresses uses place images given lawful e bound left long at =
    let zero_address : Addr = record { 0 = 0 } in
    let step = planned table side (take place addresses) images given (get_or addresses place zero_address) in
    let within : place < length addresses = omega arith in
    reach n table side addresses uses (place + 1) (set images place step.0) step.1 lawful e bound (omega arith)
    (length-set images place step.0 ∙ long)
    (at_step table side addresses place images given uses zero_address (lawful.ranges (other side)) e within long (bound place zero_address within)
    at)

settled_seen : (address : Addr) (crossing : Crossing) → is_settled crossing ≡ true → IsSome (seen_by address crossing)
settled_seen address Same h = refl
settled_seen address (Bound image) h = refl
settled_seen address (New alias) h = cc
settled_seen address Unbound h = cc
settled_seen address Empty h = cc

-- once they are used, each of the addresses is called something
pub all_seen : (table : Bindings) (side : Side) (addresses : List Addr) (uses : List Use) → IsLawful table → AreUsesOf side addresses uses
    → All (λ address. cross table side address ≢ Unbound) addresses → needed table side addresses ≤ free table (other side)
    → All (λ address. IsSome (seen (after_uses table uses) side address)) addresses
all_seen table side addresses uses lawful e bound room = λ k d within.
    let images : List (Option Addr) = map (λ address. None) addresses in
    let start = at_start table side addresses images uses room in
    let (last, alias, at) = reach (length addresses) table side addresses uses 0 images None lawful e bound (omega arith)
    (length-map addresses (λ address. None)) start in
    let count : length uses ≡ length addresses = sym (length-map uses address_of) ∙ ap length e.each in
    let whole : take (length addresses) uses ≡ uses = take_all (length addresses) uses (omega arith) in
    let all : take (length addresses) addresses ≡ addresses = take_all (length addresses) addresses (omega arith) in
    let one : Addr = get_or addresses k d in
    let settled = (rw (whole, all) at at.plan).settled one (list_any_at (is_address one) addresses k d within (eq-eqb one.0 one.0 refl)) in
    settled_seen one (cross (after_uses table uses) side one) settled
