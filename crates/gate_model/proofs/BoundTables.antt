-- Bindings that stay, and last longer by uses.
use Rattle.std.proofs.Common.{◌≡◌, ◌≤◌, ◌<◌, ◌⊎◌, ℕ, Bool, true, false, ◌||◌, ◌==◌, nat_lt, cond, List, [], ◌∷◌, All, Option, Some, None, option_map, refl, sym, ◌∙◌, ap, subst, arith, inl, inr, find}
use Rattle.std.proofs.lemmas.Bool.{and_parts, or_left, or_right, eqb-true, lt-ltb}
use Rattle.std.proofs.lemmas.List.Elements.{All-head, All-tail}
use Rattle.gate_base.specs.Prelude.{other, same_side}
use Rattle.gate_base.specs.declared.address.Addr.{Addr}
use Rattle.gate_base.specs.declared.event.Moment.{Moment}
use Rattle.gate_base.specs.declared.side.Side.{Side}
use Rattle.gate_base.proofs.Sides.{same_side-true}
use Rattle.gate_base.proofs.Lists.{find_passes, find_filter}
use Rattle.realm_pools.specs.Addresses.{least_free}
use Rattle.binding_table.specs.declared.binding.Binding.{Binding}
use Rattle.binding_table.specs.declared.binding.Crossing.{Crossing}
use Rattle.binding_table.specs.declared.binding.Crossing.TheVariants.{Same, Bound, New, Unbound, Empty}
use Rattle.binding_table.specs.Prelude.{Bindings, is_same, is_of_host, in_pool, alias_of, pool_of, seen, seen_by, new_or_empty, extend_through, is_live, expired, IsBoundTo, IsKnownAs, IsInPlace, IsLawful, Use, used, used_by, after_uses, needs_binding}
use Rattle.binding_table.specs.Bindings.{cross}
use Rattle.binding_table.proofs.Kept.{same_pair, lawful_map, lawful_push}
use Rattle.binding_table.proofs.Bind.{HasNoBinding, fresh_is, unbound_cross, least_is_free, can_bind}

-- ## What is found

pub find_all : {A : Type 0} (P : A → Type 0) (p : A → Bool) (xs : List A) (x : A) → find p xs ≡ Some x → All P xs → P x
find_all P p [] x e h = absurd (cc)
find_all {A = A} P p (y ∷ ys) x e h = by_test (p y) (λ k. find_all P p ys x k (All-tail P y ys h)) e
  where
    by_test : (b : Bool) → (find p ys ≡ Some x → P x) → cond b (Some y) (find p ys) ≡ Some x → P x
    by_test true more e = let same : y ≡ x = cc in subst P same (All-head P y ys h)
    by_test false more e = more e

pub found_alias : (o : Option Binding) (alias : Addr) → option_map (λ (b : Binding). b.alias) o ≡ Some alias → (b : Binding) × (o ≡ Some b)
    × (b.alias ≡ alias)
found_alias None alias e = absurd (cc)
found_alias (Some b) alias e = (b, refl, cc)

pub none_alias : (o : Option Binding) → option_map (λ (b : Binding). b.alias) o ≡ None → o ≡ None
none_alias None e = refl
none_alias (Some b) e = cc

-- ## Time goes on

pub lives : (now until : ℕ) (b : Binding) → now < until → (b.fixed ≡ true) ⊎ (until ≤ b.until.0) → (b.fixed || nat_lt now b.until.0) ≡ true
lives now until b less (inl fixed) = or_left _ _ fixed
lives now until b less (inr later) = or_right _ _ (lt-ltb now b.until.0 (omega arith))

pub known_expired : (table : Bindings) (side : Side) (host alias until now : ℕ) → now < until → IsKnownAs table side host alias until
    → IsKnownAs (expired table (record { 0 = now })) side host alias until
known_expired table side host alias until now less (inl same) = inl same
known_expired table side host alias until now less (inr h) = inr (record {
  binding = h.binding;
  found = find_filter (is_of_host side host) (is_live (record { 0 = now })) table.entries h.binding h.found (lives now until h.binding less h.lasts);
  alias_is = h.alias_is;
  lasts = h.lasts;
})

-- ## Lawful tables

pub new_is_least : (table : Bindings) (side : Side) (host alias : Addr) → cross table side host ≡ New alias → HasNoBinding table side host
    × (least_free (pool_of table (other side)) ≡ Some alias)
new_is_least table side host alias e =
    let none = fresh_is table side host (ap needs_binding e) in
    (none, least_of (least_free (pool_of table (other side))) (sym (unbound_cross table side host none) ∙ e))
  where
    least_of : (o : Option Addr) → new_or_empty o ≡ New alias → o ≡ Some alias
    least_of None e = cc
    least_of (Some one) e = cc

lawful_used_by : (table : Bindings) (from : Side) (address : Addr) (until : Moment) (c : Crossing) → cross table from address ≡ c → IsLawful table
    → IsLawful (used_by table from address until c)
lawful_used_by table from address until Same e h = h
lawful_used_by table from address until (Bound image) e h =
    lawful_map (extend_through (in_pool table from address) from address until) (same_pair (in_pool table from address) from address until) table h
lawful_used_by table from address until (New alias) e h =
    let new = new_is_least table from address alias e in
    lawful_push table (record { side = from; host = address; alias = alias; until = until; fixed = false }) h
    (can_bind table from address alias until h new.0 (least_is_free table (other from) alias h new.1))
lawful_used_by table from address until Unbound e h = h
lawful_used_by table from address until Empty e h = h

pub lawful_used : (table : Bindings) (one : Use) → IsLawful table → IsLawful (used table one)
lawful_used table one h = lawful_used_by table one.side one.address one.until (cross table one.side one.address) refl h

pub lawful_after : (uses : List Use) (table : Bindings) → IsLawful table → IsLawful (after_uses table uses)
lawful_after [] table h = h
lawful_after (one ∷ uses) table h = lawful_after uses (used table one) (lawful_used table one h)

-- ## Crossing of hosts that are bound

pub host_is : (side : Side) (host : ℕ) (b : Binding) → is_of_host side host b ≡ true → (b.side ≡ side) × (b.host.0 ≡ host)
host_is side host b h = let parts = and_parts (same_side b.side side) (b.host.0 == host) h in
    (same_side-true b.side side parts.0, eqb-true b.host.0 host parts.1)

pub placed : (table : Bindings) (side : Side) (host alias until : ℕ) → IsLawful table → IsBoundTo table side host alias until
    → (is_same table (record { 0 = host }) ≡ false) × (in_pool table side (record { 0 = host }) ≡ false)
    × (in_pool table (other side) (record { 0 = alias }) ≡ true)
placed table side host alias until lawful h =
    let b = h.binding in
    let is = host_is side host b (find_passes (is_of_host side host) table.entries b h.found) in
    let place = find_all (IsInPlace table) (is_of_host side host) table.entries b h.found lawful.places in (
      ap (λ (n : ℕ). is_same table (record { 0 = n })) (sym is.1) ∙ place.host,
      ap (λ (n : ℕ). in_pool table side (record { 0 = n })) (sym is.1) ∙ ap (λ s. in_pool table s b.host) (sym is.0) ∙ place.outside,
      ap (λ (n : ℕ). in_pool table (other side) (record { 0 = n })) (sym h.alias_is) ∙ ap (λ s. in_pool table (other s) b.alias) (sym is.0)
          ∙ place.alias,
    )

pub bound_crosses : (table : Bindings) (side : Side) (host alias until : ℕ) → IsLawful table → IsBoundTo table side host alias until
    → cross table side (record { 0 = host }) ≡ Bound (record { 0 = alias })
unfolding cross
bound_crosses table side host alias until lawful h =
    let p = placed table side host alias until lawful h in
    let known : alias_of side (record { 0 = host }) table.entries ≡ Some (record { 0 = alias }) = ap (option_map (λ (b : Binding). b.alias)) h.found
    ∙ ap (λ (n : ℕ). let a : Addr = record { 0 = n } in Some a) h.alias_is in
    rw (p.0, p.1, known) refl

pub known_seen : (table : Bindings) (side : Side) (host alias until : ℕ) → IsLawful table → IsKnownAs table side host alias until
    → seen table side (record { 0 = host }) ≡ Some (record { 0 = alias })
unfolding cross
known_seen table side host alias until lawful (inl same) = rw same.0 (ap (λ (n : ℕ). let a : Addr = record { 0 = n } in Some a) (sym same.1))
known_seen table side host alias until lawful (inr h) = ap (seen_by (record { 0 = host })) (bound_crosses table side host alias until lawful h)

abbrev number_in : Option Addr → ℕ
number_in None = 0
number_in (Some a) = a.0

pub known_once : (table : Bindings) (side : Side) (host one two until later : ℕ) → IsLawful table → IsKnownAs table side host one until
    → IsKnownAs table side host two later → one ≡ two
known_once table side host one two until later lawful h k =
    ap number_in (sym (known_seen table side host one until lawful h) ∙ known_seen table side host two later lawful k)
