-- What the uses of a frame's own addresses bind, and for how long.
use Rattle.std.proofs.Common.{◌≡◌, ◌≤◌, ◌⊎◌, ℕ, ◌+◌, Bool, true, false, not, ◌==◌, nat_lt, cond, List, [], ◌∷◌, ◌++◌, Option, Some, None, option_map, is_some, refl, sym, ◌∙◌, ap, arith, inl, inr, find}
use Rattle.std.specs.Option.{option_or}
use Rattle.std.proofs.lemmas.Bool.{cases_Bool, and_parts, and_from, or_right, or_cases, eq-eqb, ltb-false, true≢false}
use Rattle.std.proofs.lemmas.List.Folds.{find-append}
use Rattle.gate_base.specs.Prelude.{is_unicast_number, other, same_side}
use Rattle.gate_base.specs.declared.address.Addr.{Addr}
use Rattle.gate_base.specs.declared.event.Moment.{Moment}
use Rattle.gate_base.specs.declared.side.Side.{Side}
use Rattle.gate_base.proofs.Sides.{other_other, same_side-true, same_side-itself}
use Rattle.gate_base.proofs.Lists.{find_passes}
use Rattle.realm_pools.specs.Addresses.{least_free}
use Rattle.binding_table.specs.declared.binding.Binding.{Binding}
use Rattle.binding_table.specs.declared.binding.Crossing.TheVariants.{Bound, New, Empty}
use Rattle.binding_table.specs.Prelude.{Bindings, is_same, is_of_host, is_of_alias, in_pool, alias_of, host_of, pool_of, free, seen, known_or, new_or_empty, lasting, is_through, extend_through, extended, IsBoundTo, IsKnownAs, IsInPlace, IsLawful, Use, used, after_uses, is_fresh, needed}
use Rattle.binding_table.specs.Bindings.{cross}
use Rattle.binding_table.proofs.Kept.{same_pair}
use Rattle.binding_table.proofs.Bind.{HasNoBinding, unbound_cross}
use Rattle.binding_table.proofs.Back.{crosses_back}
use Rattle.binding_table.proofs.Planned.{flags_free}
use Rattle.binding_table.proofs.Fresh.{fresh_cons}
use Rattle.binding_table.proofs.Used.{find_map, host_same, known_used, known_after, same_used}
use Rattle.gate_model.specs.Prelude.{called, is_reachable}
use Rattle.gate_model.proofs.BoundTables.{find_all, found_alias, none_alias, host_is, placed, bound_crosses, lawful_used}

abbrev pub use_of : Side → ℕ → ℕ → Use
use_of side address until = record { side = side; address = record { 0 = address }; until = record { 0 = until } }

-- ## A binding lasts by a use of its host, and by a use of its alias

lasts_until : (until : ℕ) (b : Binding) → ((lasting (record { 0 = until }) b).fixed ≡ true) ⊎ (until ≤ (lasting (record { 0 = until }) b).until.0)
lasts_until until b = elim (cases_Bool b.fixed) [ inl f ↦ rw f (inl refl) | inr f ↦ rw f (inr (omega arith)) ]

through_lasts : (from_pool : Bool) (from : Side) (address until : ℕ) (b : Binding) → is_through from_pool from (record { 0 = address }) b ≡ true
    → let c = extend_through from_pool from (record { 0 = address }) (record { 0 = until }) b in (c.fixed ≡ true) ⊎ (until ≤ c.until.0)
through_lasts from_pool from address until b h = rw h (lasts_until until b)

extended_lasts : (table : Bindings) (side : Side) (host alias sooner : ℕ) (from : Side) (address until : ℕ)
    (h : IsBoundTo table side host alias sooner) → is_through (in_pool table from (record { 0 = address })) from (record { 0 = address }) h.binding
    ≡ true → IsBoundTo (extended table from (record { 0 = address }) (record { 0 = until })) side host alias until
extended_lasts table side host alias sooner from address until h through =
    let a : Addr = record { 0 = address } in
    let later : Moment = record { 0 = until } in
    let pool = in_pool table from a in
    record {
      binding = extend_through pool from a later h.binding;
      found = find_map (is_of_host side host) (extend_through pool from a later)
          (host_same side host pool from a later) table.entries h.binding h.found;
      alias_is = ap (λ (x : Addr). x.0) (same_pair pool from a later h.binding).alias ∙ h.alias_is;
      lasts = through_lasts pool from address until h.binding through;
    }

pub host_lasts : (table : Bindings) (side : Side) (host alias sooner until : ℕ) → IsLawful table → IsBoundTo table side host alias sooner
    → IsBoundTo (used table (use_of side host until)) side host alias until
host_lasts table side host alias sooner until lawful h =
    let p = placed table side host alias sooner lawful h in
    let passes = find_passes (is_of_host side host) table.entries h.binding h.found in
    rw (bound_crosses table side host alias sooner lawful h)
    (extended_lasts table side host alias sooner side host until h (rw p.1 passes))

alias_through : (table : Bindings) (side : Side) (host alias sooner : ℕ) → IsLawful table → (h : IsBoundTo table (other side) host alias sooner)
    → is_through (in_pool table side (record { 0 = alias })) side (record { 0 = alias }) h.binding ≡ true
alias_through table side host alias sooner lawful h =
    let p = placed table (other side) host alias sooner lawful h in
    let is = host_is (other side) host h.binding (find_passes (is_of_host (other side) host) table.entries h.binding h.found) in
    let pool : in_pool table side (record { 0 = alias }) ≡ true = ap (λ s. in_pool table s (record { 0 = alias })) (sym (other_other side)) ∙ p.2 in
    let sides : same_side h.binding.side (other side) ≡ true = ap (λ (s : Side). same_side s (other side)) is.0 ∙ same_side-itself (other side) in
    rw pool (and_from (same_side h.binding.side (other side)) (h.binding.alias.0 == alias) sides (eq-eqb h.binding.alias.0 alias h.alias_is))

pub alias_lasts : (table : Bindings) (side : Side) (host alias sooner until : ℕ) → IsLawful table → IsBoundTo table (other side) host alias sooner
    → IsBoundTo (used table (use_of side alias until)) (other side) host alias until
alias_lasts table side host alias sooner until lawful h =
    let back : cross table side (record { 0 = alias }) ≡ Bound (record { 0 = host }) =
    ap (λ s. cross table s (record { 0 = alias })) (sym (other_other side))
    ∙ crosses_back table (other side) (record { 0 = host }) (record { 0 = alias }) lawful
    (bound_crosses table (other side) host alias sooner lawful h) in
    rw back (extended_lasts table (other side) host alias sooner side alias until h (alias_through table side host alias sooner lawful h))

-- ## A source that passes is bound by its use

pub bound_from : (table : Bindings) (side : Side) (host image : ℕ) → alias_of side (record { 0 = host }) table.entries ≡ Some (record { 0 = image })
    → IsBoundTo table side host image 0
bound_from table side host image e =
    let f = found_alias (find (is_of_host side host) table.entries) (record { 0 = image }) e in
    record { binding = f.0; found = f.1; alias_is = ap (λ (a : Addr). a.0) f.2; lasts = inr (omega arith) }

-- how a host of the realm that isn't in its pool crosses
crosses_so : (table : Bindings) (side : Side) (host : ℕ) → in_pool table side (record { 0 = host }) ≡ false
    → (is_same table (record { 0 = host }) ≡ true)
    ⊎ (((image : ℕ) × (alias_of side (record { 0 = host }) table.entries ≡ Some (record { 0 = image })))
    ⊎ (HasNoBinding table side (record { 0 = host })))
crosses_so table side host outside = by_same (is_same table (record { 0 = host })) (alias_of side (record { 0 = host }) table.entries) refl refl
  where
    by_same : (b : Bool) (o : Option Addr) → is_same table (record { 0 = host }) ≡ b → alias_of side (record { 0 = host }) table.entries ≡ o
        → (is_same table (record { 0 = host }) ≡ true)
        ⊎ (((image : ℕ) × (alias_of side (record { 0 = host }) table.entries ≡ Some (record { 0 = image })))
        ⊎ (HasNoBinding table side (record { 0 = host })))
    by_same true o s a = inl s
    by_same false (Some image) s a = inr (inl (image.0, a))
    by_same false None s a = inr (inr (record { differs = s; outside = outside; alias = a }))

-- where no address is free, one that needs a binding is one too many
none_free : (table : Bindings) (side : Side) (host : ℕ) (rest : List Addr) → HasNoBinding table side (record { 0 = host })
    → nat_lt (free table (other side)) (needed table side (record { 0 = host } ∷ rest)) ≡ false → least_free (pool_of table (other side)) ≡ None → ⊥
none_free table side host rest none room empty =
    let a : Addr = record { 0 = host } in
    let crosses : cross table side a ≡ Empty = unbound_cross table side a none ∙ ap new_or_empty empty in
    let fresh : is_fresh table side [] a ≡ true = rw crosses refl in
    let one = fresh_cons table side [] a rest in
    let free_is : free table (other side) ≡ 0 = flags_free (pool_of table (other side)).taken (first_none _ empty) in
    let count : 1 ≤ needed table side (a ∷ rest) = omega (arith, one, ap {B = ℕ} (λ b. cond b 1 0) fresh) in
    omega (arith, ltb-false (free table (other side)) (needed table side (a ∷ rest)) room, free_is, count)
  where
    first_none : (found : Option ℕ)
        → option_map (λ (more : ℕ). let address : Addr = record { 0 = (pool_of table (other side)).range.first + (0 + more) } in address) found ≡ None
        → found ≡ None
    first_none None h = refl
    first_none (Some one) h = cc

pub source_bound : (table : Bindings) (side : Side) (host until : ℕ) (rest : List Addr) → IsLawful table
    → in_pool table side (record { 0 = host }) ≡ false → nat_lt (free table (other side)) (needed table side (record { 0 = host } ∷ rest)) ≡ false
    → (alias : ℕ) × IsKnownAs (used table (use_of side host until)) side host alias until
source_bound table side host until rest lawful outside room = elim (crosses_so table side host outside) [
  | inl same ↦ (host, inl (same_used table (use_of side host until) (record { 0 = host }) ∙ same, refl))
  | inr k ↦ elim k [
    | inl known ↦ (known.0, inr (host_lasts table side host known.0 0 until lawful (bound_from table side host known.0 known.1)))
    | inr none ↦ by_least none (least_free (pool_of table (other side))) refl
  ]
]
  where
    by_least : HasNoBinding table side (record { 0 = host }) → (o : Option Addr) → least_free (pool_of table (other side)) ≡ o → (alias : ℕ)
        × IsKnownAs (used table (use_of side host until)) side host alias until
    by_least none None e = absurd (none_free table side host rest none room e)
    by_least none (Some alias) e =
        let one : Binding = record { side = side; host = record { 0 = host }; alias = alias; until = record { 0 = until }; fixed = false } in
        let crosses : cross table side (record { 0 = host }) ≡ New alias = unbound_cross table side (record { 0 = host }) none ∙ ap new_or_empty e in
        let found : find (is_of_host side host) (table.entries ++ one ∷ []) ≡ Some one =
        find-append (is_of_host side host) table.entries (one ∷ [])
        ∙ ap (λ o. option_or o (find (is_of_host side host) (one ∷ []))) (none_alias (find (is_of_host side host) table.entries) none.alias)
        ∙ rw (same_side-itself side, eq-eqb host host refl) refl in
        (alias.0, inr (rw crosses (record { binding = one; found = found; alias_is = refl; lasts = inr (omega arith) })))

-- ## A destination that passes stands for a host that is bound

found_host : (o : Option Binding) (host : Addr) → option_map (λ (b : Binding). b.host) o ≡ Some host → (b : Binding) × (o ≡ Some b) × (b.host ≡ host)
found_host None host e = absurd (cc)
found_host (Some b) host e = (b, refl, cc)

alias_known : (o free : Option Addr) (image : Addr) → known_or (new_or_empty free) o ≡ Bound image → o ≡ Some image
alias_known None None image e = cc
alias_known None (Some one) image e = cc
alias_known (Some one) free image e = cc

-- the host that an address of the pool stands for is bound to it
pub back_bound : (table : Bindings) (side : Side) (address : ℕ) (host : Addr) → IsLawful table
    → host_of side (record { 0 = address }) table.entries ≡ Some host → cross table (other side) host ≡ Bound (record { 0 = address })
    → IsBoundTo table (other side) host.0 address 0
unfolding cross
back_bound table side address host lawful e back =
    let f = found_host (find (is_of_alias side address) table.entries) host e in
    let place = find_all (IsInPlace table) (is_of_alias side address) table.entries f.0 f.1 lawful.places in
    let parts = and_parts (same_side f.0.side (other side)) (f.0.alias.0 == address) (find_passes (is_of_alias side address) table.entries f.0 f.1) in
    let sides : f.0.side ≡ other side = same_side-true f.0.side (other side) parts.0 in
    let outside : in_pool table (other side) host ≡ false = ap (in_pool table (other side)) (sym f.2) ∙ ap (λ s. in_pool table s f.0.host) (sym sides)
    ∙ place.outside in
    let same : is_same table host ≡ false = ap (is_same table) (sym f.2) ∙ place.host in
    let known : known_or (new_or_empty (least_free (pool_of table (other (other side))))) (alias_of (other side) host table.entries) ≡ Bound
    (record { 0 = address }) = rw (same, outside) at back in
    bound_from table (other side) host.0 address
    (alias_known (alias_of (other side) host table.entries) (least_free (pool_of table (other (other side)))) (record { 0 = address }) known)

pub far_known : (table : Bindings) (side : Side) (address : ℕ) → IsLawful table → is_reachable table side (record { 0 = address }) ≡ true
    → IsKnownAs table (other side) (called table side (record { 0 = address })).0 address 0
unfolding cross
far_known table side address lawful reach = elim (or_cases _ _ reach) [
  | inl same ↦
      let is : is_same table (record { 0 = address }) ≡ true = or_right (not (is_unicast_number address)) _ same in
      rw is (inl (is, refl))
  | inr pool ↦
      let parts = and_parts (in_pool table side (record { 0 = address })) (is_some (seen table side (record { 0 = address }))) pool in
      by_host (host_of side (record { 0 = address }) table.entries) refl parts.0 (lawful.pools side (record { 0 = address }) parts.0) parts.1
]
  where
    by_host : (o : Option Addr) → host_of side (record { 0 = address }) table.entries ≡ o → in_pool table side (record { 0 = address }) ≡ true
        → is_same table (record { 0 = address }) ≡ false → is_some (seen table side (record { 0 = address })) ≡ true
        → IsKnownAs table (other side) (called table side (record { 0 = address })).0 address 0
    by_host None e pool same some = absurd (true≢false (sym some ∙ rw (same, pool, e) refl))
    by_host (Some host) e pool same some =
        let crosses : cross table side (record { 0 = address }) ≡ Bound host = rw (same, pool, e) refl in
        let back : cross table (other side) host ≡ Bound (record { 0 = address }) =
        crosses_back table side (record { 0 = address }) host lawful crosses in
        rw (same, pool, e) (inr (back_bound table side address host lawful e back))

-- ## All uses of a frame

abbrev pub header_uses : Side → ℕ → ℕ → ℕ → List Use
header_uses side source destination until = use_of side source until ∷ use_of side destination until ∷ []

far_lasts : (table : Bindings) (side : Side) (far address until : ℕ) → IsLawful table → IsKnownAs table (other side) far address 0
    → IsKnownAs (used table (use_of side address until)) (other side) far address until
far_lasts table side far address until lawful (inl same) = inl (same_used table (use_of side address until) (record { 0 = far }) ∙ same.0, same.1)
far_lasts table side far address until lawful (inr h) = inr (alias_lasts table side far address 0 until lawful h)

-- both hosts of a frame are bound for as long as its header says: the source to some alias, and the host behind the destination to that
pub record BothKnown (table after : Bindings) (side : Side) (source destination until : ℕ) : Type 0 where
  pub alias : ℕ
  pub own : IsKnownAs after side source alias until
  pub far : IsKnownAs after (other side) (called table side (record { 0 = destination })).0 destination until

pub both_known : (table : Bindings) (side : Side) (source destination until : ℕ) (rest : List Addr) (uses : List Use) → IsLawful table
    → in_pool table side (record { 0 = source }) ≡ false → is_reachable table side (record { 0 = destination }) ≡ true
    → nat_lt (free table (other side)) (needed table side (record { 0 = source } ∷ rest)) ≡ false
    → BothKnown table (after_uses table (header_uses side source destination until ++ uses)) side source destination until
both_known table side source destination until rest uses lawful outside reach room =
    let one = use_of side source until in
    let two = use_of side destination until in
    let first = used table one in
    let second = used first two in
    let lawful_first = lawful_used table one lawful in
    let own = source_bound table side source until rest lawful outside room in
    let far_now = (called table side (record { 0 = destination })).0 in
    let far : IsKnownAs first (other side) far_now destination 0 =
    known_used table (other side) far_now destination 0 one (far_known table side destination lawful reach) in
    record {
      alias = own.0;
      own = known_after uses second side source own.0 until (known_used first side source own.0 until two own.1);
      far = known_after uses second (other side) far_now destination until (far_lasts first side far_now destination until lawful_first far);
    }
