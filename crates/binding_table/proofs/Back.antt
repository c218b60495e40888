-- What the bindings of a lawful table are to one another.
use Rattle.std.proofs.Common.{◌≡◌, ◌⊎◌, Bool, true, false, ◌==◌, get_or, Option, Some, None, refl, sym, ◌∙◌, ap, subst, arith, inl, inr}
use Rattle.std.proofs.lemmas.Bool.{and_parts, and_from, eq-eqb}
use Rattle.gate_base.specs.Prelude.{other, same_side}
use Rattle.gate_base.specs.declared.address.Addr.{Addr}
use Rattle.gate_base.specs.declared.side.Side.{Side}
use Rattle.gate_base.proofs.Sides.{other_other, same_side-true}
use Rattle.realm_pools.specs.Addresses.{Addresses, least_free}
use Rattle.binding_table.specs.declared.binding.Binding.{Binding}
use Rattle.binding_table.specs.declared.binding.Crossing.TheVariants.{Bound}
use Rattle.binding_table.specs.Prelude.{Bindings, is_same, is_of_host, is_of_alias, in_pool, pool_of, alias_of, host_of, new_or_empty, cross, IsLawful}
use Rattle.binding_table.proofs.Planned.{crossed, cross_is}
use Rattle.binding_table.proofs.Once.{address_is, alias_alone, find_only, finds, host_found}

-- ## Crossing back

not_known : (free : Option Addr) (image : Addr) → new_or_empty free ≡ Bound image → ⊥
not_known None image h = cc
not_known (Some alias) image h = cc

-- an address crosses to a known one as one of the pool, or as a host
known_by : (same pool : Bool) (host alias : Option Addr) (free : Addresses) (image : Addr) → crossed same pool host free alias ≡ Bound image
    → ((same ≡ false) × (pool ≡ true) × (host ≡ Some image)) ⊎ ((same ≡ false) × (pool ≡ false) × (alias ≡ Some image))
known_by true pool host alias free image h = cc
known_by false true None alias free image h = cc
known_by false true (Some one) alias free image h = inl (refl, refl, cc)
known_by false false host (Some one) free image h = inr (refl, refl, cc)
known_by false false host None free image h = absurd (not_known (least_free free) image h)

abbrev nobody : Side → Addr → Binding
nobody side address = record { side = side; host = address; alias = address; until = record { 0 = 0 }; fixed = false }

pub crosses_back : (table : Bindings) (side : Side) (address image : Addr) → IsLawful table → cross table side address ≡ Bound image
    → cross table (other side) image ≡ Bound address
crosses_back table side address image lawful known =
    let d = nobody side address in
    elim (known_by (is_same table address) (in_pool table side address) (host_of side address table.entries) (alias_of side address table.entries)
    (pool_of table (other side)) image (sym (cross_is table side address) ∙ known)) [
      | inl by_pool ↦
          let found = finds (λ binding. binding.host) (is_of_alias side address.0) table.entries d image by_pool.2 in
          let binding = get_or table.entries found.place d in
          let parts = and_parts (same_side binding.side (other side)) (binding.alias.0 == address.0) found.passes in
          let sides : binding.side ≡ other side = same_side-true binding.side (other side) parts.0 in
          let place = lawful.places found.place d found.within in
          let only = host_found table side address image d lawful found in
          let S : Side → Type 0 = λ s. in_pool table s binding.host ≡ false in
          let O : Addr → Type 0 = λ a. in_pool table (other side) a ≡ false in
          let outside = subst O found.gives (subst S sides place.outside) in
          let H : Addr → Type 0 = λ a. is_same table a ≡ false in
          let host = subst H found.gives place.host in
          cross_is table (other side) image ∙ rw (host, outside, only) (ap (λ (a : Addr). Bound a) (address_is binding.alias address parts.1))
      | inr by_host ↦
          let found = finds (λ binding. binding.alias) (is_of_host side address.0) table.entries d image by_host.2 in
          let binding = get_or table.entries found.place d in
          let parts = and_parts (same_side binding.side side) (binding.host.0 == address.0) found.passes in
          let sides : binding.side ≡ side = same_side-true binding.side side parts.0 in
          let place = lawful.places found.place d found.within in
          let twice : same_side binding.side (other (other side)) ≡ true = rw (other_other side) parts.0 in
          let passes : is_of_alias (other side) image.0 binding ≡ true = and_from _ _ twice (rw found.gives (eq-eqb image.0 image.0 refl)) in
          let only = find_only (is_of_alias (other side) image.0) table.entries found.place d found.within passes
          (λ k less. alias_alone table (other side) image.0 found.place k d lawful found.within (omega arith) (omega arith) passes) in
          let S : Side → Type 0 = λ s. in_pool table (other s) binding.alias ≡ true in
          let I : Addr → Type 0 = λ a. in_pool table (other side) a ≡ true in
          let inside = subst I found.gives (subst S sides place.alias) in
          cross_is table (other side) image ∙ rw (lawful.pools (other side) image inside, inside, only)
          (ap (λ (a : Addr). Bound a) (address_is binding.host address parts.1))
    ]
