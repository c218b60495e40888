-- The use of a host whose binding isn't fixed.
use Rattle.std.proofs.Common.{◌≡◌, Bool, false, List, Option, Some, None, map, option_map, option_and_then, refl, sym, ap, subst, ◌∙◌, ◌==◌, find}
use Rattle.std.proofs.lemmas.Bool.{and_parts}
use Rattle.gate_base.specs.Prelude.{same_side}
use Rattle.gate_base.specs.declared.address.Addr.{Addr}
use Rattle.gate_base.specs.declared.side.Side.{Side}
use Rattle.gate_base.proofs.Sides.{same_side-true}
use Rattle.expiring_table.specs.declared.row.Row.{Row}
use Rattle.binding_table.specs.declared.binding.Binding.{Binding}
use Rattle.binding_table.specs.declared.binding.Crossing.TheVariants.{Bound}
use Rattle.binding_table.specs.Prelude.{Bindings, extended, extend_through, in_pool, is_of_host, is_same, IsInPlace, IsLawful, Use, used, used_by, extended_by, filed, moving_row, number_of, unless_fixed}
use Rattle.binding_table.specs.Bindings.{cross}
use Rattle.binding_table.proofs.Filed.{found_moving}
use Rattle.binding_table.proofs.Once.{address_is, finds, through_moving}

-- a host that has a binding is neither of a pool nor the same in both realms
bound_place : (table : Bindings) (side : Side) (host : Addr) (binding : Binding) → IsLawful table → find (is_of_host side host.0) table.entries
    ≡ Some binding → (is_same table host ≡ false) × (in_pool table side host ≡ false)
bound_place table side host binding lawful known =
    let found = finds (λ one. one) (is_of_host side host.0) table.entries binding binding (ap (option_map (λ one. one)) known) in
    let place = subst (IsInPlace table) found.gives (lawful.places found.place binding found.within) in
    let parts = and_parts (same_side binding.side side) (binding.host.0 == host.0) (ap (is_of_host side host.0) (sym found.gives) ∙ found.passes) in
    let of_side = same_side-true binding.side side parts.0 in
    let of_host = address_is binding.host host parts.1 in (
      ap (is_same table) (sym of_host) ∙ place.host,
      ap (λ (s : Side). in_pool table s host) (sym of_side)
          ∙ ap (in_pool table binding.side) (sym of_host) ∙ place.outside,
    )

-- so it crosses to its alias
crosses : (table : Bindings) (side : Side) (host : Addr) (binding : Binding) → IsLawful table → find (is_of_host side host.0) table.entries
    ≡ Some binding → cross table side host ≡ Bound binding.alias
unfolding cross
crosses table side host binding lawful known =
    let place = bound_place table side host binding lawful known in
    rw (place.0, place.1, known) refl

-- its use lets that last
used_bound : (table : Bindings) (one : Use) (binding : Binding) → IsLawful table → find (is_of_host one.side one.address.0) table.entries
    ≡ Some binding → used table one ≡ extended table one.side one.address one.until
used_bound table one binding lawful known = ap (used_by table one.side one.address one.until)
    (crosses table one.side one.address binding lawful known)

-- to extend by the row of a host is to use it
pub moving_used : (table : Bindings) (one : Use) (row : Row Binding) → IsLawful table → moving_row (number_of one.side one.address.0) table.entries
    ≡ Some row → record table { entries = extended_by (Some row) one.until table.entries } ≡ used table one
moving_used table one row lawful found = from (find (is_of_host one.side one.address.0) table.entries) refl
    (sym (found_moving one.side one.address.0 table.entries) ∙ found)
  where
    from : (o : Option Binding) → find (is_of_host one.side one.address.0) table.entries ≡ o
        → option_map filed (option_and_then unless_fixed (find (is_of_host one.side one.address.0) table.entries)) ≡ Some row
        → record table { entries = extended_by (Some row) one.until table.entries } ≡ used table one
    from None known is = cc (rw known at is)
    from (Some binding) known is =
        let place = bound_place table one.side one.address binding lawful known in
        let rows : option_map filed (option_and_then unless_fixed (Some binding)) ≡ Some row = rw known at is in
        ap (λ (entries : List Binding). record table { entries = entries })
        (ap (λ (o : Option (Row Binding)). extended_by o one.until table.entries) (sym rows)
        ∙ through_moving table false one.side one.address one.until lawful (Some binding) known
        ∙ ap (λ (pool : Bool). map (extend_through pool one.side one.address one.until) table.entries) (sym place.1))
        ∙ sym (used_bound table one binding lawful known)
