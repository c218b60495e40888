-- A new host that is bound.
use Rattle.std.proofs.Common.{IfSome, ◌≡◌, ◌≤◌, ℕ, ◌<◌, Bool, true, false, ◌&&◌, ◌||◌, ◌==◌, List, [], ◌∷◌, length, get_or, IsTrue, Option, Some, None, option_map, refl, ◌∙◌, ap, subst, arith, inl, inr}
use Rattle.std.specs.List.{find, list_any}
use Rattle.std.proofs.lemmas.List.Folds.{list_any_at}
use Rattle.std.proofs.lemmas.Bool.{cases_Bool}
use Rattle.gate_base.specs.Prelude.{other, same_side}
use Rattle.gate_base.specs.declared.address.Addr.{Addr}
use Rattle.gate_base.specs.declared.event.Moment.{Moment}
use Rattle.gate_base.specs.declared.side.Side.{Side}
use Rattle.gate_base.proofs.Sides.{other_other}
use Rattle.realm_pools.specs.Addresses.{Range, is_free, least_free, IsLeastFree}
use Rattle.realm_pools.proofs.Free.{HasFlags, least_from}
use Rattle.binding_table.specs.Prelude.{CanHold, pool_with, Bindings, is_same, is_of_host, is_of_alias, in_pool, range_of, pool_of, alias_of, host_of, new_or_empty, IsNew, bound, with_binding, needs_binding, IsLawful}
use Rattle.binding_table.specs.declared.binding.Binding.{Binding}
use Rattle.binding_table.specs.declared.binding.Crossing.{Crossing}
use Rattle.binding_table.specs.declared.binding.Crossing.TheVariants.{Same, Bound, New, Unbound, Empty}
use Rattle.binding_table.specs.Bindings.{cross, bound_by}
use Rattle.binding_table.proofs.Pools.{free_parts}
use Rattle.binding_table.proofs.Room.{length_taken}

-- a host of the realm that has no binding
pub record HasNoBinding (table : Bindings) (side : Side) (host : Addr) : Type 0 where
  pub differs : is_same table host ≡ false
  pub outside : in_pool table side host ≡ false
  pub alias : alias_of side host table.entries ≡ None

-- how the address of a host that has no binding crosses
pub unbound_cross : (table : Bindings) (side : Side) (host : Addr) → HasNoBinding table side host
    → cross table side host ≡ new_or_empty (least_free (pool_of table (other side)))
unfolding cross
unbound_cross table side host u = rw (u.differs, u.outside, u.alias) refl

fresh_from : (table : Bindings) (side : Side) (host : Addr) (same pool : Bool) (alias known : Option Addr) → is_same table host ≡ same
    → in_pool table side host ≡ pool → alias_of side host table.entries ≡ alias → host_of side host table.entries ≡ known
    → needs_binding (cross table side host) ≡ true → HasNoBinding table side host
unfolding cross
fresh_from table side host true pool alias known s p a h needs = cc (rw s at needs)
fresh_from table side host false true alias None s p a h needs = cc (rw (s, p, h) at needs)
fresh_from table side host false true alias (Some one) s p a h needs = cc (rw (s, p, h) at needs)
fresh_from table side host false false (Some one) known s p a h needs = cc (rw (s, p, a) at needs)
fresh_from table side host false false None known s p a h needs = record { differs = s; outside = p; alias = a }

pub fresh_is : (table : Bindings) (side : Side) (host : Addr) → needs_binding (cross table side host) ≡ true → HasNoBinding table side host
fresh_is table side host = fresh_from table side host _ _ _ _ refl refl refl refl

new_needs : (crossing : Crossing) → IsNew crossing → needs_binding crossing ≡ true
new_needs Same new = absurd new
new_needs (Bound image) new = absurd new
new_needs (New alias) new = refl
new_needs Unbound new = absurd new
new_needs Empty new = absurd new

pub unbound_of : (table : Bindings) (side : Side) (host : Addr) → IsNew (cross table side host) → HasNoBinding table side host
unbound_of table side host new = fresh_is table side host (new_needs (cross table side host) new)

-- the least free address is free, and no lower one is
pub least_parts : (range : Range) (side : Side) (entries : List Binding) (alias : Addr) → range.first ≤ range.last
    → least_free (pool_with range side entries) ≡ Some alias → IsLeastFree 0 (pool_with range side entries) alias
least_parts range side entries alias ordered h =
    let pool = pool_with range side entries in
    let flags : HasFlags pool = omega (arith, length_taken range side entries) in
    least_some (least_free pool) alias h (least_from 0 0 pool flags (omega arith) (λ other above from. omega arith))
  where
    least_some : (found : Option Addr) (address : Addr) → found ≡ Some address → IfSome found (IsLeastFree 0 (pool_with range side entries))
        → IsLeastFree 0 (pool_with range side entries) address
    least_some None address e l = cc
    least_some (Some one) address e l = let same : one ≡ address = cc in subst (IsLeastFree 0 (pool_with range side entries)) same l

pub least_is_free : (table : Bindings) (side : Side) (alias : Addr) → IsLawful table → least_free (pool_of table side) ≡ Some alias
    → IsTrue (is_free alias (pool_of table side))
least_is_free table side alias lawful h = (least_parts (range_of table side) side table.entries alias (lawful.ranges side) h).free

none_found : (test : Binding → Bool) (entries : List Binding) → option_map (λ (binding : Binding). binding.alias) (find test entries) ≡ None
    → list_any test entries ≡ false
none_found test [] h = refl
none_found test (binding ∷ rest) h = elim (cases_Bool (test binding)) [
  | inl passes ↦ cc (rw passes at h)
  | inr fails ↦ rw fails (none_found test rest (rw fails at h))
]

-- a binding collides with none that has neither its host nor its alias
apart_by : (same : Bool) (hosts aliases : Bool) → (same && hosts) ≡ false → (same && aliases) ≡ false → (same && (hosts || aliases)) ≡ false
apart_by false hosts aliases h a = refl
apart_by true false false h a = refl
apart_by true true aliases h a = cc
apart_by true false true h a = cc

-- a host without a binding can be bound to a free address
pub can_bind : (table : Bindings) (side : Side) (host alias : Addr) (until : Moment) → IsLawful table → HasNoBinding table side host
    → IsTrue (is_free alias (pool_of table (other side))) → CanHold table
    (record { side = side; host = host; alias = alias; until = until; fixed = false })
can_bind table side host alias until lawful u free =
    let parts = free_parts (range_of table (other side)) (other side) table.entries alias free in
    record {
      place = record { alias = parts.0; outside = u.outside; host = u.differs };
      once = λ k d within.
          let hosts = fails_at (is_of_host side host.0) table.entries k d within (none_found (is_of_host side host.0) table.entries u.alias) in
          let aliases = fails_at (is_of_alias (other side) alias.0) table.entries k d within parts.1 in
          let earlier = get_or table.entries k d in
          let P : Side → Type 0 = λ s. (same_side earlier.side s && earlier.alias.0 == alias.0) ≡ false in
          apart_by (same_side earlier.side side) (earlier.host.0 == host.0) (earlier.alias.0 == alias.0) hosts (subst P (other_other side) aliases);
    }
  where
    fails_at : (test : Binding → Bool) (entries : List Binding) (k : ℕ) (d : Binding) → k < length entries → list_any test entries ≡ false
        → test (get_or entries k d) ≡ false
    fails_at test entries k d within h =
        elim (cases_Bool (test (get_or entries k d))) [ inl holds ↦ cc (h, list_any_at test entries k d within holds) | inr fails ↦ fails ]

pub bound_is : (table : Bindings) (side : Side) (host alias : Addr) (until : Moment) → HasNoBinding table side host
    → least_free (pool_of table (other side)) ≡ Some alias → bound table side host until
    ≡ with_binding table (record { side = side; host = host; alias = alias; until = until; fixed = false })
bound_is table side host alias until u least = ap (bound_by table side host until) (unbound_cross table side host u ∙ ap new_or_empty least)

pub not_empty : (table : Bindings) (side : Side) (host : Addr) → IsNew (cross table side host) → least_free (pool_of table (other side)) ≡ None → ⊥
not_empty table side host new none = rw (unbound_cross table side host (unbound_of table side host new) ∙ ap new_or_empty none) at new
