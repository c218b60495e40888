-- What is seen after an address was used.
use Rattle.std.proofs.Common.{◌≡◌, ◌⊎◌, inl, inr, ◌==◌, Bool, true, false, Option, Some, None, refl, sym, ap, ◌∙◌}
use Rattle.std.proofs.lemmas.Bool.{and_right, false≢true}
use Rattle.gate_base.specs.Prelude.{other, same_side}
use Rattle.gate_base.specs.declared.address.Addr.{Addr}
use Rattle.gate_base.specs.declared.event.Moment.{Moment}
use Rattle.gate_base.specs.declared.side.Side.{Side}
use Rattle.gate_base.proofs.Options.{or_none}
use Rattle.realm_pools.specs.Addresses.{Addresses, least_free}
use Rattle.binding_table.specs.declared.binding.Crossing.{Crossing}
use Rattle.binding_table.specs.declared.binding.Crossing.TheVariants.{Same, Bound, New, Unbound, Empty}
use Rattle.binding_table.specs.Prelude.{Bindings, is_same, in_pool, alias_of, host_of, pool_of, seen, seen_by, new_or_empty, extend_through, is_settled, used_by}
use Rattle.binding_table.proofs.Kept.{same_pair}
use Rattle.binding_table.proofs.Planned.{crossed, cross_is, cross_follows, alias_map, alias_push, used_by_follows}

unseen : (address : Addr) (found : Option Addr) → seen_by address (new_or_empty found) ≡ None
unseen address None = refl
unseen address (Some alias) = refl

-- what is seen doesn't ask which addresses are free
seen_crossed : (same pool : Bool) (host : Option Addr) (free free' : Addresses) (alias : Option Addr) (address : Addr)
    → seen_by address (crossed same pool host free alias) ≡ seen_by address (crossed same pool host free' alias)
seen_crossed true pool host free free' alias address = refl
seen_crossed false true host free free' alias address = refl
seen_crossed false false host free free' None address = unseen address (least_free free) ∙ sym (unseen address (least_free free'))
seen_crossed false false host free free' (Some one) address = refl

-- the use of an address that crosses already, or of another one, keeps the alias of a host
alias_kept : (t : Bindings) (side : Side) (address one : Addr) (until : Moment) (crossing : Crossing) → (is_settled crossing ≡ true)
    ⊎ ((address.0 == one.0) ≡ false) → alias_of side one (used_by t side address until crossing).entries ≡ alias_of side one t.entries
alias_kept t side address one until Same h = refl
alias_kept t side address one until Unbound h = refl
alias_kept t side address one until Empty h = refl
alias_kept t side address one until (Bound image) h = alias_map (extend_through (in_pool t side address) side address until)
    (same_pair (in_pool t side address) side address until) side one t.entries
alias_kept t side address one until (New alias) (inl settled) = absurd (false≢true settled)
alias_kept t side address one until (New alias) (inr differs) =
    alias_push side one t.entries (record { side = side; host = address; alias = alias; until = until; fixed = false })
    ∙ rw (and_right (same_side side side) (address.0 == one.0) differs) (or_none (alias_of side one t.entries))

-- and what it is called
pub seen_kept : (t : Bindings) (side : Side) (address one : Addr) (until : Moment) (crossing : Crossing) → (is_settled crossing ≡ true)
    ⊎ ((address.0 == one.0) ≡ false) → seen (used_by t side address until crossing) side one ≡ seen t side one
seen_kept t side address one until crossing h =
    let later = used_by t side address until crossing in
    ap (seen_by one) (cross_follows t later side one (used_by_follows t side address until crossing))
    ∙ ap (λ (a : Option Addr). seen_by one (crossed (is_same t one) (in_pool t side one) (host_of side one t.entries) (pool_of later (other side)) a))
    (alias_kept t side address one until crossing h)
    ∙ seen_crossed (is_same t one) (in_pool t side one) (host_of side one t.entries) (pool_of later (other side)) (pool_of t (other side))
    (alias_of side one t.entries) one
    ∙ ap (seen_by one) (sym (cross_is t side one))
