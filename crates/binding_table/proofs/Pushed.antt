-- A binding that is put behind the others.
use Rattle.std.proofs.Common.{◌≡◌, ◌∙◌, ◌++◌, ◌∷◌, [], true, false, List, map, Some, None, IsSome, IsTrue, All, ap, sym, subst, refl, arith}
use Rattle.std.proofs.lemmas.List.{map-append}
use Rattle.std.proofs.lemmas.List.Elements.{All-map, All-weaker}
use Rattle.gate_base.specs.Prelude.{AreRules, same_side}
use Rattle.gate_base.specs.declared.side.Side.{Side}
use Rattle.gate_base.specs.declared.side.Side.TheVariants.{Left, Right}
use Rattle.realm_pools.specs.Addresses.{is_free}
use Rattle.expiring_table.specs.declared.row.Row.{Row}
use Rattle.expiring_table.specs.Prelude.{Table, row_of}
use Rattle.binding_table.specs.declared.binding.Binding.{Binding}
use Rattle.binding_table.specs.declared.table.Table.TheInside.{Inside}
use Rattle.binding_table.specs.Prelude.{with_binding, bindings_of, IsWhole, Aliases, CanHold, changed, filed}
use Rattle.binding_table.proofs.Kept.{free_for, aliases_push, lawful_push, unfiled}
use Rattle.binding_table.proofs.Whole.{whole_by, room_of}

-- the alias is free in the pool of the other realm
pub left_free : (old : Inside) (binding : Binding) → IsWhole old → CanHold (bindings_of old) binding → binding.side ≡ Right
    → IsTrue (is_free binding.alias old.left.pool)
left_free old binding whole can right = rw whole.left (free_for _ binding Left can (ap (λ (s : Side). same_side s Right) right))

pub right_free : (old : Inside) (binding : Binding) → IsWhole old → CanHold (bindings_of old) binding → binding.side ≡ Left
    → IsTrue (is_free binding.alias old.right.pool)
right_free old binding whole can left = rw whole.right (free_for _ binding Right can (ap (λ (s : Side). same_side s Left) left))

-- its host has no row
pub new_row : (old : Inside) (binding : Binding) → IsWhole old → CanHold (bindings_of old) binding → row_of (filed binding).key old.bindings.rows
    ≡ None
new_row old binding whole can = ap (row_of (filed binding).key) whole.rows ∙ unfiled (bindings_of old).entries binding can.once

pub whole_push : (old new : Inside) (binding : Binding) → IsWhole old → CanHold (bindings_of old) binding → new.same ≡ old.same → new.oids ≡ old.oids
    → new.left ≡ changed Left binding (Some binding.host) old.left → new.right ≡ changed Right binding (Some binding.host) old.right
    → new.bindings ≡ record old.bindings { rows = old.bindings.rows ++ filed binding ∷ [] } → IsWhole new
whole_push old new binding whole can same oids l r put =
    let table = bindings_of old in
    let left = l ∙ ap (λ (aliases : Aliases). changed Left binding (Some binding.host) aliases) whole.left ∙ aliases_push table binding Left can in
    let right = r ∙ ap (λ (aliases : Aliases). changed Right binding (Some binding.host) aliases) whole.right
    ∙ aliases_push table binding Right can in
    let rows = ap (λ (t : Table Binding). t.rows) put ∙ ap (λ (all : List (Row Binding)). all ++ filed binding ∷ []) whole.rows
    ∙ sym (map-append filed table.entries (binding ∷ [])) in
    whole_by new (with_binding table binding) same left right oids rows (lawful_push table binding whole.lawful can)
    (subst AreRules (sym oids) whole.rules) (omega (arith, room_of old whole, ap (λ (t : Table Binding). t.most) put))

-- ## Rows with an end and without one

pub fixed_ends : (rows : List (Row Binding)) (entries : List Binding) → rows ≡ map filed entries → All (λ binding. binding.fixed ≡ true) entries
    → All (λ row. row.end ≡ None) rows
fixed_ends rows entries is fixed =
    subst (λ (all : List (Row Binding)). All (λ row. row.end ≡ None) all) (sym is)
    (All-map (λ (row : Row Binding). row.end ≡ None) filed entries
    (All-weaker (λ (binding : Binding). binding.fixed ≡ true) (λ binding. (filed binding).end ≡ None) (λ binding h. rw h refl) entries fixed))

pub moving_end : (binding : Binding) → binding.fixed ≡ false → IsSome (filed binding).end
moving_end binding h = rw h refl
