-- What a table keeps, by its bindings.
use Rattle.std.proofs.Common.{◌≡◌, ℕ, ◌+◌, ◌-◌, ◌≤◌, List, length, map, sym, ◌∙◌, ap, subst, arith}
use Rattle.std.proofs.lemmas.List.FromFn.{length-map-range_with_len}
use Rattle.gate_base.specs.Prelude.{AreRules}
use Rattle.gate_base.specs.declared.rule.OidRule.{OidRule}
use Rattle.gate_base.specs.declared.side.Side.{Side}
use Rattle.gate_base.specs.declared.side.Side.TheVariants.{Left, Right}
use Rattle.gate_settings.specs.declared.settings.Block.{Block}
use Rattle.realm_pools.specs.Addresses.{Range}
use Rattle.binding_table.specs.declared.binding.Binding.{Binding}
use Rattle.binding_table.specs.declared.table.Table.TheInside.{Inside}
use Rattle.binding_table.specs.Prelude.{Bindings, bindings_of, IsWhole, IsLawful, Aliases, aliases_of, aliases_with, entries_in, filed, host_at}
use Rattle.binding_table.proofs.Filed.{entries_are}

-- the number of addresses
abbrev pub size : Range → ℕ
size range = range.last + 1 - range.first

abbrev made : List Block → Range → Range → List OidRule → List Binding → Bindings
made same left right oids entries = record { same = same; left = left; right = right; oids = oids; entries = entries }

same_made : (s t : List Block) (k l m n : Range) (o p : List OidRule) (xs ys : List Binding) → s ≡ t → k ≡ l → m ≡ n → o ≡ p → xs ≡ ys
    → made s k m o xs ≡ made t l n p ys
same_made s t k l m n o p xs ys a b c d e = cc

pub length_hosts : (range : Range) (side : Side) (entries : List Binding) → length (aliases_with range side entries).hosts ≡ size range
length_hosts range side entries = length-map-range_with_len (host_at side entries) range.first (range.last + 1 - range.first)

pub view_by : (inside : Inside) (table : Bindings) → inside.same ≡ table.same → inside.left ≡ aliases_of table Left
    → inside.right ≡ aliases_of table Right → inside.oids ≡ table.oids → inside.bindings.rows ≡ map filed table.entries → bindings_of inside ≡ table
view_by inside table same left right oids rows =
    same_made inside.same table.same inside.left.pool.range table.left inside.right.pool.range table.right inside.oids table.oids
    (entries_in inside.bindings.rows) table.entries same (ap (λ (aliases : Aliases). aliases.pool.range) left)
    (ap (λ (aliases : Aliases). aliases.pool.range) right) oids (entries_are inside.bindings.rows table.entries rows)

pub whole_by : (inside : Inside) (table : Bindings) → inside.same ≡ table.same → inside.left ≡ aliases_of table Left
    → inside.right ≡ aliases_of table Right → inside.oids ≡ table.oids → inside.bindings.rows ≡ map filed table.entries → IsLawful table
    → AreRules inside.oids → size table.left + size table.right ≤ inside.bindings.most → IsWhole inside
whole_by inside table same left right oids rows lawful rules room =
    let entries = entries_are inside.bindings.rows table.entries rows in
    let is = view_by inside table same left right oids rows in
    let long = ap (λ (aliases : Aliases). length aliases.hosts) left ∙ length_hosts table.left Left table.entries in
    let wide = ap (λ (aliases : Aliases). length aliases.hosts) right ∙ length_hosts table.right Right table.entries in
    record {
      lawful = subst IsLawful (sym is) lawful;
      rows = rows ∙ ap (map filed) (sym entries);
      left = left ∙ ap (λ (t : Bindings). aliases_of t Left) (sym is);
      right = right ∙ ap (λ (t : Bindings). aliases_of t Right) (sym is);
      room = omega (arith, long, wide, room);
      rules = rules;
    }

-- the room of a table is that of both pools
pub room_of : (inside : Inside) → IsWhole inside → size inside.left.pool.range + size inside.right.pool.range ≤ inside.bindings.most
room_of inside whole =
    let entries = entries_in inside.bindings.rows in
    let long = ap (λ (aliases : Aliases). length aliases.hosts) whole.left ∙ length_hosts inside.left.pool.range Left entries in
    let wide = ap (λ (aliases : Aliases). length aliases.hosts) whole.right ∙ length_hosts inside.right.pool.range Right entries in
    omega (arith, long, wide, whole.room)
