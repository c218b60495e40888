use Rattle.std.proofs.Common.{◌≡◌, ◌∙◌, List, map, false, refl, ap, sym, subst, arith, IsSome, IsSomeAnd, Option, find}
use Rattle.gate_base.specs.declared.address.Addr.{Addr}
use Rattle.gate_base.specs.declared.event.Moment.{Moment}
use Rattle.gate_base.specs.declared.side.Side.{Side}
use Rattle.gate_base.specs.declared.side.Side.TheVariants.{Left, Right}
use Rattle.expiring_table.specs.declared.row.Row.{Row}
use Rattle.expiring_table.specs.Prelude.{Table, row_of}
use Rattle.binding_table.specs.declared.binding.Binding.{Binding}
use Rattle.binding_table.specs.Prelude.{Bindings, extend_through, is_of_host, lasting, bindings_of, filed, number_of}
use Rattle.binding_table.proofs.Filed.{entries_are}
use Rattle.binding_table.proofs.Kept.{same_pair, lasting_pair, aliases_map, lawful_map}
use Rattle.binding_table.proofs.Once.{through_same, rows_extended, row_found}
use Rattle.binding_table.proofs.Pushed.{moving_end}
use Rattle.binding_table.proofs.Whole.{whole_by, room_of}
use Rattle.binding_table.proofs.table.Table.extend_row.Goals as goal

-- the row that is put
later_is : (row put : Row Binding) (until : Moment) → row ≡ filed row.value → put ≡ filed (lasting until row.value)
    → record { key = row.key; end = put.end; value = put.value } ≡ filed (lasting until row.value)
later_is row put until is same =
    let pair = lasting_pair until row.value in
    let later = lasting until row.value in
    let key : row.key ≡ (filed later).key =
    ap (λ (r : Row Binding). r.key) is
    ∙ ap (λ (s : Side). number_of s row.value.host.0) (sym pair.side)
    ∙ ap (λ (host : Addr). number_of later.side host.0) (sym pair.host) in
    ap (λ (r : Row Binding). let one : Row Binding = record { key = row.key; end = r.end; value = r.value } in one) same
    ∙ ap (λ k. let one : Row Binding = record { key = k; end = (filed later).end; value = later } in one) key

pub set_at-requires-clause-there : goal.set_at-requires-clause-there
set_at-requires-clause-there c =
    let binding = c.args.row.value in
    let found = ap (λ (t : Bindings). find (is_of_host binding.side binding.host.0) t.entries) c.self.view_is ∙ c.requires.there in
    let row = row_found (bindings_of c.self.inside).entries c.self.inside.bindings.rows binding binding c.self.invariant.rows
    (record { side = refl; host = refl; alias = refl }) found in
    let P : Option (Row Binding) → Type 0 = λ one. IsSomeAnd one (λ found. IsSome found.end) in
    subst P (sym (ap (λ (one : Row Binding). row_of one.key c.self.inside.bindings.rows) c.requires.filed ∙ row))
    (moving_end binding c.requires.moving)

pub returns-then-lasts : goal.returns-then-lasts
returns-then-lasts c =
    let table = c.args.self.now in
    let binding = c.args.row.value in
    ap (λ (entries : List Binding). record table { entries = entries })
    (sym (through_same table false binding.side binding.host c.args.until binding c.requires.lawful c.requires.there
    (sym c.lasts.ensures ∙ c.if-lasts.true)))

pub invariant_of-self : goal.invariant_of-self
invariant_of-self c =
    let table = bindings_of c.self.inside in
    let whole = c.self.invariant in
    let binding = c.args.row.value in
    let found = ap (λ (t : Bindings). find (is_of_host binding.side binding.host.0) t.entries) c.self.view_is ∙ c.requires.there in
    let is = later_is c.args.row c.filed.result c.args.until c.requires.filed (c.filed.ensures ∙ ap filed c.lasting.ensures) in
    let put = ap (λ (t : Table Binding). t.rows) c.set_at.ensures
    ∙ rows_extended table false binding.side binding.host c.args.until binding _ c.self.inside.bindings.rows whole.lawful found is whole.rows in
    let f = extend_through false binding.side binding.host c.args.until in
    let same = same_pair false binding.side binding.host c.args.until in
    whole_by _ (record table { entries = map f table.entries }) refl (whole.left ∙ aliases_map f same table.left Left table.entries)
    (whole.right ∙ aliases_map f same table.right Right table.entries) refl put (lawful_map f same table whole.lawful) whole.rules
    (omega (arith, room_of c.self.inside whole, ap (λ (t : Table Binding). t.most) c.set_at.ensures))

pub returns : goal.returns
returns c =
    let table = bindings_of c.self.inside in
    let binding = c.args.row.value in
    let found = ap (λ (t : Bindings). find (is_of_host binding.side binding.host.0) t.entries) c.self.view_is ∙ c.requires.there in
    let is = later_is c.args.row c.filed.result c.args.until c.requires.filed (c.filed.ensures ∙ ap filed c.lasting.ensures) in
    let put = ap (λ (t : Table Binding). t.rows) c.set_at.ensures
    ∙ rows_extended table false binding.side binding.host c.args.until binding _ c.self.inside.bindings.rows c.self.invariant.lawful found is
    c.self.invariant.rows in
    let f = extend_through false binding.side binding.host c.args.until in
    ap (λ (entries : List Binding). record table { entries = entries }) (entries_are c.set_at.new.self.rows (map f table.entries) put)
    ∙ ap (λ (t : Bindings). record t { entries = map f t.entries }) c.self.view_is
