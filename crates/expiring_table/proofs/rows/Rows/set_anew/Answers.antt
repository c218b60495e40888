use Rattle.std.proofs.Common.{◌≡◌, ◌∙◌, ap, sym, IsSome, subst, Option, ℕ, true, false}
use Rattle.expiring_table.specs.declared.row.Row.{Row}
use Rattle.expiring_table.specs.Prelude.{IsPlaceOf, Table, row_of}
use Rattle.expiring_table.proofs.Cells.{none_found}
use Rattle.expiring_table.proofs.rows.Rows.set_anew.Goals as goal

pub returns-in_default : goal.returns-in_default
returns-in_default g c =
    let L : Option ℕ → Type 0 = λ at. IsPlaceOf c.args.row.key c.make_room.new.self.cells.items at in
    let none = none_found c.args.row.key c.make_room.new.self.cells.items (subst L c.in_default.is c.place_near.ensures) in
    let gone = ap (row_of c.args.row.key) (ap (λ (one : Table g.row.T.Denot). one.rows) (sym (c.make_room.ensures.table ∙ c.self.view_is))) ∙ none in
    let P : Option (Row g.row.T.Denot) → Type 0 = λ found. IsSome found in
    let h : false ≡ true = subst P gone c.requires in absurd (let bad : ⊥ = cc in bad)
