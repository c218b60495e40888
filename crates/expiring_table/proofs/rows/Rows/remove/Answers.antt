use Rattle.std.proofs.Common.{◌∙◌, ap, sym, subst, Option, ℕ}
use Rattle.expiring_table.specs.Prelude.{IsPlaceOf, Table, without}
use Rattle.expiring_table.proofs.Changes.{without_other}
use Rattle.expiring_table.proofs.rows.Rows.remove.Goals as goal

pub returns-in_default : goal.returns-in_default
returns-in_default g c =
    let P : Option ℕ → Type 0 = λ at. IsPlaceOf c.args.key c.self.inside.store.cells.items at in
    sym c.self.view_is
    ∙ ap (λ rows. record { most = c.self.inside.store.most; rows = rows })
    (sym (without_other c.args.key c.self.inside.store.cells.items (subst P c.in_default.is c.place_of.ensures)))
    ∙ ap (λ (one : Table g.row.T.Denot). record { most = one.most; rows = without c.args.key one.rows }) c.self.view_is
