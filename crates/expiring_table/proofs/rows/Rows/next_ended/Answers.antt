use Rattle.std.proofs.Common.{List, ap, subst}
use Rattle.expiring_table.specs.declared.row.Row.{Row}
use Rattle.expiring_table.specs.Prelude.{AreDistinct, Table}
use Rattle.expiring_table.proofs.Taken.{distinct_in}
use Rattle.expiring_table.proofs.rows.Rows.next_ended.Goals as goal

pub returns-clause-distinct : goal.returns-clause-distinct
returns-clause-distinct g c =
    let P : List (Row g.row.T.Denot) → Type 0 = λ rows. AreDistinct rows in
    subst P (ap (λ (one : Table g.row.T.Denot). one.rows) c.self.view_is) (distinct_in c.self.inside.store.cells.items c.self.invariant.once)
