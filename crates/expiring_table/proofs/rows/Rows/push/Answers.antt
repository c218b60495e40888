use Rattle.std.proofs.Common.{◌∙◌, ap}
use Rattle.expiring_table.specs.Prelude.{Table, row_of}
use Rattle.expiring_table.proofs.Cells.{none_from}
use Rattle.expiring_table.proofs.rows.Rows.push.Goals as goal

pub append-requires-clause-new : goal.append-requires-clause-new
append-requires-clause-new g c =
    none_from c.args.row.key c.make_room.new.self.cells.items c.make_room.ensures.whole.once
    (ap (row_of c.args.row.key) (ap (λ (one : Table g.row.T.Denot). one.rows) (c.make_room.ensures.table ∙ c.self.view_is)) ∙ c.requires.new)
