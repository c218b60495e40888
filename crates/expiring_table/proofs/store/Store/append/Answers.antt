use Rattle.std.proofs.Common.{◌∙◌, ap, refl, ◌++◌, ◌∷◌, []}
use Rattle.expiring_table.specs.Prelude.{rows_in}
use Rattle.expiring_table.proofs.Cells.{rows_push}
use Rattle.expiring_table.proofs.Indexed.{whole_push}
use Rattle.expiring_table.proofs.store.Store.append.Goals as goal

pub returns-clause-whole : goal.returns-clause-whole
returns-clause-whole g c =
    let made = c.list_row.ensures in
    whole_push c.args.self.now c.list_row.new.self _ c.args.row c.requires.whole c.requires.room c.requires.few c.requires.new made.room made.most
    made.cells made.count made.moments made.chains made.alarms refl c.push_reserved.ensures.items c.push_reserved.ensures.capacity refl refl refl
    refl

pub returns-clause-table : goal.returns-clause-table
returns-clause-table g c =
    ap (λ rows. record { most = c.list_row.new.self.most; rows = rows })
    (ap rows_in c.push_reserved.ensures.items ∙ rows_push c.list_row.new.self.cells.items c.args.row
    ∙ ap (λ v. rows_in v.items ++ c.args.row ∷ []) c.list_row.ensures.cells)
    ∙ ap (λ most. record { most = most; rows = rows_in c.args.self.now.cells.items ++ c.args.row ∷ [] }) c.list_row.ensures.most
