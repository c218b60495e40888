use Rattle.std.proofs.Common.{◌∙◌, sym, None}
use Rattle.std.proofs.lemmas.List.{get_or_read}
use Rattle.expiring_table.proofs.Indexed.{listed_more}
use Rattle.expiring_table.proofs.store.Store.list_cell.Goals as goal

pub returns-in-Some-clause-whole : goal.returns-in-Some-clause-whole
returns-in-Some-clause-whole g c =
    let made = c.list_row.ensures in
    let read = get_or_read c.args.self.now.cells.items c.args.place c.index.result.now c.requires.within c.index.ensures None in
    listed_more c.args.place c.args.self.now c.list_row.new.self c.in-Some.row c.requires.whole c.requires.within (sym read ∙ c.in-Some.is) made.room
    made.most made.cells made.count made.moments made.chains made.alarms
