use Rattle.std.proofs.Common.{◌<◌, None, length, sym, ◌∙◌, arith}
use Rattle.std.proofs.lemmas.List.{get_or_read}
use Rattle.expiring_table.proofs.Walk.{walk_found}
use Rattle.expiring_table.proofs.store.Store.place_near.Goals as goal

pub returns-then-is_cell_of : goal.returns-then-is_cell_of
returns-then-is_cell_of g c =
    let cells = c.args.self.now.cells.items in
    let within : c.args.near < length cells = omega (arith, c.if-near-len.true, c.len.ensures) in
    walk_found c.args.key cells c.args.near within c.index.result.now
    (sym (get_or_read cells c.args.near c.index.result.now within c.index.ensures None)) (sym c.is_cell_of.ensures ∙ c.if-is_cell_of.true)
