use Rattle.std.proofs.Common.{◌∙◌, ◌<◌, ap, sym, arith, length, None, option_copied}
use Rattle.std.proofs.lemmas.List.{get_or_read}
use Rattle.expiring_table.specs.Prelude.{Table, row_of}
use Rattle.expiring_table.proofs.Cells.{found}
use Rattle.expiring_table.proofs.rows.Rows.row_at.Goals as goal

pub returns-then-row-key : goal.returns-then-row-key
returns-then-row-key g c =
    let cells = c.self.inside.store.cells.items in
    let within : c.args.place < length cells = omega (arith, c.if-len-place.false, c.len.ensures) in
    let at = sym (get_or_read cells c.args.place c.index.result.now within c.index.ensures None)
    ∙ sym (ap option_copied (sym c.in_ok-row.was) ∙ c.as_ref.ensures.value) in
    ap (row_of c.args.key) (ap (λ (one : Table g.row.T.Denot). one.rows) (sym c.self.view_is))
    ∙ found c.args.key cells c.args.place c.in_ok-row.row.now c.self.invariant.once at c.if-row-key.true
