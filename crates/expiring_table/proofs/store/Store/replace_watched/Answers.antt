use Rattle.std.proofs.Common.{◌∙◌, ◌<◌, ap, sym, arith, length, None}
use Rattle.std.proofs.lemmas.List.{get_or_read}
use Rattle.expiring_table.specs.Prelude.{is_watched, row_at}
use Rattle.expiring_table.proofs.Changes.{rows_set}
use Rattle.expiring_table.proofs.Review.{whole_watched}
use Rattle.expiring_table.proofs.Walk.{walk_found}
use Rattle.expiring_table.proofs.store.Store.replace_watched.Goals as goal

pub returns-clause-whole : goal.returns-clause-whole
returns-clause-whole g c =
    let cells = c.args.self.now.cells.items in
    let moments = c.args.self.now.moments.items in
    let within : c.args.near < length cells = omega (arith, c.if-len-near.false, c.len.ensures) in
    let ring = get_or_read moments c.args.near c.index.result.now (omega (arith, within, c.requires.indexed.watches)) c.index.ensures 0 in
    let was = get_or_read cells c.args.near c.index-was.result.now within c.index-was.ensures None in
    let at = walk_found c.args.row.key cells c.args.near within c.index-was.result.now (sym was)
    (sym c.is_cell_of.ensures ∙ c.if-not-is_cell_of.false) in
    whole_watched c.args.self.now c.args.near c.in-Some.end c.args.row c.requires at c.in-Some.is
    (ap (λ one. is_watched one c.in-Some.end (row_at cells c.args.near)) (sym ring) ∙ ap (is_watched c.index.result.now c.in-Some.end) (sym was)
    ∙ sym c.is_watched.ensures ∙ c.if-not-is_watched.false)

pub returns-clause-done : goal.returns-clause-done
returns-clause-done g c = λ _.
    let cells = c.args.self.now.cells.items in
    let within : c.args.near < length cells = omega (arith, c.if-len-near.false, c.len.ensures) in
    let was = get_or_read cells c.args.near c.index-was.result.now within c.index-was.ensures None in
    let at = walk_found c.args.row.key cells c.args.near within c.index-was.result.now (sym was)
    (sym c.is_cell_of.ensures ∙ c.if-not-is_cell_of.false) in
    ap (λ rows. record { most = c.args.self.now.most; rows = rows }) (rows_set cells c.args.near at.1.0 c.args.row c.requires.once at.1.1 at.1.2)
