use Rattle.std.proofs.Common.{◌∙◌, ap, sym, subst, option_copied, Option, ℕ, None}
use Rattle.std.proofs.lemmas.List.{get_or_read}
use Rattle.expiring_table.specs.Prelude.{IsPlaceOf, Table, row_of}
use Rattle.expiring_table.proofs.Cells.{found, none_found}
use Rattle.expiring_table.proofs.rows.Rows.find.Goals as goal

pub returns : goal.returns
returns g c =
    let cells = c.self.inside.store.cells.items in
    let P : Option ℕ → Type 0 = λ at. IsPlaceOf c.args.key cells at in
    let is = subst P c.in_ok-place.was c.place_of.ensures in
    c.as_ref.ensures.value ∙ get_or_read cells c.in_ok-place.place c.index.result.now is.0 c.index.ensures None ∙ is.1.1
    ∙ sym (found c.args.key cells c.in_ok-place.place is.1.0 c.self.invariant.once is.1.1 is.1.2)
    ∙ ap (row_of c.args.key) (ap (λ (one : Table g.row.T.Denot). one.rows) c.self.view_is)

pub returns-in_err-place : goal.returns-in_err-place
returns-in_err-place g c =
    let cells = c.self.inside.store.cells.items in
    let P : Option ℕ → Type 0 = λ at. IsPlaceOf c.args.key cells at in
    ap option_copied c.from_residual.ensures ∙ sym (none_found c.args.key cells (subst P c.in_err-place.was c.place_of.ensures))
    ∙ ap (row_of c.args.key) (ap (λ (one : Table g.row.T.Denot). one.rows) c.self.view_is)
