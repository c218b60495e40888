use Rattle.std.proofs.Common.{◌∙◌, ap, sym, List, take, [], ◌∷◌}
use Rattle.binding_table.specs.Prelude.{Bindings, after_uses}
use Rattle.dialogue.specs.Prelude.{Entry}
use Rattle.gate_model.specs.Prelude.{renamed_in, uses_until}
use Rattle.dns_plans.proofs.EnteredLemmas.{take-next}
use Rattle.event_segments.proofs.UsesListed.{next_used}
use Rattle.event_segments.proofs.uses.use_list.Goals as goal

pub loop-place-preserved : goal.loop-place-preserved
loop-place-preserved g c =
    let xs = g.S.Session.rules.listed c.args.host c.args.session.now in
    let until = c.args.until.0 in
    c.use_entry.ensures
    ∙ ap (λ (b : Bindings). after_uses b (uses_until c.args.side until (renamed_in (c.entry.result ∷ [])))) c.loop-place.invariant
    ∙ next_used c.args.table.now c.args.side until (take c.loop-place.place xs) c.entry.result
    ∙ ap (λ (ys : List Entry). after_uses c.args.table.now (uses_until c.args.side until (renamed_in ys)))
    (sym (take-next xs c.loop-place.place c.entry.result c.entry.ensures))
