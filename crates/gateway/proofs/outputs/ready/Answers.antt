use Rattle.std.proofs.Common.{refl, ◌∙◌}
use Rattle.gate_desk.specs.declared.slot.Slot.TheVariants.{LeftOut, RightOut}
use Rattle.gate_desk.specs.declared.slot.Access.TheVariants.{Write}
use Rattle.run_setup.specs.RunNames.{names_of, output_starts}
use Rattle.gateway.specs.Prelude.{Readies, heads}
use Rattle.run_setup.proofs.Causes.{handed_on, access_of}
use Rattle.gateway.proofs.Phases.{readies, readies_not}
use Rattle.gateway.proofs.Took.{gives_left}
use Rattle.gateway.proofs.outputs.ready.Goals as goal

pub write_heads-requires-clause-left : goal.write_heads-requires-clause-left
write_heads-requires-clause-left g c =
    access_of LeftOut Write (output_starts (names_of c.args.names)) (g.D.Desk.outside c.args.desk.now)
    (g.D.Desk.outside c.open_outputs.new.desk) c.in_ok-open_outputs.ensures.answer.starts (λ w. refl)

pub write_heads-requires-clause-right : goal.write_heads-requires-clause-right
write_heads-requires-clause-right g c =
    access_of RightOut Write (output_starts (names_of c.args.names)) (g.D.Desk.outside c.args.desk.now)
    (g.D.Desk.outside c.open_outputs.new.desk) c.in_ok-open_outputs.ensures.answer.starts (λ w. refl)

pub returns-clause-answer : goal.returns-clause-answer
returns-clause-answer g c =
    readies c.write_heads.result c.args.settings.now (output_starts (names_of c.args.names)) (g.D.Desk.outside c.args.desk.now)
    (g.D.Desk.outside c.open_outputs.new.desk) (g.D.Desk.outside c.write_heads.new.desk) c.in_ok-open_outputs.ensures.answer c.write_heads.ensures

pub returns-in_err-open_outputs-clause-answer : goal.returns-in_err-open_outputs-clause-answer
returns-in_err-open_outputs-clause-answer g c =
    let old = g.D.Desk.outside c.args.desk.now in
    let new = g.D.Desk.outside c.open_outputs.new.desk in
    let status = c.in_err-open_outputs.field-0.0 in
    handed_on
    (λ r. Readies r c.args.settings.now (output_starts (names_of c.args.names)) old new) c.from_residual.result status c.from_residual.ensures.1
    (readies_not status c.args.settings.now (output_starts (names_of c.args.names)) old new c.in_err-open_outputs.ensures.answer)

pub returns-clause-left : goal.returns-clause-left
returns-clause-left g c =
    gives_left c.write_heads.result (heads c.args.settings.now) (g.D.Desk.outside c.open_outputs.new.desk)
    (g.D.Desk.outside c.write_heads.new.desk) c.write_heads.ensures ∙ c.open_outputs.ensures.left
