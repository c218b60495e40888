use Rattle.std.proofs.Common.{Err, [], ◌∷◌}
use Rattle.gate_desk.specs.declared.slot.Slot.TheVariants.{LeftOut, RightOut, Report}
use Rattle.gate_desk.specs.declared.slot.Access.TheVariants.{Write}
use Rattle.run_setup.specs.Prelude.{Opens}
use Rattle.run_setup.specs.RunNames.{names_of, output_starts}
use Rattle.run_setup.proofs.Causes.{handed_on, opens_on, opens_more}
use Rattle.gateway.proofs.outputs.open_outputs.Goals as goal

pub returns-in_err-start_slot-clause-answer : goal.returns-in_err-start_slot-clause-answer
returns-in_err-start_slot-clause-answer g c =
    let old = g.D.Desk.outside c.args.desk.now in
    let new = g.D.Desk.outside c.start_slot.new.desk in
    handed_on
    (λ r. Opens r (output_starts (names_of c.args.names)) old new) c.from_residual.result c.in_err-start_slot.field-0.0 c.from_residual.ensures.1
    (opens_more c.in_err-start_slot.field-0.0 ((record { slot = LeftOut; name = c.args.names.left_out.now; access = Write }) ∷ [])
    ((record { slot = RightOut; name = c.args.names.right_out.now; access = Write })
    ∷ (record { slot = Report; name = c.args.names.report.now; access = Write }) ∷ [])
    old new c.in_err-start_slot.ensures.answer)

pub returns-in_err-start_slot-2-clause-answer : goal.returns-in_err-start_slot-2-clause-answer
returns-in_err-start_slot-2-clause-answer g c =
    let old = g.D.Desk.outside c.args.desk.now in
    let mid = g.D.Desk.outside c.start_slot.new.desk in
    let new = g.D.Desk.outside c.start_slot-2.new.desk in
    let status = c.in_err-start_slot-2.field-0.0 in
    handed_on
    (λ r. Opens r (output_starts (names_of c.args.names)) old new) c.from_residual-in_err-start_slot-2.result status
    c.from_residual-in_err-start_slot-2.ensures.1
    (opens_on (Err status) ((record { slot = LeftOut; name = c.args.names.left_out.now; access = Write }) ∷ [])
    ((record { slot = RightOut; name = c.args.names.right_out.now; access = Write })
    ∷ (record { slot = Report; name = c.args.names.report.now; access = Write }) ∷ [])
    old mid new c.in_ok-start_slot.ensures.answer
    (opens_more status ((record { slot = RightOut; name = c.args.names.right_out.now; access = Write }) ∷ [])
    ((record { slot = Report; name = c.args.names.report.now; access = Write }) ∷ []) mid new c.in_err-start_slot-2.ensures.answer))

pub returns-clause-answer : goal.returns-clause-answer
returns-clause-answer g c =
    let now = g.D.Desk.outside c.args.desk.now in
    let one = g.D.Desk.outside c.start_slot.new.desk in
    let two = g.D.Desk.outside c.start_slot-2.new.desk in
    let three = g.D.Desk.outside c.start_slot-3.new.desk in
    opens_on c.start_slot-3.result ((record { slot = LeftOut; name = c.args.names.left_out.now; access = Write }) ∷ [])
    ((record { slot = RightOut; name = c.args.names.right_out.now; access = Write })
    ∷ (record { slot = Report; name = c.args.names.report.now; access = Write }) ∷ [])
    now one three c.in_ok-start_slot.ensures.answer
    (opens_on c.start_slot-3.result ((record { slot = RightOut; name = c.args.names.right_out.now; access = Write }) ∷ [])
    ((record { slot = Report; name = c.args.names.report.now; access = Write }) ∷ [])
    one two three c.in_ok-start_slot-2.ensures.answer c.start_slot-3.ensures.answer)
