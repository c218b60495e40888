use Rattle.std.proofs.Common.{[], ◌∷◌}
use Rattle.gate_desk.specs.declared.slot.Slot.TheVariants.{LeftIn, RightIn}
use Rattle.gate_desk.specs.declared.slot.Access.TheVariants.{Read}
use Rattle.run_setup.specs.Prelude.{inputs_start, Opens}
use Rattle.run_setup.proofs.Causes.{handed_on, opens_on, opens_more}
use Rattle.run_setup.proofs.heads.open_inputs.Goals as goal

pub returns-in_err-start_slot-clause-answer : goal.returns-in_err-start_slot-clause-answer
returns-in_err-start_slot-clause-answer g c =
    let old = g.D.Desk.outside c.args.desk.now in
    let new = g.D.Desk.outside c.start_slot.new.desk in
    handed_on
    (λ r. Opens r (inputs_start c.args.left.now c.args.right.now) old new) c.from_residual.result c.in_err-start_slot.field-0.0
    c.from_residual.ensures.1
    (opens_more c.in_err-start_slot.field-0.0 ((record { slot = LeftIn; name = c.args.left.now; access = Read }) ∷ [])
    ((record { slot = RightIn; name = c.args.right.now; access = Read }) ∷ []) old new c.in_err-start_slot.ensures.answer)

pub returns-clause-answer : goal.returns-clause-answer
returns-clause-answer g c = opens_on c.start_slot-2.result ((record { slot = LeftIn; name = c.args.left.now; access = Read }) ∷ [])
    ((record { slot = RightIn; name = c.args.right.now; access = Read }) ∷ []) (g.D.Desk.outside c.args.desk.now)
    (g.D.Desk.outside c.start_slot.new.desk) (g.D.Desk.outside c.start_slot-2.new.desk)
    c.in_ok-start_slot.ensures.answer c.start_slot-2.ensures.answer
