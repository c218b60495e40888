use Rattle.std.proofs.Common.{Ok, Err, OnErr, [], refl}
use Rattle.pcap_merge.specs.Prelude.{TakenFor}
use Rattle.gate_desk.specs.declared.slot.Slot.TheVariants.{LeftIn, RightIn}
use Rattle.gate_desk.specs.declared.slot.Access.TheVariants.{Read}
use Rattle.run_setup.specs.Prelude.{inputs_start, status_of_merge}
use Rattle.run_setup.specs.Beginning.{Merges}
use Rattle.run_setup.proofs.Causes.{handed_on, access_of}
use Rattle.run_setup.proofs.Beginning.{begins, begin_stops, at_heads}
use Rattle.run_setup.proofs.Untaken.{kept_left, not_begun_few}
use Rattle.run_setup.proofs.Inputs.{captures_none, captures_heads}
use Rattle.run_setup.proofs.heads.begin.Goals as goal

pub returns-in_err-open_inputs-clause-answer : goal.returns-in_err-open_inputs-clause-answer
returns-in_err-open_inputs-clause-answer g c =
    let old = g.D.Desk.outside c.args.desk.now in
    let new = g.D.Desk.outside c.open_inputs.new.desk in
    let status = c.in_err-open_inputs.field-0.0 in
    handed_on (λ r. Merges r (inputs_start c.args.left.now c.args.right.now) old new) c.from_residual.result status c.from_residual.ensures.1
    (at_heads status (inputs_start c.args.left.now c.args.right.now) old new c.in_err-open_inputs.ensures.answer)

pub begin-requires-clause-left : goal.begin-requires-clause-left
begin-requires-clause-left g c =
    access_of LeftIn Read (inputs_start c.args.left.now c.args.right.now) (g.D.Desk.outside c.args.desk.now)
    (g.D.Desk.outside c.open_inputs.new.desk) c.in_ok-open_inputs.ensures.answer.starts (λ w. refl)

pub begin-requires-clause-right : goal.begin-requires-clause-right
begin-requires-clause-right g c =
    access_of RightIn Read (inputs_start c.args.left.now c.args.right.now) (g.D.Desk.outside c.args.desk.now)
    (g.D.Desk.outside c.open_inputs.new.desk) c.in_ok-open_inputs.ensures.answer.starts (λ w. refl)

pub returns-clause-answer : goal.returns-clause-answer
returns-clause-answer g c = begins c.in_ok-merge.merge (inputs_start c.args.left.now c.args.right.now) (g.D.Desk.outside c.args.desk.now)
    (g.D.Desk.outside c.open_inputs.new.desk) (g.D.Desk.outside c.begin.new.desk) c.in_ok-open_inputs.ensures.answer c.in_ok-merge.ensures.begins
    c.in_ok-merge.ensures.leaves

pub returns-in_err-merge-clause-answer : goal.returns-in_err-merge-clause-answer
returns-in_err-merge-clause-answer g c =
    let starts = inputs_start c.args.left.now c.args.right.now in
    let old = g.D.Desk.outside c.args.desk.now in
    let new = g.D.Desk.outside c.begin.new.desk in
    let stop = c.in_err-merge.field-0.0 in
    handed_on (λ r. Merges r starts old new) c.from_residual-in_err-merge.result (status_of_merge stop) c.from_residual-in_err-merge.ensures.1
    (begin_stops stop starts old
    (g.D.Desk.outside c.open_inputs.new.desk) new c.in_ok-open_inputs.ensures.answer c.in_err-merge.ensures.begins c.in_err-merge.ensures.leaves)

pub returns-in_err-open_inputs-clause-taken : goal.returns-in_err-open_inputs-clause-taken
returns-in_err-open_inputs-clause-taken g c =
    let old = g.D.Desk.outside c.args.desk.now in
    let new = g.D.Desk.outside c.open_inputs.new.desk in
    handed_on (λ r. OnErr r (TakenFor [] old new)) c.from_residual.result c.in_err-open_inputs.field-0.0 c.from_residual.ensures.1
    (kept_left old new c.open_inputs.ensures.left)

pub returns-in_err-merge-clause-taken : goal.returns-in_err-merge-clause-taken
returns-in_err-merge-clause-taken g c =
    let old = g.D.Desk.outside c.args.desk.now in
    let new = g.D.Desk.outside c.begin.new.desk in
    handed_on (λ r. OnErr r (TakenFor [] old new)) c.from_residual-in_err-merge.result
    (status_of_merge c.in_err-merge.field-0.0) c.from_residual-in_err-merge.ensures.1
    (not_begun_few c.in_err-merge.field-0.0 old
    (g.D.Desk.outside c.open_inputs.new.desk) new c.open_inputs.ensures.left c.in_err-merge.ensures.begins)

pub returns-in_err-open_inputs-clause-captures : goal.returns-in_err-open_inputs-clause-captures
returns-in_err-open_inputs-clause-captures g c =
    captures_none (g.D.Desk.outside c.args.desk.now) (g.D.Desk.outside c.open_inputs.new.desk) c.open_inputs.ensures.left

pub returns-in_err-merge-clause-captures : goal.returns-in_err-merge-clause-captures
returns-in_err-merge-clause-captures g c =
    captures_heads (Err c.in_err-merge.field-0.0) (g.D.Desk.outside c.args.desk.now) (g.D.Desk.outside c.open_inputs.new.desk)
    (g.D.Desk.outside c.begin.new.desk) c.open_inputs.ensures.left c.in_err-merge.ensures.begins

pub returns-clause-captures : goal.returns-clause-captures
returns-clause-captures g c =
    captures_heads (Ok c.in_ok-merge.merge) (g.D.Desk.outside c.args.desk.now) (g.D.Desk.outside c.open_inputs.new.desk)
    (g.D.Desk.outside c.begin.new.desk) c.open_inputs.ensures.left c.in_ok-merge.ensures.begins
