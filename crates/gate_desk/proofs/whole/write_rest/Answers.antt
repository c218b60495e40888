use Rattle.std.proofs.Common.{arith, refl, ◌∙◌, append-nil, length-drop}
use Rattle.std.proofs.lemmas.List.{take_rest}
use Rattle.std.proofs.lemmas.Result.{err_from_is_err_and}
use Rattle.std.proofs.Math.Seq.{take-add}
use Rattle.gate_desk.proofs.Laws.{writes_none, writes_on}
use Rattle.gate_desk.proofs.whole.write_rest.Goals as goal

pub loop-done-init : goal.loop-done-init
loop-done-init g c = record { bound = omega arith; writes = writes_none c.args.slot _; leaves = refl }

pub returns-in_err-n-clause-err : goal.returns-in_err-n-clause-err
returns-in_err-n-clause-err g c =
    let p = err_from_is_err_and c.from_residual.result c.from_residual.ensures.1 in
    let all = writes_on c.args.slot _ _ _ _ _ c.loop-done.invariant.writes c.in_err-n.ensures.err in
    rw p.1 (c.loop-done.done, c.loop-done.invariant.bound, rw append-nil at all)

pub loop-done-preserved : goal.loop-done-preserved
loop-done-preserved g c =
    let one = rw take_rest at c.in_ok-n.ensures.ok in
    record {
      bound = omega (arith, c.in_ok-n.ensures.fits, length-drop c.loop-done.done c.args.piece.now);
      leaves = c.in_ok-n.ensures.leaves ∙ c.loop-done.invariant.leaves;
      writes = rw take-add (writes_on c.args.slot _ _ _ _ _ c.loop-done.invariant.writes one);
    }
