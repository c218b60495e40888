use Rattle.std.proofs.Common.{◌≡◌, ◌+◌, ◌-◌, ◌≤◌, length, arith, refl, sym, subst, ◌∙◌, length-take-le}
use Rattle.std.proofs.lemmas.Slice.{take-put_mid_below}
use Rattle.std.proofs.lemmas.Result.{err_from_is_err_and}
use Rattle.gate_desk.specs.Outside.{AreNext, AreUpTo}
use Rattle.gate_desk.proofs.Laws.{takes_none, takes_on, next_none, next_on, up_to_end, buffer_on}
use Rattle.gate_desk.proofs.whole.read_full.Goals as goal

pub loop-filled-init : goal.loop-filled-init
loop-filled-init g c = record {
  bound = omega arith;
  takes = takes_none c.args.slot _;
  next = next_none c.args.slot (g.D.Desk.outside c.args.desk.now);
  leaves = refl;
}

pub returns-in_err-n-clause-err : goal.returns-in_err-n-clause-err
returns-in_err-n-clause-err g c =
    let p = err_from_is_err_and c.from_residual.result c.from_residual.ensures.1 in
    let all = takes_on c.args.slot _ _ _ _ _ c.loop-filled.invariant.takes c.in_err-n.ensures.err in
    rw p.1 (c.loop-filled.filled + 0, omega arith, all)

pub returns-then-n-eq0-clause-ok : goal.returns-then-n-eq0-clause-ok
returns-then-n-eq0-clause-ok g c =
    let e : c.loop-filled.filled + c.in_ok-n.n ≡ c.loop-filled.filled = omega arith in
    rw e at (takes_on c.args.slot _ _ _ _ _ c.loop-filled.invariant.takes c.in_ok-n.ensures.ok)

pub returns-then-n-eq0-clause-octets : goal.returns-then-n-eq0-clause-octets
returns-then-n-eq0-clause-octets g c =
    let bound : c.loop-filled.filled ≤ length c.loop-filled.buffer = omega arith in
    let size = length-take-le c.loop-filled.filled c.loop-filled.buffer bound in
    let same = take-put_mid_below c.loop-filled.filled (length c.loop-filled.buffer - c.loop-filled.filled) c.loop-filled.buffer c.read.new.buffer
    c.loop-filled.filled (omega arith) bound in
    let all = up_to_end c.args.slot _ _ (length c.args.buffer.now) _ _ size c.loop-filled.invariant.bound c.loop-filled.invariant.takes
    c.loop-filled.invariant.next (c.in_ok-n.ensures.end c.if-n-eq0.true (omega arith)) in
    subst (λ xs. AreUpTo (length c.args.buffer.now) xs (g.D.Desk.outside c.args.desk.now) c.args.slot) (sym same) all

pub loop-filled-preserved : goal.loop-filled-preserved
loop-filled-preserved g c =
    let bound : c.loop-filled.filled ≤ length c.loop-filled.buffer = omega arith in
    let size = length-take-le c.loop-filled.filled c.loop-filled.buffer bound in
    let more = next_on c.args.slot _ _ _ _ _ size c.loop-filled.invariant.takes c.loop-filled.invariant.next c.in_ok-n.ensures.octets in
    let same = buffer_on c.loop-filled.buffer c.read.new.buffer c.loop-filled.filled c.in_ok-n.n bound c.in_ok-n.ensures.fits in
    record {
      bound = omega (arith, c.in_ok-n.ensures.fits);
      takes = takes_on c.args.slot _ _ _ _ _ c.loop-filled.invariant.takes c.in_ok-n.ensures.ok;
      leaves = c.in_ok-n.ensures.leaves ∙ c.loop-filled.invariant.leaves;
      next = subst (λ xs. AreNext xs (g.D.Desk.outside c.args.desk.now) c.args.slot) (sym same) more;
    }
