use Rattle.std.proofs.Common.{arith}
use Rattle.file_audit.proofs.FoundLines.{agreed_end}
use Rattle.file_audit.proofs.line.agreed.Goals as goal

pub returns : goal.returns
returns c =
    let last =
    agreed_end c.args.line.now c.args.octets.now c.loop-place.place
    (omega (arith, c.min-limit.ensures, c.loop-place-test.false, c.loop-place.auto.place-end)) in
    record {
      is = omega (arith, c.loop-place.invariant, last, c.loop-place-test.false, c.loop-place.auto.place-end);
      bound =
          omega (arith, c.min-limit.ensures);
    }
