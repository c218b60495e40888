use Rattle.std.proofs.Common.{arith}
use Rattle.std.proofs.lemmas.Fmt.{length-decimal-le}
use Rattle.gate_report.proofs.text.put_number_before.Goals as goal

pub write_digits-requires : goal.write_digits-requires
write_digits-requires c = (omega (arith, length-decimal-le 20 c.args.number (omega arith) (omega arith) (omega arith)), c.requires.1)

pub returns-clause-begin : goal.returns-clause-begin
returns-clause-begin c = (
  omega (arith, c.write_digits.ensures.start, length-decimal-le 20 c.args.number (omega arith) (omega arith) (omega arith)),
  omega (arith, c.write_digits.ensures.start),
)
