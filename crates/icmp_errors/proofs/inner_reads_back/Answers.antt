use Rattle.std.proofs.Common.{arith}
use Rattle.icmp_errors.proofs.Written.{reads_back, is_right_again}
use Rattle.icmp_errors.proofs.inner_reads_back.Goals as goal

pub returns-clause-read : goal.returns-clause-read
returns-clause-read c =
    reads_back c.args.inner.now c.args.source c.args.destination c.args.sequence (omega arith) (omega arith) c.requires.number c.requires.inner

pub returns-clause-right : goal.returns-clause-right
returns-clause-right c = is_right_again c.args.inner.now c.args.source c.args.destination c.args.sequence c.requires.inner
