use Rattle.std.proofs.Common.{sym}
use Rattle.frag_join.proofs.FragmentLemmas.{unlike-before}
use Rattle.frag_join.proofs.buffer.Buffer.is_unlike.Goals as goal

pub loop-place-init : goal.loop-place-init
loop-place-init c = sym (unlike-before c.args.self.now c.args.fragment.now c.start-start.result c.start-start.ensures.place)
