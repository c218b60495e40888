use Rattle.std.proofs.Common.{sym, arith}
use Rattle.frag_join.proofs.FragmentLemmas.{fresh-before}
use Rattle.frag_join.proofs.buffer.Buffer.fresh.Goals as goal

pub loop-place-init : goal.loop-place-init
loop-place-init c = record {
  counted = sym (fresh-before c.args.self.now c.args.fragment.now c.start-place.result c.start-place.ensures.place);
  few = omega arith;
}
