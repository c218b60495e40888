use Rattle.stream_gate.proofs.TakenLemmas.{begun_stream}
use Rattle.stream_gate.proofs.direction.Direction.new.Goals as goal

pub invariant_of-result : goal.invariant_of-result
invariant_of-result g c =
    begun_stream (g.D.Dialogue.meaning c.args.dialogue)
    (g.met.D.Dialogue.lawful c.args.dialogue) c.args.mss c.args.initial c.new.result c.args.recent c.new.ensures c.requires
