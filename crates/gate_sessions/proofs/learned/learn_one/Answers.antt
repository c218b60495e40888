use Rattle.std.proofs.Common.{[], ◌∷◌}
use Rattle.gate_sessions.proofs.ListedLemmas.{side_longer}
use Rattle.gate_sessions.proofs.learned.learn_one.Goals as goal

pub returns-clause-stream : goal.returns-clause-stream
returns-clause-stream c =
    side_longer c.args.host c.args.session.now c.learn.new.self
    ((c.args.one.0, c.args.one.1) ∷ []) c.requires.stream c.learn.ensures.entries c.learn.ensures.kept
