use Rattle.std.proofs.Common.{◌∙◌, sym, ap, arith}
use Rattle.gate_base.specs.Prelude.{event_of}
use Rattle.frag_join.specs.Prelude.{joined_in, by_known}
use Rattle.frag_join.proofs.ArrivalSteps.{joined-at}
use Rattle.file_audit.proofs.expect.expect.Goals as goal

pub expect_event-requires-in-Joined-clause-early : goal.expect_event-requires-in-Joined-clause-early
expect_event-requires-in-Joined-clause-early c =
    let same =
    joined-at by_known c.args.joiner.now (event_of c.args.event) (event_of c.joined.result)
    (ap joined_in (sym c.ask.ensures.state) ∙ c.joined.ensures) in
    omega (arith, same, c.requires.early)
