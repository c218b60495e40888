use Rattle.std.proofs.Common.{◌^◌, ◌*◌, ◌∙◌, sym, ap}
use Rattle.gate_base.specs.Prelude.{event_of}
use Rattle.frag_join.specs.Prelude.{joined_in, by_known}
use Rattle.frag_join.proofs.ArrivalSteps.{joined-at}
use Rattle.gateway.proofs.Events.{joined_early}
use Rattle.gateway.proofs.event.take.Goals as goal

pub handle_joined-requires-clause-early : goal.handle_joined-requires-clause-early
handle_joined-requires-clause-early g c =
    let e = event_of c.args.event in
    joined_early (joined_in c.ask.new.joiner) e (2 ^ 32 * 1000000000)
    (λ x is. joined-at by_known c.args.joiner.now e x (ap joined_in (sym c.ask.ensures.state) ∙ is)) c.requires.early
