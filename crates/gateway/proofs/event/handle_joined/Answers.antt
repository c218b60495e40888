use Rattle.std.proofs.Common.{Option, IfSome, ◌<◌, ◌*◌, ◌^◌, sym, subst}
use Rattle.gate_base.specs.Prelude.{Event}
use Rattle.frag_join.specs.Prelude.{Reaches}
use Rattle.gateway.specs.Prelude.{Handles, counting}
use Rattle.gateway.proofs.event.handle_joined.Goals as goal

pub handle-requires-clause-early : goal.handle-requires-clause-early
handle-requires-clause-early g c = subst (λ (o : Option Event). IfSome o (λ e. e.moment < 2 ^ 32 * 1000000000)) c.joined.ensures c.requires.early

pub returns : goal.returns
returns g c =
    subst (λ (o : Option Event). IfSome o
    (λ e. Handles (counting c.handle.new.reporter.totals c.handle.result) c.args.gate.now c.handle.new.gate c.args.reporter.now.totals (Reaches e)
    (g.D.Desk.outside c.args.desk.now) (g.D.Desk.outside c.handle.new.desk))) (sym c.joined.ensures) c.handle.ensures
