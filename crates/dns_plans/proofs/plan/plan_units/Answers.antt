use Rattle.std.proofs.Common.{◌≡◌, ◌∙◌, ap, is_some, None, sym}
use Rattle.gate_base.proofs.Options.{none_there}
use Rattle.dns_stream.specs.Prelude.{unit_end}
use Rattle.dns_plans.proofs.ToldLemmas.{none_plan, none_stopped, some_whole}
use Rattle.dns_plans.proofs.plan.plan_units.Goals as goal

pub returns-then-is_none-clause-planned : goal.returns-then-is_none-clause-planned
returns-then-is_none-clause-planned g c =
    let none : unit_end c.args.octets.now ≡ None =
    none_there (unit_end c.args.octets.now) (ap is_some (sym c.unit_end.ensures) ∙ c.if-is_none.ensures) in
    none_plan c.args.table.now c.args.endpoints.now (g.S.Session.rules.listed c.args.sender.now.host c.args.sender.now.session.now)
    c.args.octets.now none c.plan_none.result c.plan_none.ensures.passes c.plan_none.ensures.named c.plan_none.ensures.entries
    c.plan_none.ensures.images

pub returns-then-is_none-clause-stopped : goal.returns-then-is_none-clause-stopped
returns-then-is_none-clause-stopped g c =
    let none : unit_end c.args.octets.now ≡ None =
    none_there (unit_end c.args.octets.now) (ap is_some (sym c.unit_end.ensures) ∙ c.if-is_none.ensures) in
    none_stopped c.args.table.now c.args.endpoints.now (g.S.Session.rules.listed c.args.sender.now.host c.args.sender.now.session.now)
    c.args.octets.now none c.plan_none.result c.plan_none.ensures.refused

pub returns-clause-memory : goal.returns-clause-memory
returns-clause-memory g c = λ e. some_whole c.args.octets.now (ap is_some (sym c.unit_end.ensures) ∙ c.if-is_none.ensures)
