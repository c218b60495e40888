use Rattle.std.proofs.Common.{arith, sym, subst, ◌∙◌, ℕ, Option}
use Rattle.gate_base.proofs.Options.{on_err}
use Rattle.stream_gate.specs.Prelude.{OneBears, units_behind}
use Rattle.stream_gate.proofs.MemoryLemmas.{plan_bears}
use Rattle.stream_gate.proofs.plan.make_plan.Goals as goal

pub returns-in_err-reserve-in-Some-clause-memory : goal.returns-in_err-reserve-in-Some-clause-memory
returns-in_err-reserve-in-Some-clause-memory g c =
    let m = g.D.Dialogue.meaning c.args.dialogue.now in
    on_err _
    (subst (λ (o : Option ℕ). OneBears m (units_behind m c.args.octets.now o)) (sym c.in-Some.is ∙ c.start_of.ensures)
    (plan_bears m
    (g.met.D.Dialogue.lawful c.args.dialogue.now) c.args.octets.now c.in-Some.start c.in_ok-plan-in-Some.plan c.in_ok-plan-in-Some.ensures.plans
    (omega (arith, c.in_err-reserve-in-Some.ensures.refused, c.len.ensures))))
