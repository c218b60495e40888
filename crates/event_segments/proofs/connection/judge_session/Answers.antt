use Rattle.std.proofs.Common.{length, sym, ap, subst, ◌∙◌}
use Rattle.gate_base.specs.declared.host.Host.TheVariants.{Client, Server}
use Rattle.gate_model.specs.Prelude.{Tracked}
use Rattle.dns_plans.specs.declared.stop.PlanStop.{PlanStop}
use Rattle.event_segments.specs.Prelude.{IsStopped}
use Rattle.event_segments.proofs.connection.judge_session.Goals as goal

pub returns-in-Ok : goal.returns-in-Ok
returns-in-Ok g c = λ live t lawful way found.
    let verdict = sym c.session_refusal.ensures ∙ c.in_default.is in
    let session = ap (λ (x : Tracked g.row.S.Denot). x.session) c.tracked.view_is in (
      c.args.tracked.now,
      record {
        found = found;
        refusal = verdict;
        units = c.in-Ok.ensures.planned live t (record { lawful = lawful; way_is = way; found = found; refusal = verdict });
        client = c.listed-client.ensures.count ∙ ap (λ (s : g.row.S.Denot). length (g.S.Session.rules.listed Client s)) session;
        server = c.listed-server.ensures.count ∙ ap (λ (s : g.row.S.Denot). length (g.S.Session.rules.listed Server s)) session;
      },
    )

pub returns-in-Err-OutOfMemory : goal.returns-in-Err-OutOfMemory
returns-in-Err-OutOfMemory g c = λ live t lawful way found.
    let on =
    c.in-Err-OutOfMemory.ensures.stopped live t
    (record { lawful = lawful; way_is = way; found = found; refusal = sym c.session_refusal.ensures ∙ c.in_default.is }) in
    subst (λ (stop : PlanStop). IsStopped {S = g.row.S.Denot} g.S.Session.rules live c.args.way.now.side c.args.segment.now.datagram.now stop)
    c.in-Err-OutOfMemory.field-0-is on
