use Rattle.std.proofs.Common.{◌≡◌, ◌∙◌, [], ◌∷◌, Err, ap, sym, subst, refl}
use Rattle.verdicts.specs.Prelude.{first_that_holds}
use Rattle.gate_base.proofs.Options.{none_there}
use Rattle.verdicts.specs.declared.refusal.Refusal.TheVariants.{PoolEmpty}
use Rattle.binding_table.specs.Prelude.{Bindings}
use Rattle.gate_model.proofs.ListsKept.{uses_are}
use Rattle.gate_model.specs.Prelude.{addresses_in, uses_until, Tracked, host_on}
use Rattle.stream_model.specs.Prelude.{segment_in}
use Rattle.dns_plans.proofs.NamedLemmas.{units-none}
use Rattle.dns_plans.specs.Prelude.{whole_units, all_addresses, called_after, beside, plan_tests, AreBound, IsListBound, TellsFirst}
use Rattle.event_segments.specs.Prelude.{IsStopped}
use Rattle.event_segments.proofs.UnitsJudged.{ready_is, way_ends, none_stopped, none_planned, some_planned, is_stopped, by_ok, by_err}
use Rattle.event_segments.proofs.UnitsUsed.{until_of}
use Rattle.event_segments.proofs.connection.plan_session.Goals as goal

pub returns-then-is_none-clause-planned : goal.returns-then-is_none-clause-planned
returns-then-is_none-clause-planned g c = λ live same on.
    let way = c.args.way.now in
    let d = c.args.segment.now.datagram.now in
    let t = c.args.tracked.now in
    let session = ap (λ (x : Tracked g.row.S.Denot). x.session) c.tracked.view_is in
    let octets = c.put_octets.new.octets in
    let ready =
    ready_is g.S.Session.rules live d way t c.host_on-from.result c.tracked.inside.session
    (segment_in c.args.segment.now.tcp.now) octets _ c.host_on-from.ensures session
    (ap segment_in c.requires.segment) c.put_octets.ensures refl
    (subst (λ (b : Bindings). AreBound b way.side (way.source ∷ way.destination ∷ [])) (sym same) c.requires.header)
    (subst (λ (b : Bindings). IsListBound b way.side (g.S.Session.rules.listed (host_on way.side t) t.session)) (sym same) c.requires.listed)
    c.requires.few on in
    let none : whole_units octets ≡ [] = ap whole_units (sym c.octets.ensures)
    ∙ units-none c.octets.result.now (sym c.unit_end.ensures ∙ none_there c.unit_end.result c.if-is_none.ensures) in
    by_ok c.no_units.result
    (λ plan k. none_planned g.S.Session.rules live way.side d way t octets (way_ends way) _ plan ready none k.0 k.1.0 k.1.1.0 k.1.1.1)
    c.no_units.ensures.planned

pub returns-then-is_none-clause-stopped : goal.returns-then-is_none-clause-stopped
returns-then-is_none-clause-stopped g c = λ live same on.
    let way = c.args.way.now in
    let d = c.args.segment.now.datagram.now in
    let t = c.args.tracked.now in
    let session = ap (λ (x : Tracked g.row.S.Denot). x.session) c.tracked.view_is in
    let octets = c.put_octets.new.octets in
    let ready =
    ready_is g.S.Session.rules live d way t c.host_on-from.result c.tracked.inside.session
    (segment_in c.args.segment.now.tcp.now) octets _ c.host_on-from.ensures session
    (ap segment_in c.requires.segment) c.put_octets.ensures refl
    (subst (λ (b : Bindings). AreBound b way.side (way.source ∷ way.destination ∷ [])) (sym same) c.requires.header)
    (subst (λ (b : Bindings). IsListBound b way.side (g.S.Session.rules.listed (host_on way.side t) t.session)) (sym same) c.requires.listed)
    c.requires.few on in
    let none : whole_units octets ≡ [] = ap whole_units (sym c.octets.ensures)
    ∙ units-none c.octets.result.now (sym c.unit_end.ensures ∙ none_there c.unit_end.result c.if-is_none.ensures) in
    by_err c.no_units.result
    (λ stop e k. subst (IsStopped g.S.Session.rules live way.side d) (sym k.1)
    (none_stopped g.S.Session.rules live way.side d way t octets ready.on ready.units none ready.few
    ∙ ap (λ b. first_that_holds ((b, PoolEmpty) ∷ [])) k.0)) c.no_units.ensures.stopped

pub returns-clause-planned : goal.returns-clause-planned
returns-clause-planned g c = λ live same on.
    let way = c.args.way.now in
    let d = c.args.segment.now.datagram.now in
    let t = c.args.tracked.now in
    let session = ap (λ (x : Tracked g.row.S.Denot). x.session) c.tracked.view_is in
    let octets = c.octets-2.result.now in
    let es = g.S.Session.rules.listed c.host_on-from.result c.tracked.inside.session in
    let ready =
    ready_is g.S.Session.rules live d way t c.host_on-from.result c.tracked.inside.session
    (segment_in c.args.segment.now.tcp.now) octets es c.host_on-from.ensures session (ap segment_in c.requires.segment)
    (ap whole_units c.octets-2.ensures ∙ c.put_octets.ensures) refl
    (subst (λ (b : Bindings). AreBound b way.side (way.source ∷ way.destination ∷ [])) (sym same) c.requires.header)
    (subst (λ (b : Bindings). IsListBound b way.side (g.S.Session.rules.listed (host_on way.side t) t.session)) (sym same) c.requires.listed)
    c.requires.few on in
    let ends = way_ends way in
    let uses = uses_until way.side (until_of g.S.Session.rules live way.side d) (all_addresses ends (addresses_in (whole_units octets))) in
    let are = uses_are way.side (until_of g.S.Session.rules live way.side d) (all_addresses ends (addresses_in (whole_units octets))) in
    by_ok c.plan_units.result
    (λ plan is. some_planned g.S.Session.rules live way.side d way t octets ends es plan ready
    (ap (λ (b : Bindings). first_that_holds (plan_tests b (called_after b uses way.side) ends es octets)) same ∙ is.passes uses are) is.named
    (is.entries uses are ∙ ap (λ (b : Bindings). beside (called_after b uses way.side) (addresses_in (whole_units octets))) (sym same)) is.images)
    c.plan_units.ensures.planned

pub returns-clause-stopped : goal.returns-clause-stopped
returns-clause-stopped g c = λ live same on.
    let way = c.args.way.now in
    let d = c.args.segment.now.datagram.now in
    let t = c.args.tracked.now in
    let session = ap (λ (x : Tracked g.row.S.Denot). x.session) c.tracked.view_is in
    let octets = c.octets-2.result.now in
    let es = g.S.Session.rules.listed c.host_on-from.result c.tracked.inside.session in
    let ready =
    ready_is g.S.Session.rules live d way t c.host_on-from.result c.tracked.inside.session
    (segment_in c.args.segment.now.tcp.now) octets es c.host_on-from.ensures session (ap segment_in c.requires.segment)
    (ap whole_units c.octets-2.ensures ∙ c.put_octets.ensures) refl
    (subst (λ (b : Bindings). AreBound b way.side (way.source ∷ way.destination ∷ [])) (sym same) c.requires.header)
    (subst (λ (b : Bindings). IsListBound b way.side (g.S.Session.rules.listed (host_on way.side t) t.session)) (sym same) c.requires.listed)
    c.requires.few on in
    let ends = way_ends way in
    let uses = uses_until way.side (until_of g.S.Session.rules live way.side d) (all_addresses ends (addresses_in (whole_units octets))) in
    let are = uses_are way.side (until_of g.S.Session.rules live way.side d) (all_addresses ends (addresses_in (whole_units octets))) in
    by_err c.plan_units.result (λ stop e first. is_stopped g.S.Session.rules live way.side d way t octets ends es stop ready
    (subst (λ (b : Bindings). TellsFirst (first_that_holds (plan_tests b (called_after b uses way.side) ends es octets)) stop) (sym same)
    (first uses are)) (λ lost. c.plan_units.ensures.memory (e ∙ ap Err lost)))
    c.plan_units.ensures.stopped
