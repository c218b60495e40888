use Rattle.std.proofs.Common.{◌≡◌, ◌∙◌, ap, subst, sym}
use Rattle.gate_base.specs.Prelude.{event_of}
use Rattle.gate_settings.specs.declared.settings.Settings.{Settings}
use Rattle.gate_model.specs.Prelude.{KeepsListed, next, World, at_moment}
use Rattle.gate_model.proofs.ListsWorld.{moment_lists, next_lists}
use Rattle.gate_sessions.specs.Compact.{CompactSession, compact_rules}
use Rattle.gate_sessions.proofs.Listing.{kept_have_lists}
use Rattle.gate_core.specs.Gates.{Gateway}
use Rattle.gate_core.specs.Memory.{GateMayWant}
use Rattle.gate_core.proofs.KeptLaws.{kept_laws}
use Rattle.gate_core.proofs.Lost.{wanted}
use Rattle.gate_core.proofs.Stepping.{stepped_by, put_is}
use Rattle.event_state.specs.Knowing.{world_in}
use Rattle.gate_base.proofs.Options.{on_err}
use Rattle.gate_core.proofs.gate.Gate.step.Goals as goal

pub take_frame-requires-clause-listed : goal.take_frame-requires-clause-listed
take_frame-requires-clause-listed c =
    subst (λ (x : World CompactSession). KeepsListed compact_rules x) (sym c.expire.ensures.live)
    (moment_lists compact_rules (world_in c.self.inside.state) (event_of c.args.event.now).moment c.self.invariant)

pub take_frame-requires-clause-laws : goal.take_frame-requires-clause-laws
take_frame-requires-clause-laws c = kept_laws

pub invariant_of-self : goal.invariant_of-self
invariant_of-self c =
    subst (λ (x : World CompactSession). KeepsListed compact_rules x) (sym (c.in_err-taken.ensures.same tt ∙ c.expire.ensures.live))
    (moment_lists compact_rules (world_in c.self.inside.state) (event_of c.args.event.now).moment c.self.invariant)

pub invariant_of-self-2 : goal.invariant_of-self-2
invariant_of-self-2 c =
    let e = event_of c.args.event.now in
    let w = c.args.self.now.world in
    let state : world_in c.self.inside.state ≡ w = ap (λ g. g.world) (c.self.view_is ∙ c.spread_keys.ensures) in
    let live : world_in c.expire.new.self ≡ at_moment w e.moment = c.expire.ensures.live ∙ ap (λ x. at_moment x e.moment) state in
    let s = stepped_by w (world_in c.expire.new.self) (world_in c.take_frame.new.self) e c.in_ok-taken.taken c.take_frame.new.outbox live
    c.in_ok-taken.ensures in
    subst (λ (x : World CompactSession). KeepsListed compact_rules x) (sym s.next_is)
    (next_lists compact_rules kept_have_lists w e (subst (λ (x : World CompactSession). KeepsListed compact_rules x) state c.self.invariant))

pub returns-clause-verdict : goal.returns-clause-verdict
returns-clause-verdict c =
    let e = event_of c.args.event.now in
    let w = c.args.self.now.world in
    let state : world_in c.self.inside.state ≡ w = ap (λ g. g.world) (c.self.view_is ∙ c.spread_keys.ensures) in
    let live : world_in c.expire.new.self ≡ at_moment w e.moment = c.expire.ensures.live ∙ ap (λ x. at_moment x e.moment) state in
    let s = stepped_by w (world_in c.expire.new.self) (world_in c.take_frame.new.self) e c.in_ok-taken.taken c.take_frame.new.outbox live
    c.in_ok-taken.ensures in
    c.verdict_of.ensures ∙ s.verdict_is

pub returns-clause-next : goal.returns-clause-next
returns-clause-next c =
    let e = event_of c.args.event.now in
    let w = c.args.self.now.world in
    let state : world_in c.self.inside.state ≡ w = ap (λ g. g.world) (c.self.view_is ∙ c.spread_keys.ensures) in
    let live : world_in c.expire.new.self ≡ at_moment w e.moment = c.expire.ensures.live ∙ ap (λ x. at_moment x e.moment) state in
    let s = stepped_by w (world_in c.expire.new.self) (world_in c.take_frame.new.self) e c.in_ok-taken.taken c.take_frame.new.outbox live
    c.in_ok-taken.ensures in
    let settings : c.self.inside.settings ≡ c.args.self.now.settings = ap (λ g. g.settings) (c.self.view_is ∙ c.spread_keys.ensures) in
    ap (λ (x : World CompactSession). let g : Gateway = record { settings = c.self.inside.settings; world = x } in g) s.next_is
    ∙ ap (λ (x : Settings). let g : Gateway = record { settings = x; world = next compact_rules w e } in g) settings

pub returns-clause-out : goal.returns-clause-out
returns-clause-out c =
    let e = event_of c.args.event.now in
    let w = c.args.self.now.world in
    let state : world_in c.self.inside.state ≡ w = ap (λ g. g.world) (c.self.view_is ∙ c.spread_keys.ensures) in
    let live : world_in c.expire.new.self ≡ at_moment w e.moment = c.expire.ensures.live ∙ ap (λ x. at_moment x e.moment) state in
    let s = stepped_by w (world_in c.expire.new.self) (world_in c.take_frame.new.self) e c.in_ok-taken.taken c.take_frame.new.outbox live
    c.in_ok-taken.ensures in
    sym (put_is c.in_ok-taken.taken c.take_frame.new.outbox) ∙ s.out_is

pub returns-in_err-taken-clause-wants : goal.returns-in_err-taken-clause-wants
returns-in_err-taken-clause-wants c =
    let e = event_of c.args.event.now in
    let w = c.args.self.now.world in
    let state : world_in c.self.inside.state ≡ w = ap (λ g. g.world) (c.self.view_is ∙ c.spread_keys.ensures) in
    let live : world_in c.expire.new.self ≡ at_moment w e.moment = c.expire.ensures.live ∙ ap (λ x. at_moment x e.moment) state in
    on_err c.from_residual.result (subst (λ (x : World CompactSession). GateMayWant x e) live (wanted _ e _ _ c.in_err-taken.ensures))

pub returns-in_err-taken-clause-memory : goal.returns-in_err-taken-clause-memory
returns-in_err-taken-clause-memory c =
    let e = event_of c.args.event.now in
    let w = c.args.self.now.world in
    let state : world_in c.self.inside.state ≡ w = ap (λ g. g.world) (c.self.view_is ∙ c.spread_keys.ensures) in
    let live : world_in c.expire.new.self ≡ at_moment w e.moment = c.expire.ensures.live ∙ ap (λ x. at_moment x e.moment) state in
    let settings : c.self.inside.settings ≡ c.args.self.now.settings = ap (λ g. g.settings) (c.self.view_is ∙ c.spread_keys.ensures) in
    let lost = c.in_err-taken.ensures in
    on_err c.from_residual.result (
      ap (λ (x : World CompactSession). let g : Gateway = record { settings = c.self.inside.settings; world = x } in g) (lost.same tt ∙ live)
          ∙ ap (λ (x : Settings). let g : Gateway = record { settings = x; world = at_moment w e.moment } in g) settings,
      lost.nothing tt,
    )
