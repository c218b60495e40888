use Rattle.std.proofs.Common.{◌≡◌, false, refl, ap, subst, sym, ◌∙◌}
use Rattle.gate_base.specs.Prelude.{event_of}
use Rattle.verdicts.specs.Prelude.{first_that_holds}
use Rattle.gate_model.specs.Prelude.{datagram_in, kind_of, KeepsListed, world_as, tests, World, at_moment}
use Rattle.gate_model.proofs.ListsWorld.{moment_lists, next_lists}
use Rattle.lawful_files.specs.Prelude.{IsSound, begun, Wanted}
use Rattle.lawful_files.proofs.SoundWanted.{wanted_sound}
use Rattle.audit_records.specs.Kept.{Expecting}
use Rattle.audit_sessions.specs.Heard.{HeardSession, heard_rules, session_in}
use Rattle.audit_sessions.proofs.HeardLaws.{heard_lists}
use Rattle.gate_audit.specs.Auditing.{Auditing}
use Rattle.audit_sessions.specs.Gives.{heard_gives}
use Rattle.event_state.specs.Given.{IsGiven}
use Rattle.event_state.specs.Knowing.{world_in}
use Rattle.event_state.specs.Lost.{IsLost, early_tests}
use Rattle.gate_base.proofs.Options.{on_err}
use Rattle.gate_audit.proofs.LostEvents.{wanted}
use Rattle.gate_audit.proofs.ExpectedEvents.{expected}
use Rattle.gate_audit.proofs.Laws.{heard_laws}
use Rattle.gate_audit.proofs.WholeGiven.{is_whole}
use Rattle.gate_audit.proofs.auditor.Auditor.expect.Goals as goal

pub take_frame-requires-clause-listed : goal.take_frame-requires-clause-listed
take_frame-requires-clause-listed c =
    let kept : c.self.inside.lost ≡ false = ap (λ (a : Auditing). a.lost) c.self.view_is ∙ c.requires.kept in
    subst (λ (x : World HeardSession). KeepsListed heard_rules x) (sym c.expire.ensures.live)
    (moment_lists heard_rules (world_in c.self.inside.state) (event_of c.args.event.now).moment (c.self.invariant.1 kept))

pub take_frame-requires-clause-laws : goal.take_frame-requires-clause-laws
take_frame-requires-clause-laws c = heard_laws

pub want-verdict-requires : goal.want-verdict-requires
want-verdict-requires c =
    let e = event_of c.args.event.now in
    let live = world_in c.expire.new.self in
    is_whole (first_that_holds (tests heard_rules live e)) (kind_of (datagram_in e)) live e.side (datagram_in e) c.in_ok-taken.taken
    (world_in c.take_frame.new.self) c.take_frame.new.outbox c.in_ok-taken.ensures

pub invariant_of-self-2 : goal.invariant_of-self-2
invariant_of-self-2 c =
    let e = event_of c.args.event.now in
    let w = c.args.self.now.world in
    let kept : c.self.inside.lost ≡ false = ap (λ (a : Auditing). a.lost) c.self.view_is ∙ c.requires.kept in
    let state : world_in c.self.inside.state ≡ w = ap (λ (a : Auditing). a.world) c.self.view_is in
    let live : world_in c.expire.new.self ≡ at_moment w e.moment = c.expire.ensures.live
    ∙ ap (λ (x : World HeardSession). at_moment x e.moment) state in
    let s = expected w e c.in_ok-taken.taken (world_in c.take_frame.new.self) c.take_frame.new.outbox
    (subst (λ (x : World HeardSession). IsGiven heard_rules heard_gives (first_that_holds (tests heard_rules x e)) (kind_of (datagram_in e)) x
    e.side (datagram_in e) c.in_ok-taken.taken (world_in c.take_frame.new.self) c.take_frame.new.outbox) live c.in_ok-taken.ensures) in
    let old = subst (λ (x : World HeardSession). KeepsListed heard_rules x) state (c.self.invariant.1 kept) in
    let new = subst (λ (x : World HeardSession). KeepsListed heard_rules x) (sym s.kept_is) (next_lists heard_rules heard_lists w e old) in
    (c.self.invariant.0, λ lost. new)

pub returns-clause-verdict : goal.returns-clause-verdict
returns-clause-verdict c =
    let e = event_of c.args.event.now in
    let w = c.args.self.now.world in
    let state : world_in c.self.inside.state ≡ w = ap (λ (a : Auditing). a.world) c.self.view_is in
    let live : world_in c.expire.new.self ≡ at_moment w e.moment = c.expire.ensures.live
    ∙ ap (λ (x : World HeardSession). at_moment x e.moment) state in
    let s = expected w e c.in_ok-taken.taken (world_in c.take_frame.new.self) c.take_frame.new.outbox
    (subst (λ (x : World HeardSession). IsGiven heard_rules heard_gives (first_that_holds (tests heard_rules x e)) (kind_of (datagram_in e)) x
    e.side (datagram_in e) c.in_ok-taken.taken (world_in c.take_frame.new.self) c.take_frame.new.outbox) live c.in_ok-taken.ensures) in
    c.want-verdict.ensures.verdict ∙ s.verdict_is

pub returns-clause-next : goal.returns-clause-next
returns-clause-next c =
    let e = event_of c.args.event.now in
    let w = c.args.self.now.world in
    let state : world_in c.self.inside.state ≡ w = ap (λ (a : Auditing). a.world) c.self.view_is in
    let live : world_in c.expire.new.self ≡ at_moment w e.moment = c.expire.ensures.live
    ∙ ap (λ (x : World HeardSession). at_moment x e.moment) state in
    let s = expected w e c.in_ok-taken.taken (world_in c.take_frame.new.self) c.take_frame.new.outbox
    (subst (λ (x : World HeardSession). IsGiven heard_rules heard_gives (first_that_holds (tests heard_rules x e)) (kind_of (datagram_in e)) x
    e.side (datagram_in e) c.in_ok-taken.taken (world_in c.take_frame.new.self) c.take_frame.new.outbox) live c.in_ok-taken.ensures) in
    let expecting : c.want-verdict.new.expected ≡ _ = c.want-verdict.ensures.wanted
    ∙ ap (λ (x : Wanted). let y : Expecting = record { side = e.side; moment = e.moment; wanted = x; so_far = begun } in y) s.wanted_is in
    record {
      settings = ap (λ (a : Auditing). a.settings) c.self.view_is;
      world = s.next_is;
      expecting = expecting;
      sound = subst IsSound (sym (ap (λ (y : Expecting). y.wanted) expecting)) (wanted_sound (world_as session_in w) e c.are_octets.ensures);
      kept = refl;
    }

pub returns-in_err-taken-clause-wants : goal.returns-in_err-taken-clause-wants
returns-in_err-taken-clause-wants c =
    let e = event_of c.args.event.now in
    let w = c.args.self.now.world in
    let state : world_in c.self.inside.state ≡ w = ap (λ (a : Auditing). a.world) c.self.view_is in
    let live : world_in c.expire.new.self ≡ at_moment w e.moment = c.expire.ensures.live
    ∙ ap (λ (x : World HeardSession). at_moment x e.moment) state in
    on_err c.from_residual.result
    (wanted w e _ _
    (subst (λ (x : World HeardSession). IsLost heard_rules heard_gives (first_that_holds (early_tests x e)) (kind_of (datagram_in e)) x e.side
    (datagram_in e) (world_in c.take_frame.new.self) c.take_frame.new.outbox) live c.in_err-taken.ensures))
