use Rattle.std.proofs.Common.{◌≡◌, ◌≤◌, List, length, ap, subst, sym, ◌∙◌, IfOk, Option}
use Rattle.gate_base.specs.declared.address.Addr.{Addr}
use Rattle.dialogue.specs.Prelude.{Entry, AreImages}
use Rattle.dns_stream.specs.Prelude.{dns_units}
use Rattle.audit_streams.specs.Sending.{Handed, handed}
use Rattle.stream_model.specs.Prelude.{segment_in, Session, segment_refusal}
use Rattle.dns_plans.specs.Prelude.{entered_all}
use Rattle.audit_sessions.specs.Heard.{HeardSession, IsSession, heard_rules, heard_sent}
use Rattle.audit_sessions.specs.Inside.Sessions.{session_by, dns_session, IsOfPair}
use Rattle.audit_sessions.specs.declared.kinds.SessionKind.{SessionKind}
use Rattle.audit_sessions.proofs.LearnedSessions.{AreNamed, next_units, sent_units, units_stay}
use Rattle.audit_sessions.proofs.SeenSessions.{lines_seen, units_seen, ftp_session, next_seen, sent_seen, lines_hold, few_seen, side_in, listed_in}
use Rattle.audit_sessions.proofs.session.AuditedSession.step.Goals as goal

pub step-requires : goal.step-requires
step-requires c = record {
  passes =
      ap (λ (s : Session). segment_refusal c.args.from s (segment_in c.args.segment.now))
      (lines_seen c.self.inside.pair c.self.inside.kind c.in-Lines.session c.args.self.now c.in-Lines.is c.self.invariant.0 c.self.view_is)
      ∙ c.requires.passes;
}

pub invariant_of-self : goal.invariant_of-self
invariant_of-self c =
    let pairs = subst (IsOfPair c.self.inside.pair) c.in-Lines.is c.self.invariant.0 in (
      (ap (λ d. d.pair) c.step.ensures.client ∙ pairs.0, ap (λ d. d.pair) c.step.ensures.server ∙ pairs.1),
      lines_hold c.self.inside.pair c.step.new.self,
    )

pub returns-in-Lines-clause-next : goal.returns-in-Lines-clause-next
returns-in-Lines-clause-next c = λ image e.
    let pair = c.self.inside.pair in
    let seen : ftp_session pair c.in-Lines.session ≡ c.args.self.now = ap (session_by pair) (sym c.in-Lines.is) ∙ c.self.view_is in
    next_seen c.step.result image pair c.in-Lines.session c.step.new.self c.args.self.now c.args.from (segment_in c.args.segment.now) seen
    (subst (IsOfPair pair) c.in-Lines.is c.self.invariant.0) c.step.ensures.next

pub returns-in-Lines-clause-sent : goal.returns-in-Lines-clause-sent
returns-in-Lines-clause-sent c = λ image e.
    let pair = c.self.inside.pair in
    let seen : ftp_session pair c.in-Lines.session ≡ c.args.self.now = ap (session_by pair) (sym c.in-Lines.is) ∙ c.self.view_is in
    subst (λ (x : Handed). IfOk c.step.result (λ s. s ≡ x))
    (sent_seen image pair c.in-Lines.session c.args.self.now c.args.from (segment_in c.args.segment.now) seen
    (subst (IsOfPair pair) c.in-Lines.is c.self.invariant.0)) c.step.ensures.sent

pub step_units-requires-clause-few : goal.step_units-requires-clause-few
step_units-requires-clause-few c =
    let pair = c.self.inside.pair in
    let seen : dns_session pair c.in-Units.session ≡ c.args.self.now = ap (session_by pair) (sym c.in-Units.is) ∙ c.self.view_is in
    few_seen pair c.in-Units.session c.args.self.now c.args.from c.args.completed.entries.now seen c.requires.few

pub step_units-requires-clause-images : goal.step_units-requires-clause-images
step_units-requires-clause-images c =
    let pair = c.self.inside.pair in
    let f = c.args.from in
    let seen : dns_session pair c.in-Units.session ≡ c.args.self.now = ap (session_by pair) (sym c.in-Units.is) ∙ c.self.view_is in
    subst (λ (xs : List Entry). AreImages (dns_units (entered_all xs c.args.completed.entries.now)) c.args.completed.images.items)
    (ap (heard_rules.listed f) (sym seen) ∙ listed_in f pair c.in-Units.session) c.requires.images

pub step_units-requires-clause-listed : goal.step_units-requires-clause-listed
step_units-requires-clause-listed c =
    side_in c.self.inside.pair c.in-Units.session c.args.from
    (subst (λ (x : SessionKind). IsSession (session_by c.self.inside.pair x)) c.in-Units.is c.self.invariant.1)

pub step_units-requires-clause-passes : goal.step_units-requires-clause-passes
step_units-requires-clause-passes c =
    ap (λ (s : Session). segment_refusal c.args.from s (segment_in c.args.segment.now))
    (units_seen c.self.inside.pair c.self.inside.kind c.in-Units.session c.args.self.now c.in-Units.is c.self.view_is)
    ∙ c.requires.passes

pub invariant_of-self-in-Ok : goal.invariant_of-self-in-Ok
invariant_of-self-in-Ok c =
    let pair = c.self.inside.pair in
    let f = c.args.from in
    let g = segment_in c.args.segment.now in
    let entries = c.args.completed.entries.now in
    let seen : dns_session pair c.in-Units.session ≡ c.args.self.now = ap (session_by pair) (sym c.in-Units.is) ∙ c.self.view_is in
    let named = subst (λ (h : HeardSession). (image : Addr → Option Addr) × AreNamed image f h g entries) (sym seen) c.requires.named in
    let few = subst (λ (h : HeardSession). length (entered_all (heard_rules.listed f h) entries) ≤ 256) (sym seen) c.requires.few in (
      tt,
      units_stay pair c.in-Units.session c.step_units.new.session f g entries
          (subst (λ (x : SessionKind). IsSession (session_by pair x)) c.in-Units.is c.self.invariant.1) named few c.in-Ok.ensures.next,
    )

pub returns-in-Ok-clause-next : goal.returns-in-Ok-clause-next
returns-in-Ok-clause-next c = λ image e.
    let pair = c.self.inside.pair in
    let f = c.args.from in
    let g = segment_in c.args.segment.now in
    let seen : dns_session pair c.in-Units.session ≡ c.args.self.now = ap (session_by pair) (sym c.in-Units.is) ∙ c.self.view_is in
    next_units image pair c.in-Units.session c.step_units.new.session f g c.args.completed.entries.now
    (subst (λ (h : HeardSession). AreNamed image f h g c.args.completed.entries.now) (sym seen) e) c.in-Ok.ensures.next
    ∙ ap (λ (h : HeardSession). heard_rules.next image f h g) seen

pub returns-in-Ok-clause-sent : goal.returns-in-Ok-clause-sent
returns-in-Ok-clause-sent c = λ image e.
    let pair = c.self.inside.pair in
    let f = c.args.from in
    let g = segment_in c.args.segment.now in
    let seen : dns_session pair c.in-Units.session ≡ c.args.self.now = ap (session_by pair) (sym c.in-Units.is) ∙ c.self.view_is in
    c.in-Ok.ensures.sent
    ∙ sent_units image pair c.in-Units.session f g c.args.completed.entries.now
    (subst (λ (h : HeardSession). AreNamed image f h g c.args.completed.entries.now) (sym seen) e)
    ∙ ap (λ (h : HeardSession). handed (heard_sent image f h g) (heard_rules.ends f h g)) seen
