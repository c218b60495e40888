use Rattle.std.proofs.Common.{subst, sym, ◌∙◌}
use Rattle.gate_base.specs.declared.host.Host.{Host}
use Rattle.audit_sessions.specs.Inside.Sessions.{IsListedSide}
use Rattle.audit_sessions.proofs.LearnedSessions.{known_already, newly_known}
use Rattle.audit_sessions.proofs.learned.learn_one.Goals as goal

pub returns-then-knows : goal.returns-then-knows
returns-then-knows c = known_already c.args.host c.args.session.now c.args.one (sym c.knows.ensures ∙ c.if-knows.true)

pub learn-requires-clause-client_known : goal.learn-requires-clause-client_known
learn-requires-clause-client_known c = λ is. subst (λ (b : Host). IsListedSide b c.args.session.now) is c.requires.listed

pub learn-requires-clause-server_known : goal.learn-requires-clause-server_known
learn-requires-clause-server_known c = λ is. subst (λ (b : Host). IsListedSide b c.args.session.now) is c.requires.listed

pub returns : goal.returns
returns c =
    newly_known c.args.host c.args.session.now c.learn.new.self c.args.one
    (sym c.knows.ensures ∙ c.if-knows.false) c.learn.ensures.entries c.learn.ensures.client_heard c.learn.ensures.server_heard
    c.learn.ensures.server c.learn.ensures.client
