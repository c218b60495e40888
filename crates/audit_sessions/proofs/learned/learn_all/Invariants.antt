use Rattle.std.proofs.Common.{◌≡◌, take}
use Rattle.audit_sessions.specs.Inside.Sessions.{with_entered}
use Rattle.audit_sessions.proofs.learned.learn_all.Given as goal

abbrev pub invariant-loop-one : goal.invariant-loop-one
invariant-loop-one l = l.session ≡ with_entered l.host (take l.one-index l.named) l.initial.session
