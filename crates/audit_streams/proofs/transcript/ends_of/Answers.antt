use Rattle.std.proofs.Common.{◌∙◌}
use Rattle.audit_streams.specs.declared.transcript.ChangedUnit.{ChangedUnit}
use Rattle.audit_streams.proofs.Places.{last_is}
use Rattle.audit_streams.proofs.transcript.ends_of.Goals as goal

pub returns-in-Some-clause-past : goal.returns-in-Some-clause-past
returns-in-Some-clause-past c = c.from.ensures ∙ last_is (λ (u : ChangedUnit). u.past) c.args.units.now c.in-Some.unit.now 0 c.in-Some.ensures.value

pub returns-in-Some-clause-end : goal.returns-in-Some-clause-end
returns-in-Some-clause-end c = c.from-in-Some.ensures
    ∙ last_is (λ (u : ChangedUnit). u.end) c.args.units.now c.in-Some.unit.now 0 c.in-Some.ensures.value
