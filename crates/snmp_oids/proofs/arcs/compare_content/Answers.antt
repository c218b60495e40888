use Rattle.std.proofs.Common.{ap, arith, unwrap_or, option_map, Option, List, ℕ, []}
use Rattle.snmp_oids.specs.Arcs.{arcs_for}
use Rattle.snmp_oids.proofs.Named.{ended_before}
use Rattle.snmp_oids.proofs.Places.{numbers_some}
use Rattle.snmp_oids.proofs.arcs.compare_content.Goals as goal

pub returns-in_default : goal.returns-in_default
returns-in_default c = λ some.
    let none = c.in_default.ensures.none (numbers_some c.args.content.now some) in
    ended_before _ c.args.prefix.now (ap (λ (o : Option (List ℕ)). unwrap_or (option_map arcs_for o) []) none) (omega arith)
