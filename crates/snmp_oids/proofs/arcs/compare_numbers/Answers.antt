use Rattle.std.proofs.Common.{◌<◌, ◌∙◌, drop, length, length-drop, arith}
use Rattle.snmp_oids.proofs.Named.{ended_before}
use Rattle.snmp_oids.proofs.SubIdentifiers.{none_left}
use Rattle.snmp_oids.proofs.arcs.compare_numbers.Goals as goal

pub returns-in_default : goal.returns-in_default
returns-in_default c = λ some.
    let h = c.loop-number.invariant some in
    let left : 0 < length (drop c.loop-number.number-index c.args.numbers.now) =
    omega (arith, length-drop c.loop-number.number-index c.args.numbers.now) in
    ended_before _ _ (none_left _ (c.in_default.ensures.none h.some)) left ∙ h.same
