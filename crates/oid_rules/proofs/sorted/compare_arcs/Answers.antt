use Rattle.std.proofs.Common.{◌∙◌, ◌<◌, drop, length, length-drop, arith}
use Rattle.oid_rules.proofs.Prefixes.{none_before}
use Rattle.oid_rules.proofs.sorted.compare_arcs.Goals as goal

pub returns-in_default : goal.returns-in_default
returns-in_default c =
    let more : 0 < length (drop c.loop-arc.arc-index c.args.prefix.now) = omega (arith, length-drop c.loop-arc.arc-index c.args.prefix.now) in
    none_before c.loop-arc.rest.now (drop c.loop-arc.arc-index c.args.prefix.now) c.in_default.ensures.cases more ∙ c.loop-arc.invariant
