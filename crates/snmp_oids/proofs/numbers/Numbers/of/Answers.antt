use Rattle.std.proofs.Common.{◌∙◌, sym}
use Rattle.snmp_oids.proofs.Small.{four_behind}
use Rattle.snmp_oids.proofs.numbers.Numbers.of.Goals as goal

pub returns-then-has_arcs-clause-same : goal.returns-then-has_arcs-clause-same
returns-then-has_arcs-clause-same c = λ place least most. four_behind c.args.content.now _ place
    (sym c.has_arcs.ensures ∙ c.if-has_arcs.true) c.small_numbers.ensures least most
