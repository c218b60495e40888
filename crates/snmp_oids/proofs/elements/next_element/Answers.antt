use Rattle.std.proofs.Common.{w8}
use Rattle.std.proofs.Math.Facts.{Fits-lt-pow}
use Rattle.snmp_oids.proofs.Tree.{if_small}
use Rattle.snmp_oids.proofs.elements.next_element.Goals as goal

pub returns-clause-small : goal.returns-clause-small
returns-clause-small c = if_small (λ p. (p.0, p.1.now)) c.of.result c.args.octets.now (λ k. Fits-lt-pow {w = w8} (c.type_inv.octets k))
    c.of.ensures.value
