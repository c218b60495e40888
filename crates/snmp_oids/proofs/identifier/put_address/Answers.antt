use Rattle.std.proofs.Common.{◌∙◌, ap, List, ℕ, [], ◌++◌, get_or, length, arith}
use Rattle.snmp_oids.specs.Identifier.{arc_octets}
use Rattle.snmp_oids.specs.Inside.Written.{with_octets}
use Rattle.snmp_oids.proofs.Writing.{four_written}
use Rattle.snmp_oids.proofs.identifier.put_address.Goals as goal

pub returns-clause-written : goal.returns-clause-written
returns-clause-written c =
    let arcs = λ (r : List ℕ). arc_octets (get_or r 0 0)
    ++ (arc_octets (get_or r 1 0) ++ (arc_octets (get_or r 2 0) ++ (arc_octets (get_or r 3 0) ++ []))) in
    four_written c.args.place c.put_arc-place.result c.put_arc-place-2.result c.put_arc-place-3.result _ _ _ _ c.args.target.now
    c.put_arc-place.new.target c.put_arc-place-2.new.target c.put_arc-place-3.new.target c.put_arc.new.target
    (omega (arith, c.requires, ap (λ (r : List ℕ). length (arcs r)) c.to_be_bytes.ensures)) c.put_arc-place.ensures.written
    c.put_arc-place.ensures.end c.put_arc-place-2.ensures.written c.put_arc-place-2.ensures.end c.put_arc-place-3.ensures.written
    c.put_arc-place-3.ensures.end c.put_arc.ensures.written
    ∙ ap (λ (r : List ℕ). with_octets c.args.place (arcs r) c.args.target.now) c.to_be_bytes.ensures
