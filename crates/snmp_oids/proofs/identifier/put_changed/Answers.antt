use Rattle.std.proofs.Common.{◌∙◌, ap, ◌++◌, List, ℕ, take, drop, arith, length-append}
use Rattle.std.proofs.lemmas.List.{take_rest}
use Rattle.snmp_oids.specs.Identifier.{address_octets}
use Rattle.snmp_oids.specs.Inside.Written.{with_octets}
use Rattle.snmp_oids.proofs.Writing.{written_after}
use Rattle.snmp_oids.proofs.identifier.put_changed.Goals as goal

pub returns-clause-written : goal.returns-clause-written
returns-clause-written c =
    let content = c.args.content.now in
    let change = c.args.change in
    let front = take change.start content in
    let middle = address_octets change.address.0 in
    let sizes = length-append (front ++ middle) (drop change.end content) in
    let front_sizes = length-append front middle in
    let first = written_after c.args.place c.put-place.result front middle c.args.target.now c.put-place.new.target c.put_address-place.new.target
    c.put-place.ensures.end (omega arith) c.put-place.ensures.written c.put_address-place.ensures.written in
    written_after c.args.place c.put_address-place.result (front ++ middle) (drop change.end content) c.args.target.now c.put_address-place.new.target
    c.put.new.target
    (omega (arith, c.put-place.ensures.end, c.put_address-place.ensures.end)) (omega arith) first
    (c.put.ensures.written ∙ ap (λ (xs : List ℕ). with_octets c.put_address-place.result xs c.put_address-place.new.target)
    (take_rest content change.end))
