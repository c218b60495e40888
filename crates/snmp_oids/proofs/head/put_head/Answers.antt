use Rattle.std.proofs.Common.{ℕ, ◌∙◌, ap, sym, List, length, take, arith, length-append}
use Rattle.snmp_oids.specs.Elements.{shortest}
use Rattle.snmp_oids.specs.Inside.Written.{with_octets}
use Rattle.snmp_oids.proofs.Writing.{written_after, head_other}
use Rattle.snmp_oids.proofs.head.put_head.Goals as goal

pub returns-clause-written : goal.returns-clause-written
returns-clause-written c =
    let head_is = head_other c.args.head.now c.args.old c.args.new c.if-new-old.false in
    written_after c.args.place c.put-place.result (take 1 c.args.head.now) (shortest c.args.new) c.args.target.now c.put-place.new.target
    c.put_shortest.new.target c.put-place.ensures.end
    (omega (arith, length-append (take 1 c.args.head.now) (shortest c.args.new), ap length head_is, c.requires.room)) c.put-place.ensures.written
    c.put_shortest.ensures.written
    ∙ ap (λ (xs : List ℕ). with_octets c.args.place xs c.args.target.now) (sym head_is)
