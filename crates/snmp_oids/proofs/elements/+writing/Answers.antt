use Rattle.std.proofs.Common.{◌+◌, ◌-◌, sym, arith, refl, ap, length}
use Rattle.snmp_oids.proofs.Tree.{wrote_first, wrote_next, wrote_last, wrote_size, wrote_within}
use Rattle.snmp_oids.proofs.elements.+writing.Goals as goal

pub put_elements-loop-element-init : goal.put_elements-loop-element-init
put_elements-loop-element-init g t c = wrote_first (g.L.Lookup.image_of c.args.lookup.now) c.args.rules.now c.args.place c.args.octets.now
    c.args.target.now

pub put_elements-put-requires : goal.put_elements-put-requires
put_elements-put-requires g t c = omega (arith, c.loop-element.invariant.room, c.loop-element.invariant.end_is)

pub put_elements-returns-clause-written : goal.put_elements-returns-clause-written
put_elements-returns-clause-written g t c =
    wrote_last (g.L.Lookup.image_of c.args.lookup.now) c.args.rules.now c.args.place c.args.octets.now c.args.target.now c.loop-element.target
    c.loop-element.end c.loop-element.rest.now c.put.new.target c.loop-element.invariant c.requires.room (sym c.in_default.ensures.value)
    c.put.ensures.written

pub put_elements-returns-clause-end : goal.put_elements-returns-clause-end
put_elements-returns-clause-end g t c =
    wrote_size (g.L.Lookup.image_of c.args.lookup.now) c.args.rules.now c.args.place c.args.octets.now c.args.target.now c.loop-element.target
    c.loop-element.end c.loop-element.rest.now c.put.result c.loop-element.invariant (sym c.in_default.ensures.value) c.put.ensures.end

pub put_elements-returns-clause-within : goal.put_elements-returns-clause-within
put_elements-returns-clause-within g t c =
    wrote_within (g.L.Lookup.image_of c.args.lookup.now) c.args.rules.now c.args.place c.args.octets.now c.args.target.now c.loop-element.target
    c.loop-element.end c.loop-element.rest.now c.put.result c.loop-element.invariant c.put.ensures.end

pub put_elements-loop-element-preserved : goal.put_elements-loop-element-preserved
put_elements-loop-element-preserved g t c =
    let size = ap length c.content-old.ensures in
    wrote_next (g.L.Lookup.image_of c.args.lookup.now) c.args.rules.now c.args.place c.args.octets.now c.args.target.now c.loop-element.target
    c.loop-element.end c.loop-element.rest.now c.in-Some.element c.in-Some.more.now c.content-old.result.now c.put_content.new.target
    c.put_before-end.new.target (c.loop-element.end + 2) (c.put_content.result - (c.loop-element.end + 2)) c.put_before-end.result
    c.loop-element.invariant c.requires.room (omega (arith, c.requires.room))
    c.in-Some.ensures.value c.in-Some.ensures.size c.content-old.ensures refl c.put_content.ensures.written (omega (arith, c.put_content.ensures.end))
    (omega (arith, c.put_content.ensures.within)) c.put_before-end.ensures.written c.put_before-end.ensures.end
