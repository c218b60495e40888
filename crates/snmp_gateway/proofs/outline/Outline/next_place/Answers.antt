use Rattle.std.proofs.Common.{sym, ◌∙◌, arith}
use Rattle.gate_base.proofs.Options.{none_there}
use Rattle.snmp_gateway.proofs.Reading.{binding_leaves}
use Rattle.snmp_gateway.proofs.Walk.{walks_next, walks_found, walks_passes, walks_stop, stands_next}
use Rattle.snmp_gateway.proofs.outline.Outline.next_place.Goals as goal

pub returns-then-is_some-clause-ahead : goal.returns-then-is_some-clause-ahead
returns-then-is_some-clause-ahead c =
    walks_found c.args.octets.now c.args.self.now c.loop-address.self (c.in-Some-binding.address, c.in-Some-binding.rest) c.loop-address.invariant
    (sym c.binding.ensures ∙ c.in-Some-binding.is)

pub returns-then-is_some-clause-passes : goal.returns-then-is_some-clause-passes
returns-then-is_some-clause-passes c = λ place is.
    walks_passes c.args.octets.now c.args.self.now c.loop-address.self (c.in-Some-binding.address, c.in-Some-binding.rest) place
    c.loop-address.invariant (sym c.binding.ensures ∙ c.in-Some-binding.is) is

pub returns-then-is_some-clause-stands : goal.returns-then-is_some-clause-stands
returns-then-is_some-clause-stands c =
    stands_next c.args.octets.now c.args.self.now c.loop-address.self (c.in-Some-binding.address, c.in-Some-binding.rest) c.loop-address.invariant
    c.requires.stands (sym c.binding.ensures ∙ c.in-Some-binding.is)

pub loop-address-smaller : goal.loop-address-smaller
loop-address-smaller c =
    let leaves = binding_leaves c.args.octets.now c.loop-address.self.kind c.loop-address.self.bindings
    (c.in-Some-binding.address, c.in-Some-binding.rest) (sym c.binding.ensures ∙ c.in-Some-binding.is) in
    omega (arith, leaves.some, leaves.end, leaves.ordered)

pub loop-address-preserved : goal.loop-address-preserved
loop-address-preserved c =
    walks_next c.args.octets.now c.args.self.now c.loop-address.self (c.in-Some-binding.address, c.in-Some-binding.rest) c.loop-address.invariant
    (sym c.binding.ensures ∙ c.in-Some-binding.is) (none_there c.in-Some-binding.address (sym c.is_some.ensures ∙ c.if-is_some.false))

pub returns-clause-stops : goal.returns-clause-stops
returns-clause-stops c = λ none. walks_stop c.args.octets.now c.args.self.now c.loop-address.self c.loop-address.invariant
    (sym c.binding.ensures ∙ c.in_default-binding.is)
