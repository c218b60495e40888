use Rattle.std.proofs.Common.{◌∙◌, sym, ap, List, ℕ, drop, option_and_then}
use Rattle.snmp_oids.specs.Arcs.{arcs_of, address_of}
use Rattle.snmp_oids.proofs.SubIdentifiers.{all_of}
use Rattle.snmp_oids.proofs.Places.{behind, behind_some}
use Rattle.snmp_oids.proofs.identifier.address_behind.Goals as goal

pub address_of-requires : goal.address_of-requires
address_of-requires c = behind_some c.args.content.now _ c.place_behind-start.result (sym c.has_arcs.ensures ∙ c.if-not-has_arcs.false)
    c.place_behind-start.ensures.value

pub returns : goal.returns
returns c =
    let some = sym c.has_arcs.ensures ∙ c.if-not-has_arcs.false in
    let found = behind c.args.content.now c.args.before c.place_behind-start.result some c.requires c.place_behind-start.ensures.value in
    c.address_of.ensures ∙ ap address_of found.numbers_are
    ∙ sym (ap (option_and_then (λ (arcs : List ℕ). address_of (drop c.args.before arcs))) (all_of (arcs_of c.args.content.now) some))
