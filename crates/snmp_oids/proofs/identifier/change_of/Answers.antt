use Rattle.std.proofs.Common.{arith, sym, ap, ◌∙◌, ℕ, option_map, length, length-drop}
use Rattle.std.proofs.lemmas.List.{take_rest}
use Rattle.gate_base.specs.declared.address.Addr.{Addr}
use Rattle.snmp_oids.proofs.Places.{found_in, four}
use Rattle.snmp_oids.proofs.identifier.change_of.Goals as goal

pub overflow_sub-before : goal.overflow_sub-before
overflow_sub-before g c =
    let found = found_in c.args.rules.now c.args.content.now (c.in_ok-before.before, c.in_ok-before.address.0) c.requires
    (sym c.named_in.ensures.value ∙ ap (option_map (λ (p : ℕ × Addr). (p.0, p.1.0))) c.in_ok-before.was) in
    let two = found.stands.two in
    omega arith

pub returns-clause-within : goal.returns-clause-within
returns-clause-within g c =
    let found = found_in c.args.rules.now c.args.content.now (c.in_ok-before.before, c.in_ok-before.address.0) c.requires
    (sym c.named_in.ensures.value ∙ ap (option_map (λ (p : ℕ × Addr). (p.0, p.1.0))) c.in_ok-before.was) in
    let least = four c.args.content.now c.in_ok-before.before c.in_ok-before.address.0 c.place_behind-start.result c.place_behind.result found
    c.place_behind-start.ensures.value c.place_behind.ensures.value in (
      omega arith,
      omega (
        arith,
        ap length (take_rest c.args.content.now c.place_behind-start.result),
        length-drop c.place_behind-start.result c.args.content.now,
        c.place_behind-start.ensures.within,
        c.place_behind.ensures.within,
      ),
    )
