use Rattle.std.proofs.Common.{◌≡◌, IsSome, get_or, subst, arith}
use Rattle.std.proofs.lemmas.List.Elements.{All-get_or}
use Rattle.oid_rules.specs.Sorted.{by_rule}
use Rattle.oid_rules.specs.Inside.Sorted.{before_at, rule_at, BeginsAt, IsEarly}
use Rattle.oid_rules.proofs.First.{first_is}
use Rattle.oid_rules.proofs.Tried.{tried_first}
use Rattle.oid_rules.proofs.sorted.first_by.Goals as goal

pub returns-then-tried-eq1-clause-first : goal.returns-then-tried-eq1-clause-first
returns-then-tried-eq1-clause-first g c = λ rules arcs last are is begins.
    let sorted = c.args.sorted.now in
    let tried = c.args.tried.now in
    let address = g.I.Addresses.address_by c.args.identifier.now in
    first_is (by_rule address) sorted arcs c.earlier.result rules are c.earlier.ensures.found
    (tried_first address sorted arcs tried last c.earlier.result c.requires.order is begins
    (λ all. c.earlier.ensures.begun arcs tt (All-get_or (BeginsAt sorted arcs) tried 0 0 (omega (arith, c.if-tried-eq1.true)) all))
    (λ j l names.
    let e : 0 ≡ j = omega (arith, l, c.if-tried-eq1.true) in
    subst (λ n. IsSome (address (before_at sorted (get_or tried n 0)))
    → IsEarly sorted c.earlier.result (rule_at sorted (get_or tried n 0)).number) e c.earlier.ensures.at names))
