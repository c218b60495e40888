use Rattle.std.proofs.Common.{Some, ◌∙◌, ap, option_map, subst, arith}
use Rattle.oid_rules.specs.declared.sorted.Numbered.{Numbered}
use Rattle.oid_rules.specs.Sorted.{by_rule}
use Rattle.oid_rules.specs.Inside.Sorted.{IsLast}
use Rattle.oid_rules.proofs.First.{not_begun}
use Rattle.oid_rules.proofs.Halving.{at_rule}
use Rattle.oid_rules.proofs.Tried.{tried_there}
use Rattle.oid_rules.proofs.sorted.first_of.Goals as goal

pub returns-in_err-last-clause-first : goal.returns-in_err-last-clause-first
returns-in_err-last-clause-first g c = λ rules arcs are is.
    ap (option_map _) c.from_residual.ensures
    ∙ not_begun (by_rule (g.I.Addresses.address_by c.args.identifier.now)) c.args.sorted.now _ arcs rules are c.requires.all
    (c.in_err-last.ensures.last arcs is)

pub first_by-requires-clause-within : goal.first_by-requires-clause-within
first_by-requires-clause-within g c = (tried_there c.args.sorted.now c.args.tried.now c.in_ok-last.last c.index-tried-last.result
    c.items.result.now c.requires.tried (omega (arith, c.in_ok-last.ensures.within, c.requires.all, c.requires.every))
    (c.items.ensures ∙ c.index-tried-last.is)).within

pub returns-in_err-at-clause-first : goal.returns-in_err-at-clause-first
returns-in_err-at-clause-first g c = λ rules arcs are is.
    ap (option_map _) c.from_residual-in_err-at.ensures
    ∙ c.in_err-at.ensures.first rules arcs c.in_ok-last.last are
    (tried_there c.args.sorted.now c.args.tried.now c.in_ok-last.last c.index-tried-last.result c.items.result.now c.requires.tried
    (omega (arith, c.in_ok-last.ensures.within, c.requires.all, c.requires.every)) (c.items.ensures ∙ c.index-tried-last.is))
    (subst (λ n. IsLast n c.args.sorted.now arcs (Some c.in_ok-last.last)) c.requires.all (c.in_ok-last.ensures.last arcs is))

pub returns-clause-first : goal.returns-clause-first
returns-clause-first g c = λ rules arcs are is.
    ap (λ (n : Numbered). Some (n.rule, c.in_ok-at.address.0))
    (at_rule c.args.sorted.now c.in_ok-at.at c.index-sorted-at.result c.in_ok-at.ensures.found.0)
    ∙ c.in_ok-at.ensures.first rules arcs c.in_ok-last.last are
    (tried_there c.args.sorted.now c.args.tried.now c.in_ok-last.last c.index-tried-last.result c.items.result.now c.requires.tried
    (omega (arith, c.in_ok-last.ensures.within, c.requires.all, c.requires.every)) (c.items.ensures ∙ c.index-tried-last.is))
    (subst (λ n. IsLast n c.args.sorted.now arcs (Some c.in_ok-last.last)) c.requires.all (c.in_ok-last.ensures.last arcs is))
