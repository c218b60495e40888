use Rattle.std.proofs.Common.{◌≡◌, ◌∙◌, List, ℕ, subst, sym, arith}
use Rattle.std.proofs.lemmas.Result.{IfOk-weaker}
use Rattle.oid_rules.specs.Inside.Sorted.{with_rule, IsLast, IsTried}
use Rattle.oid_rules.proofs.Halving.{arcs_at}
use Rattle.oid_rules.proofs.Tried.{tried_further, tried_there}
use Rattle.oid_rules.proofs.sorted.tried_at.Goals as goal

pub with_rule-requires-clause-places : goal.with_rule-requires-clause-places
with_rule-requires-clause-places c =
    let last = subst (IsLast c.args.at c.args.sorted.now (arcs_at c.args.sorted.now c.args.at)) c.in-Some.is
    (c.requires.outer c.args.at (omega (arith, c.requires.within, c.requires.all))) in
    (tried_there c.args.sorted.now c.args.tried.now c.in-Some.place c.index-tried-place.result c.items.result.now c.requires.tried
    (omega (arith, last.0, c.requires.next)) (c.items.ensures ∙ c.index-tried-place.is)).within

pub returns-in-Some : goal.returns-in-Some
returns-in-Some c =
    let last = subst (IsLast c.args.at c.args.sorted.now (arcs_at c.args.sorted.now c.args.at)) c.in-Some.is
    (c.requires.outer c.args.at (omega (arith, c.requires.within, c.requires.all))) in
    let tried = tried_there c.args.sorted.now c.args.tried.now c.in-Some.place c.index-tried-place.result c.items.result.now
    c.requires.tried (omega (arith, last.0, c.requires.next)) (c.items.ensures ∙ c.index-tried-place.is) in
    IfOk-weaker c.with_rule.result (λ (one : List ℕ). one ≡ with_rule c.args.sorted.now c.items.result.now c.args.at)
    (λ one. IsTried c.args.sorted.now c.args.at one) (λ one is. subst (IsTried c.args.sorted.now c.args.at) (sym is)
    (tried_further c.args.sorted.now c.in-Some.place c.args.at c.items.result.now c.requires.order c.requires.within last tried))
    c.with_rule.ensures
