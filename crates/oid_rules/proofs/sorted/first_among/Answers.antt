use Rattle.std.proofs.Common.{◌≡◌, IsSome, get_or, subst, arith, inl, inr}
use Rattle.std.proofs.lemmas.Bool.{cases_lt}
use Rattle.std.proofs.lemmas.List.Elements.{All-get_or}
use Rattle.oid_rules.specs.Sorted.{by_rule}
use Rattle.oid_rules.specs.Inside.Sorted.{before_at, rule_at, BeginsAt, IsEarly}
use Rattle.oid_rules.proofs.First.{first_is}
use Rattle.oid_rules.proofs.Tried.{tried_first}
use Rattle.oid_rules.proofs.sorted.first_among.Goals as goal

pub loop-at-preserved : goal.loop-at-preserved
loop-at-preserved g c =
    let sorted = c.args.sorted.now in
    let tried = c.args.tried.now in
    let address = g.A.Addresses.address_by c.args.addresses.now in
    record {
      found = c.earlier-found.ensures.found;
      begun = λ arcs all. c.earlier-found.ensures.begun arcs (c.loop-at.invariant.begun arcs all)
          (All-get_or (BeginsAt sorted arcs) tried c.loop-at.at-index 0 c.loop-at-test.true all);
      early = λ j l names. elim (cases_lt j c.loop-at.at-index) as
          (λ o. IsEarly sorted c.earlier-found.result (rule_at sorted (get_or tried j 0)).number) [
            | inl s ↦ c.earlier-found.ensures.early _ (c.loop-at.invariant.early j s names)
            | inr s ↦
                let e : c.loop-at.at-index ≡ j = omega (arith, l, s) in
                subst (λ n. IsSome (address (before_at sorted (get_or tried n 0)))
                → IsEarly sorted c.earlier-found.result (rule_at sorted (get_or tried n 0)).number) e c.earlier-found.ensures.at names
          ];
    }

pub returns-clause-first : goal.returns-clause-first
returns-clause-first g c = λ rules arcs last are tried begins.
    first_is (by_rule (g.A.Addresses.address_by c.args.addresses.now)) c.args.sorted.now arcs c.loop-at.found rules are c.loop-at.invariant.found
    (tried_first (g.A.Addresses.address_by c.args.addresses.now) c.args.sorted.now arcs c.args.tried.now last c.loop-at.found
    c.requires.order tried begins (c.loop-at.invariant.begun arcs)
    (λ j l. c.loop-at.invariant.early j (omega (arith, l, c.loop-at-test.false))))
