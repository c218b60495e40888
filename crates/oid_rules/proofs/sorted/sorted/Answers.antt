use Rattle.std.proofs.Common.{ℕ, List, [], IsTrue, subst, rules, tests, IsPermutation}
use Rattle.std.proofs.lemmas.Cmp.{nat_list_cmp_total}
use Rattle.std.proofs.lemmas.List.Sorted.{All-permutation, answers_always, ranks_by, sorted_far}
use Rattle.oid_rules.specs.declared.sorted.Numbered.{Numbered}
use Rattle.gate_base.specs.Prelude.{is_rule}
use Rattle.oid_rules.specs.Inside.Sorted.{numbered, rule_at}
use Rattle.oid_rules.proofs.First.{all_rules}
use Rattle.oid_rules.proofs.Prefixes.{not_less}
use Rattle.oid_rules.proofs.sorted.sorted.Goals as goal

pub returns : goal.returns
returns c =
    let sorted = c.sort_unstable_by.new.self.items in
    let arcs : Numbered → List ℕ = λ one. one.rule.prefix in
    let ranks = ranks_by nat_list_cmp_total arcs in
    let moved = subst (λ (xs : List Numbered). IsPermutation xs sorted) c.in_ok-sorted.ensures c.sort_unstable_by.ensures.permutation in
    let up = c.sort_unstable_by.ensures.sorted _ ranks (answers_always _ _ _ (λ f a r f' k. search (rules, tests))) in
    record {
      moved = moved;
      order = λ i j l m b. not_less (arcs (rule_at sorted j)) (arcs (rule_at sorted i)) (sorted_far _ ranks sorted up i j (rule_at [] 0) l m) b;
      all = All-permutation (λ (one : Numbered). IsTrue (is_rule one.rule)) (numbered 0 c.args.rules.now) sorted moved
          (all_rules 0 c.args.rules.now c.requires);
    }
