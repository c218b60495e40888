use Rattle.std.proofs.Common.{rules, arith, ℕ, ◌≡◌, ◌+◌, ◌-◌, ◌∙◌, ap, sym, false, true, not, get_or, count_by, replicate}
use Rattle.std.proofs.lemmas.List.Folds.{sum_by-replicate}
use Rattle.realm_pools.specs.Inside.Places.{one_if}
use Rattle.realm_pools.proofs.Free.{free_below}
use Rattle.realm_pools.proofs.pool.Pool.new.Goals as goal

pub invariant_of-result : goal.invariant_of-result
invariant_of-result c =
    let size : ℕ = c.args.last.0 - c.args.first.0 + 1 in
    let all : c.in_ok-vec.field-0.items ≡ replicate size false = search rules in
    record {
      range = search rules;
      some = search rules;
      few = search rules;
      fits = search rules;
      counted = omega (arith, ap (count_by not) all, sum_by-replicate (λ taken. one_if (not taken)) size false);
      reach = search rules;
      free_places = λ place. c.in_ok-new.ensures.all place ∙ free_below size place ∙ sym (ap (λ taken. one_if (not (get_or taken place true))) all);
    }
