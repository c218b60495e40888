use Rattle.std.proofs.Common.{◌∙◌, List, Vec, ap, sym, rules, tests, subst}
use Rattle.std.proofs.lemmas.List.Sorted.{IsNonDecreasingBy-from_sort_by_key}
use Rattle.std.proofs.lemmas.Result.{IfOk-weaker}
use Rattle.gate_settings.specs.declared.settings.Block.{Block}
use Rattle.gate_settings.specs.declared.same.SameRange.{SameRange}
use Rattle.gate_settings.specs.Prelude.{ranges_from, AreRanges}
use Rattle.gate_settings.proofs.Rising.{are_ranges}
use Rattle.gate_settings.proofs.same.ranges_of.Goals as goal

pub returns : goal.returns
returns c =
    let sorted = c.sort_unstable_by_key.new.self.items in
    let order = IsNonDecreasingBy-from_sort_by_key (λ (b : Block). b.base.0) sorted c.sort_unstable_by_key.ensures.sorted
    (λ a r q k. search (rules, tests)) in
    let made = subst (λ (xs : List Block). AreRanges xs (ranges_from 0 sorted)) c.in_ok-sorted.ensures.items
    (are_ranges c.in_ok-sorted.sorted.items sorted c.sort_unstable_by_key.ensures.permutation order) in
    IfOk-weaker c.ranges_from.result _ _
    (λ (ranges : Vec SameRange _) is. subst (AreRanges c.args.blocks.now) (ap (ranges_from 0) (sym c.deref.ensures.value) ∙ sym is) made)
    c.ranges_from.ensures
