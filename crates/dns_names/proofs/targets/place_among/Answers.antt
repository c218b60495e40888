use Rattle.std.proofs.Common.{◌∙◌, ◌<◌, inl, inr, nat_lt, arith, rules, sym}
use Rattle.std.proofs.lemmas.Bool.{cases_Bool, ltb-true, ltb-false}
use Rattle.dns_names.proofs.Placing.{before-all, halved}
use Rattle.dns_names.proofs.targets.place_among.Goals as goal

pub returns-then-branch : goal.returns-then-branch
returns-then-branch c =
    sym (before-all c.args.suffix.now c.args.rising.now c.in_ok-first.field-0.now c.requires.rises (search rules) c.if-branch.true)

pub returns-then-suffix-middle : goal.returns-then-suffix-middle
returns-then-suffix-middle c =
    let sought = halved c.args.suffix.now c.parts.part.now c.split_at.result.0.now c.split_at.result.1.now c.in_ok-middle.middle.now
    c.in_ok-middle.high.now c.parts.invariant.0 c.split_at.ensures.by_index.0 c.in_ok-middle.ensures.cases.0 in
    c.place_if.ensures ∙ sym (sought.in_middle c.if-suffix-middle.true) ∙ sym c.parts.invariant.1

pub parts-preserved : goal.parts-preserved
parts-preserved c =
    let sought = halved c.args.suffix.now c.parts.part.now c.split_at.result.0.now c.split_at.result.1.now c.in_ok-middle.middle.now
    c.in_ok-middle.high.now c.parts.invariant.0 c.split_at.ensures.by_index.0 c.in_ok-middle.ensures.cases.0 in
    elim (cases_Bool (nat_lt c.args.suffix.now.behind c.in_ok-middle.middle.now.0.behind)) [
      | inl t ↦
          let low = sought.in_low (ltb-true _ _ t) in
          rw (c.half_with-part.ensures.low (ltb-true _ _ t)) (low.0, c.parts.invariant.1 ∙ low.1)
      | inr f ↦
          let above : c.in_ok-middle.middle.now.0.behind < c.args.suffix.now.behind =
          omega (arith, ltb-false _ _ f, c.if-suffix-middle.false) in
          let high = sought.in_high above in
          rw (c.half_with-part.ensures.high above) (high.0, c.parts.invariant.1 ∙ high.1)
    ]
