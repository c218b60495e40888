use Rattle.std.proofs.Common.{rules, refl, ◌≡◌, ◌+◌, ◌*◌, ◌%◌, ap, ◌∙◌, sym, arith, length, length-append}
use Rattle.std.specs.Slice.Iter.{chunks_exact_rest}
use Rattle.inet_sum.specs.Sum.{total, fold_of}
use Rattle.inet_sum.proofs.Words.{number_folds, part_more, no_octet}
use Rattle.inet_sum.proofs.eights_sum.Goals as goal

pub loop-eight-preserved : goal.loop-eight-preserved
loop-eight-preserved c =
    let cut = c.in-Some.ensures.steps.1 in
    let eight = c.in-Some.eight.now in
    let rest = chunks_exact_rest c.next.new.self in
    let same : length eight ≡ 8 = cut.1 ∙ c.loop-eight.invariant.eights in
    let even : length eight % 2 ≡ 0 = rw same in
    let long : length (chunks_exact_rest c.loop-eight.eight-iterator) ≡ length eight + length rest =
    ap length cut.0 ∙ length-append eight rest
    in
    let folds = ap (λ n. fold_of (256 * n)) (c.from-sum.ensures ∙ c.read_u64.ensures) ∙ number_folds 8 eight refl same in
    record {
      can_next = search rules;
      is_finite = tt;
      eights = c.in-Some.ensures.steps.0 ∙ c.loop-eight.invariant.eights;
      whole = omega arith;
      small = omega arith;
      so_far = part_more c.loop-eight.sum c.from-sum.result eight rest even folds
          ∙ ap (λ xs. fold_of (256 * c.loop-eight.sum + total xs)) (sym cut.0) ∙ c.loop-eight.invariant.so_far;
    }

pub returns : goal.returns
returns c =
    let rest = chunks_exact_rest c.loop-eight.eight-iterator in
    let none : total rest ≡ 0 = no_octet rest (omega (arith, c.in-None.ensures.steps.1.0, c.loop-eight.invariant.eights)) in
    ap fold_of (omega (arith, none)) ∙ c.loop-eight.invariant.so_far
