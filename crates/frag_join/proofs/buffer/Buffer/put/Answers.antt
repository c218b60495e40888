use Rattle.std.proofs.Common.{◌≡◌, ◌+◌, ◌≤◌, ◌∙◌, ◌||◌, ◌&&◌, not, max, false, is_some, drop, sym, subst, ap, arith}
use Rattle.std.specs.Option.{option_or}
use Rattle.frag_join.specs.Prelude.{count_below, Coverage, is_bad, added, octet_of, header_told, end_of, covers, octet_inside}
use Rattle.frag_join.proofs.PlaceLemmas.{count-le}
use Rattle.frag_join.proofs.PutLemmas.{IsGood, IsPut, good-fragment, known-new, whole-new, octets-put, units-put, count-put, header-kept}
use Rattle.frag_join.proofs.buffer.Buffer.put.Goals as goal

pub overflow_add-self : goal.overflow_add-self
overflow_add-self c =
    let b = c.self.inside in
    let P : Coverage → Type 0 = λ k. is_bad k c.args.fragment.now ≡ false in
    let good : IsGood b c.args.fragment.now = good-fragment b c.args.fragment.now (subst P (sym c.self.view_is) c.requires) in
    omega (
      arith,
      good.fits,
      c.fresh.ensures.few,
      c.self.invariant.fits,
      c.self.invariant.counted,
      count-le (λ place. is_some (octet_inside b place)) b.reach,
    )

-- it isn't bad for what the buffer holds
good : (c : goal.After-self-4-1) → IsGood c.self.inside c.args.fragment.now
good c =
    let P : Coverage → Type 0 = λ k. is_bad k c.args.fragment.now ≡ false in
    good-fragment c.self.inside c.args.fragment.now (subst P (sym c.self.view_is) c.requires)

put : (c : goal.After-self-4-1)
    → IsPut c.self.inside c.args.fragment.now
    (record {
      octets = c.put_header-self-inside.new.octets;
      held = c.mark.new.held;
      reach = c.max-self-inside.result;
      count = c.self.inside.count
          + c.fresh.result;
      ended = c.is_either-self-inside.result;
      headed = c.put_header-self-inside.result;
    })
put c =
    let b = c.self.inside in
    let f = c.args.fragment.now in
    let fits : end_of f ≤ 65515 = (good c).fits in
    let octets = octets-put b.octets.items c.write.new.target.items c.payload.result.now c.start-start.result f c.start-start.ensures.place
    c.payload.ensures.octets c.write.ensures in
    let F : Coverage → Type 0 = λ k. c.fresh.result ≡ count_below (λ place. covers f place && not (is_some (octet_of k place))) (end_of f) in
    record {
      octets = c.put_header-self-inside.ensures.rest ∙ ap (drop 20) octets;
      count = c.put_header-self-inside.ensures.count ∙ count-put b.octets.items c.write.new.target.items f c.self.invariant.octets fits octets;
      held = units-put b.held.items c.mark.new.held.items c.start-start.result c.end-end.result f c.start-start.ensures.place c.end-end.ensures
          c.mark.ensures;
      reach = c.max-self-inside.ensures ∙ ap (max b.reach) c.end-end.ensures;
      fresh = ap (λ n. b.count + n) (subst F (sym c.self.view_is) c.fresh.ensures.value);
      ended = c.is_either-self-inside.ensures ∙ ap (λ m. b.ended || not m) c.more.ensures;
      header = c.put_header-self-inside.ensures.header ∙ ap (λ h. option_or h (header_told f))
          (header-kept b.octets.items c.write.new.target.items b.headed f c.self.invariant.octets fits octets);
      first = c.put_header-self-inside.ensures.first;
      still = c.put_header-self-inside.ensures.still;
    }

pub invariant_of-self : goal.invariant_of-self
invariant_of-self c = whole-new c.self.inside c.args.fragment.now _ c.self.invariant (good c) c.start-start.ensures.even (put c)

pub returns : goal.returns
returns c = known-new c.self.inside c.args.fragment.now _ c.self.invariant (good c) c.start-start.ensures.even (put c)
    ∙ ap (λ k. added k c.args.fragment.now) c.self.view_is
