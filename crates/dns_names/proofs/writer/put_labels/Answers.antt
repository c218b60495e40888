use Rattle.std.proofs.Common.{◌≡◌, ◌∙◌, ◌-◌, ◌≤◌, ◌<◌, ◌⊎◌, ◌++◌, ℕ, suc, List, Some, arith, rules, length, sym, ap, subst, [], refl, inl, inr, length-append}
use Rattle.dns_names.proofs.Kept.{ends-near, pending-first, pending-fresh, pending-index}
use Rattle.dns_names.specs.declared.suffix.Suffix.{Suffix}
use Rattle.dns_names.specs.Inside.Longest.{ending}
use Rattle.dns_names.specs.Inside.Writers.{key_at, IsPending, Remembers}
use Rattle.dns_names.proofs.Pending.{GoesOn, edge-later, put-found, put-label, met-later}
use Rattle.dns_names.proofs.Longest.{longest-new, longest-step, longest-ends, behind-shorter, closing-first, closing-put, closing-ends, behind-is}
use Rattle.dns_names.proofs.Putting.{Left-ends, Left-closed, Left-new, Left-within, Left-label, ending-some, grew_more, grew_none, grew_octets}
use Rattle.dns_names.specs.Prelude.{behind, found, key_of, labels_in, with_start, IsIndex, IsLongest, starts_in}
use Rattle.dns_names.proofs.writer.put_labels.Goals as goal
use Rattle.dns_names.proofs.writer.put_labels.Goals.{then-labels-test+else-not-is_empty, else-labels-test}

pub labels-init : goal.labels-init
labels-init c = (
  record {
    rest = labels_in c.args.name.now;
    left_is = c.requires.spelled.octets_are;
    all = c.requires.spelled.is_name.labels;
    octets =
        refl;
    starts = refl;
    fresh = λ o le. refl;
  },
  pending-first c.args.places.now c.args.edge.octets.now c.args.name.now
      (length c.args.out.now.items) c.requires.index c.requires.fresh c.requires.closed,
  grew_none (starts_in c.args.places.now) c.args.out.now.items,
  c.longest-count.ensures.longest,
  closing-first (starts_in c.args.places.now) c.args.edge.octets.now c.args.name.now (length c.args.out.now.items) c.requires.closed,
  c.requires.edge,
  c.longest-count.ensures.met,
)

pub returns-in_err-extend_from_slice-clause-index : goal.returns-in_err-extend_from_slice-clause-index
returns-in_err-extend_from_slice-clause-index c =
    let le : length c.labels.out.items ≤ length c.extend_from_slice.new.self.items = search rules in
    pending-index _ c.labels.rest.now _ _ c.labels.invariant.1 le

pub put_end-requires : goal.put_end-requires
put_end-requires c = ends-near _ _ c.labels.rest.now c.longest-count.result.1 c.requires.index.near
    (longest-ends _ c.labels.rest.now c.labels.left _ c.labels.invariant.3
    (elim c.labels-test.branch [ then-labels-test+else-not-is_empty w ↦ inr (search rules) | else-labels-test w ↦ inl (search rules) ]))

pub split_at-requires : goal.split_at-requires
split_at-requires c = Left-within _ _ _ c.labels.rest.now c.labels.out.items _ (search rules) c.labels.invariant.0

pub returns-in_err-remember-clause-index : goal.returns-in_err-remember-clause-index
returns-in_err-remember-clause-index c =
    subst (λ (es : List (Suffix × ℕ)). IsIndex es (length c.extend_from_slice.new.self.items)) (sym c.in_err-remember.ensures.kept)
    (pending-index _ c.labels.rest.now _ _ c.labels.invariant.1 (omega (arith, c.labels.out.ok.0, c.in_ok-extend_from_slice.ensures.len)))

pub returns-in_err-put_end-clause-index : goal.returns-in_err-put_end-clause-index
returns-in_err-put_end-clause-index c = pending-index _ c.labels.rest.now _ _ c.labels.invariant.1 c.put_end.ensures.longer

pub returns-in_err-put_end-clause-behind : goal.returns-in_err-put_end-clause-behind
returns-in_err-put_end-clause-behind c = grew_octets _ _ _ _ _ _ c.put_end.ensures.behind.0 c.labels.invariant.2 c.put_end.ensures.behind.1 refl

pub labels-preserved : goal.labels-preserved
labels-preserved c =
    let v = c.labels.invariant in
    let some : 1 ≤ length c.labels.rest.now = search rules in
    let more : c.labels.left ≡ suc (c.labels.left - 1) = omega (arith, c.labels-test.true) in
    let none = longest-new _ c.labels.rest.now c.labels.left _ v.3 (omega (arith, more)) some in
    let absent = Left-new _ _ _ c.labels.rest.now c.labels.out.items _ v.0 none in
    let put = Left-label _ _ _ c.labels.rest.now c.labels.out.items _ some v.0 none in
    let len : c.len-place.result ≡ length c.labels.out.items = omega (arith, c.labels.out.ok.0) in
    let rest : c.split_at.result.1.now ≡ behind c.labels.rest.now = c.split_at.ensures.back ∙ sym (behind-is c.labels.rest.now some) in
    let step = longest-step _ c.labels.rest.now (c.labels.left - 1) _
    (subst (λ (n : ℕ). IsLongest (starts_in c.args.places.now) c.labels.rest.now n c.longest-count.result.1) more v.3) in
    let limit = length c.extend_from_slice.new.self.items in
    let now : c.len.result ≡ limit = omega (arith, c.len.ensures, c.extend_from_slice.new.self.ok.0) in
    let key_is : c.key_at-behind.result ≡ key_at c.is_end.result limit c.longest-count.result.1 =
    c.key_at-behind.ensures ∙ ap (λ (n : ℕ). key_at c.is_end.result n c.longest-count.result.1) now in
    let goes_on : GoesOn (starts_in c.args.places.now) c.labels.places c.labels.rest.now c.is_end.result c.longest-count.result.1 =
    record {
      ends = λ e. longest-ends _ (behind c.labels.rest.now) (c.labels.left - 1) _ step
          (subst (λ (x : List ℕ). (c.labels.left - 1 < 1) ⊎ (length x < 1)) rest (c.is_end.ensures.ends e));
      new = λ e.
          let on = c.is_end.ensures.goes_on e in
          v.0.fresh (behind c.labels.rest.now) (omega (arith, behind-shorter c.labels.rest.now some))
          ∙ longest-new _ (behind c.labels.rest.now) (c.labels.left - 1) _ step on.0 (subst (λ (x : List ℕ). 1 ≤ length x) rest on.1);
      long = λ e. subst (λ (x : List ℕ). 1 ≤ length x) rest (c.is_end.ensures.goes_on e).1;
    } in
    let on : length c.labels.out.items < limit = omega (
      arith,
      c.labels.out.ok.0,
      c.in_ok-extend_from_slice.ensures.len,
      c.split_at.ensures.front_len,
      c.extend_from_slice.new.self.ok.0,
    ) in
    let is = put-label (starts_in c.args.places.now)
    (v.2.0).starts c.labels.places c.remember.new.places c.labels.edge.octets.now c.labels.rest.now
    (length c.labels.out.items) limit c.is_end.result c.longest-count.result.1
    (subst (λ (n : ℕ). Remembers (key_of n c.labels.rest.now) c.labels.rest.now (length c.labels.out.items) c.labels.places c.remember.new.places) key_is
    (subst (λ (n : ℕ). Remembers (key_of c.key_at-behind.result c.labels.rest.now) c.labels.rest.now n c.labels.places c.remember.new.places) len
    c.in_ok-remember.ensures.remembers)) v.1 v.4 absent some on v.2.2 goes_on in
    let found_now = put-found c.labels.places c.remember.new.places c.labels.rest.now (length c.labels.out.items) limit is absent in
    let found_at : c.len-place.result < 16384 → found (starts_in c.remember.new.places) c.labels.rest.now
    ≡ Some c.len-place.result = λ near. found_now (omega (arith, near, len)) ∙ ap Some (sym len) in
    let starts_at : starts_in c.remember.new.places ≡ starts_in c.labels.places ++ with_start c.len-place.result
    c.labels.rest.now [] = is.starts ∙ ap (λ (n : ℕ). starts_in c.labels.places ++ with_start n c.labels.rest.now []) (sym len) in (
      rw (c.split_at.ensures.back, c.in_ok-extend_from_slice.ensures.items, c.split_at.ensures.front, is.starts) put,
      subst (λ (x : List ℕ). IsPending c.remember.new.places x limit) (sym rest) is.pending,
      grew_more _ _ _ _ _ _ (record {
        octets = c.split_at.result.0.now;
        starts =
            with_start (length c.labels.out.items) c.labels.rest.now [];
      }) v.2 c.in_ok-extend_from_slice.ensures.items is.starts,
      subst (λ (x : List ℕ). IsLongest (starts_in c.args.places.now) x (c.labels.left - 1) c.longest-count.result.1) (sym rest) step,
      closing-put _ _ _ _ c.labels.rest.now _ _ c.len-place.result c.len-in-labels.result _ v.4 absent len
          (omega (
            arith,
            c.len-in-labels.ensures,
            c.labels.out.ok.0,
            c.in_ok-extend_from_slice.ensures.len,
            c.split_at.ensures.front_len,
            c.extend_from_slice.new.self.ok.0,
          )) (search rules) starts_at c.edge_after-edge.ensures.by rest,
      c.edge_after-edge.ensures.edge (starts_in c.remember.new.places) (edge-later _ _ _ c.labels.edge is.starts v.5) found_at,
      c.keep.ensures (starts_in c.remember.new.places) (met-later _ _ _ c.labels.met is.starts v.6) found_at,
    )

pub returns-clause-octets : goal.returns-clause-octets
returns-clause-octets c =
    let end = longest-ends _ c.labels.rest.now c.labels.left _ c.labels.invariant.3
    (elim c.labels-test.branch [ then-labels-test+else-not-is_empty w ↦ inr (search rules) | else-labels-test w ↦ inl (search rules) ]) in
    c.in_ok-put_end.ensures.octets ∙ (Left-ends _ _ _ c.labels.rest.now c.labels.out.items _ _ c.labels.invariant.0 end).0

pub returns-clause-starts : goal.returns-clause-starts
returns-clause-starts c =
    let end = longest-ends _ c.labels.rest.now c.labels.left _ c.labels.invariant.3
    (elim c.labels-test.branch [ then-labels-test+else-not-is_empty w ↦ inr (search rules) | else-labels-test w ↦ inl (search rules) ]) in
    (Left-ends _ _ _ c.labels.rest.now c.labels.out.items _ _ c.labels.invariant.0 end).1

pub returns-clause-index : goal.returns-clause-index
returns-clause-index c = pending-index _ c.labels.rest.now _ _ c.labels.invariant.1 c.in_ok-put_end.ensures.longer

pub returns-clause-fresh : goal.returns-clause-fresh
returns-clause-fresh c = pending-fresh _ c.labels.rest.now _ _ c.labels.invariant.1
    (omega (
      arith,
      ap length c.in_ok-put_end.ensures.octets,
      length-append c.labels.out.items
          (ending c.longest-count.result.1),
      ending-some c.longest-count.result.1,
    ))

pub returns-clause-behind : goal.returns-clause-behind
returns-clause-behind c = grew_octets _ _ _ _ _ _ c.in_ok-put_end.ensures.behind.0 c.labels.invariant.2 c.in_ok-put_end.ensures.behind.1 refl

pub returns-clause-closed : goal.returns-clause-closed
returns-clause-closed c =
    let end = longest-ends _ c.labels.rest.now c.labels.left _ c.labels.invariant.3
    (elim c.labels-test.branch [ then-labels-test+else-not-is_empty w ↦ inr (search rules) | else-labels-test w ↦ inl (search rules) ]) in
    closing-ends _ _ c.labels.rest.now _ _ c.labels.invariant.4 (Left-closed _ _ _ c.labels.rest.now c.labels.out.items _ _ c.labels.invariant.0 end)
    c.in_ok-put_end.ensures.longer

pub returns-in_err-remember-clause-behind : goal.returns-in_err-remember-clause-behind
returns-in_err-remember-clause-behind c = grew_octets _ _ _ _ _ _ c.split_at.result.0.now c.labels.invariant.2
    c.in_ok-extend_from_slice.ensures.items (ap starts_in c.in_err-remember.ensures.kept)
