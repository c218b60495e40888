use Rattle.std.proofs.Common.{◌≡◌, ℕ, ◌+◌, ◌≤◌, ◌<◌, ◌++◌, ◌∷◌, [], List, length, refl, sym, ap, ◌∙◌, append_assoc, arith, inl, inr, append-nil, length-append}
use Rattle.dns_names.specs.Prelude.{Label, Pointer, piece_at, Knows, Joins}
use Rattle.dns_names.specs.declared.known.Known.{Known}
use Rattle.dns_names.proofs.Walking.{run, run-label, run-none}
use Rattle.dns_names.proofs.Trails.{none-high, none-long, none-label, none-up, none-nothing, says-root, trail-label, trail-pointer}
use Rattle.dns_names.proofs.walk.walk.Invariants.{OnWay}
use Rattle.dns_names.proofs.walk.walk.Goals as goal

joins : (m old kept new : List ℕ) (first : ℕ) (path : List ℕ) (start from at count : ℕ) (k : Known) → OnWay m old kept first path start from at count
    → new ≡ kept ++ run m from at → Knows m old at k → k.start ≤ start → count + k.count ≤ 254 → Joins m old new first path k
joins m old kept new first path start from at count k w is knows low short = record {
  start = start;
  place = at;
  octets = w.octets;
  trail = w.trail;
  added = is ∙ w.kept_are;
  knows = knows;
  low = low;
  short = omega (arith, short, w.size);
}

grown : (old kept new run : List ℕ) → (more : List ℕ) × (kept ≡ old ++ more) → new ≡ kept ++ run → (more : List ℕ) × (new ≡ old ++ more)
grown old kept new run more is = (more.0 ++ run, is ∙ ap (λ (x : List ℕ). x ++ run) more.1 ∙ append_assoc old more.0 run)

behind-label : (m old kept : List ℕ) (first : ℕ) (path new : List ℕ) (start from at count : ℕ) (l : List ℕ)
    → OnWay m old kept first path start from at count → piece_at m at ≡ Label l → at + 1 + length l ≤ length m → count + 1 + length l ≤ 254
    → new ≡ path ++ at ∷ []
    → OnWay m old kept first new start from (at + (1 + length l)) (count + (1 + length l))
behind-label m old kept first path new start from at count l w e inside short is =
    let place : at + (1 + length l) ≡ at + 1 + length l = omega arith in
    let whole : List ℕ = w.octets ++ length l ∷ l in
    rw (is, place) (record {
      octets = whole;
      trail = trail-label m first path start at w.octets l w.trail e;
      size = omega (arith, w.size, length-append w.octets (length l ∷ l));
      short = omega (arith, short);
      order = omega (arith, w.order);
      inside = inr inside;
      kept_are = ap (λ (x : List ℕ). kept ++ x) (run-label m from at l w.order e) ∙ sym (append_assoc kept (run m from at) (length l ∷ l))
          ∙ ap (λ (x : List ℕ). x ++ length l ∷ l) w.kept_are ∙ append_assoc old w.octets (length l ∷ l);
      more = w.more;
    })

at-pointer : (m old kept kept' : List ℕ) (first : ℕ) (path new : List ℕ) (start from at count to : ℕ)
    → OnWay m old kept first path start from at count → piece_at m at ≡ Pointer to → to < start → kept' ≡ kept ++ run m from at
    → new ≡ path ++ at ∷ []
    → OnWay m old kept' first new to to to count
at-pointer m old kept kept' first path new start from at count to w e lt kept_is is =
    rw is (record {
      octets = w.octets;
      trail = trail-pointer m first path start at w.octets to w.trail e lt;
      size = w.size;
      short = w.short;
      order = omega arith;
      inside = inl refl;
      kept_are = ap (λ (x : List ℕ). kept' ++ x) (run-none m to) ∙ append-nil kept' ∙ kept_is ∙ w.kept_are;
      more = grown old kept kept' (run m from at) w.more kept_is;
    })

pub returns-then-not-may_end-clause-none : goal.returns-then-not-may_end-clause-none
returns-then-not-may_end-clause-none c = λ _ labels after n.
    let knows = c.in-Some.ensures.known c.args.message.now c.args.kept.now.items c.requires.known in
    let i = c.pieces.invariant in
    elim (c.may_end.ensures.no c.if-not-may_end.true) [
      | inl high ↦ none-high _ c.args.kept.now.items _ _ _ _ _ _ i.trail knows high labels after n
      | inr long ↦ none-long _ c.args.kept.now.items _ _ _ _ _ _ i.trail knows (omega (arith, long, i.size)) labels after n
    ]

pub returns-in-Root-clause-found : goal.returns-in-Root-clause-found
returns-in-Root-clause-found c =
    joins _ _ _ _ _ _ _ _ c.pieces.at _ _ c.pieces.invariant c.in_ok-keep-in-Root.ensures.items
    ([], says-root _ c.args.kept.now.items c.pieces.at _ c.in-Root.ensures.is refl refl refl refl) (omega arith)
    (omega (arith, c.pieces.invariant.short))

pub returns-then-count-label-gt254-clause-none : goal.returns-then-count-label-gt254-clause-none
returns-then-count-label-gt254-clause-none c = λ _ labels after n. none-label _ _ _ _ _ _ c.in-Label.label.now c.pieces.invariant.trail
    c.in-Label.ensures.is (omega (arith, c.if-count-label-gt254.true, c.pieces.invariant.size)) labels after n

pub pieces-preserved-in-Label : goal.pieces-preserved-in-Label
pieces-preserved-in-Label c =
    behind-label _ _ _ _ _ _ _ _ _ _ c.in-Label.label.now c.pieces.invariant c.in-Label.ensures.is (omega (arith, c.in-Label.ensures.within))
    (omega (arith, c.if-count-label-gt254.false)) c.in_ok-push-in-Label.ensures.items

pub returns-then-to-start-clause-none : goal.returns-then-to-start-clause-none
returns-then-to-start-clause-none c = λ _ labels after n. none-up _ _ _ _ _ _ _ c.pieces.invariant.trail c.in-Pointer.ensures.is
    (omega arith) labels after n

pub pieces-preserved : goal.pieces-preserved
pieces-preserved c =
    at-pointer _ _ _ _ _ _ _ _ _ _ _ c.in-Pointer.to c.pieces.invariant c.in-Pointer.ensures.is (omega arith) c.in_ok-keep-in-Pointer.ensures.items
    c.in_ok-push-in-Pointer.ensures.items

pub returns-in-Nothing-clause-none : goal.returns-in-Nothing-clause-none
returns-in-Nothing-clause-none c = λ _ labels after n. none-nothing _ _ _ _ _ _ c.pieces.invariant.trail c.in-Nothing.ensures.is labels after n
