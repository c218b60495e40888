-- The places of a stream are those of the pushes that are due, as far as they are asked for.
use Rattle.std.proofs.Common.{◌≡◌, ◌≤◌, ◌+◌, ℕ, zero, suc, false, List, [], ◌∷◌, ◌++◌, length, refl, sym, ◌∙◌, ap, arith, inl, inr, map, slice_get, flat_map, append-nil, length-append}
use Rattle.dialogue.specs.Prelude.{Meaning, IsLawful, Plain, Span, plain_spans, spans_from, end_from, rear_at, fore_in, rear_in, back_in, cut, push_of, pushes_of, due_rest, due, spans, fore, rear, back}
use Rattle.dialogue.proofs.PlaceLemmas.{Beyond, back_in-beyond, end_from-append}
use Rattle.dialogue.proofs.CutLemmas.{IsRest-cut, end_from-map}
use Rattle.dialogue.proofs.Growth.{due_spans, due_rest_cases, spans-pushes_of}
use Rattle.dialogue.proofs.Laws.{spans_due}
use Rattle.shift_ledger.specs.Prelude.{fore_of, rear_of, back_of}
use Rattle.compact_stream.specs.Prelude.{sent_pushes}

-- the pushes that are due end where what is due ends
pub end_from-due : (m : Meaning) (s : List ℕ) → end_from 0 (sent_pushes m false (cut m s)) ≡ length (due m false s)
end_from-due m s =
    let c = cut m s in
    end_from-append 0 (map (push_of m) c.units) (Plain (length (due_rest m false c.rest)) ∷ [])
    ∙ omega (arith, end_from-map m 0 c.units, length-append (flat_map m.image c.units) (due_rest m false c.rest))

rear_in-beyond : (old more : List Span) (o e : ℕ) → Beyond o more → rear_in (old ++ more) o e ≡ rear_in old o e
rear_in-beyond old more o zero h = refl
rear_in-beyond old more o (suc p) h = get old more o p h
  where
    far : (more : List Span) (o p : ℕ) → Beyond o more → rear_at o (slice_get more p) ≡ o
    far [] o p h = refl
    far (x ∷ xs) o zero h = omega (arith, h.0)
    far (x ∷ xs) o (suc p) h = far xs o p h.1

    get : (old more : List Span) (o p : ℕ) → Beyond o more → rear_at o (slice_get (old ++ more) p) ≡ rear_at o (slice_get old p)
    get [] more o p h = far more o p h
    get (x ∷ old) more o zero h = refl
    get (x ∷ old) more o (suc p) h = get old more o p h

fore_in-plain_beyond : (old : List Span) (at n o p : ℕ) → o ≤ at → fore_in (old ++ plain_spans at n) o p ≡ fore_in old o p
fore_in-plain_beyond [] at zero o p l = refl
fore_in-plain_beyond [] at (suc n) o zero l = omega arith
fore_in-plain_beyond [] at (suc n) o (suc p) l = fore_in-plain_beyond [] (at + 1) n o p (omega arith)
fore_in-plain_beyond (x ∷ old) at n o zero l = refl
fore_in-plain_beyond (x ∷ old) at n o (suc p) l = fore_in-plain_beyond old at n o p l

-- an open stream's spans are those that are due and a held rest's
spans_held : (m : Meaning) → IsLawful m → (s : List ℕ) → (at n : ℕ) × (spans m s ≡ due_spans m (cut m s) ++ plain_spans at n)
    × (length (due m false s) ≤ at)
spans_held m law s =
    let c = cut m s in
    let at = length (flat_map m.image c.units) in
    elim (due_rest_cases m c.rest (IsRest-cut m law s)) [
      | inl e ↦ (
        at,
        length c.rest,
        spans-pushes_of m c c.rest
            ∙ ap (λ ss. ss ++ plain_spans at (length c.rest))
            (sym (append-nil _) ∙ sym (spans-pushes_of m c []) ∙ ap (λ r. spans_from 0 (pushes_of m c r)) (sym e)),
        omega (arith, ap length e, length-append (flat_map m.image c.units) (due_rest m false c.rest)),
      )
      | inr p ↦ (length (due m false s), 0, ap (λ r. spans_from 0 (pushes_of m c r)) (sym p.0) ∙ sym (append-nil _), omega arith)
    ]

pub fore-due : (m : Meaning) → IsLawful m → (s : List ℕ) (p : ℕ) → fore m false s p ≡ fore_of (sent_pushes m false (cut m s)) p
fore-due m law s p =
    let h : (at n : ℕ) × (spans m s ≡ due_spans m (cut m s) ++ plain_spans at n) × (length (due m false s) ≤ at) = spans_held m law s in
    ap (λ ss. fore_in ss (length (due m false s)) p) h.2
    ∙ fore_in-plain_beyond (due_spans m (cut m s)) h.0 h.1 (length (due m false s)) p h.3
    ∙ ap (λ o. fore_in (due_spans m (cut m s)) o p) (sym (end_from-due m s))

pub rear-due : (m : Meaning) → IsLawful m → (s : List ℕ) (e : ℕ) → rear m false s e ≡ rear_of (sent_pushes m false (cut m s)) e
rear-due m law s e =
    let h : (more : List Span) × (spans m s ≡ due_spans m (cut m s) ++ more) × Beyond (length (due m false s)) more = spans_due m law s in
    ap (λ ss. rear_in ss (length (due m false s)) e) h.1
    ∙ rear_in-beyond (due_spans m (cut m s)) h.0 (length (due m false s)) e h.2
    ∙ ap (λ o. rear_in (due_spans m (cut m s)) o e) (sym (end_from-due m s))

pub back-due : (m : Meaning) → IsLawful m → (s : List ℕ) (q : ℕ) → q ≤ length (due m false s)
    → back m false s q ≡ back_of (sent_pushes m false (cut m s)) q
back-due m law s q l =
    let h : (more : List Span) × (spans m s ≡ due_spans m (cut m s) ++ more) × Beyond (length (due m false s)) more = spans_due m law s in
    ap (λ ss. back_in ss q) h.1 ∙ back_in-beyond (due_spans m (cut m s)) h.0 _ q h.2 l
