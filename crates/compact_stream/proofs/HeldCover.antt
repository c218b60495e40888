-- What is due of an open stream ends where its held rest begins, at Back; and what is sent from there on needs nothing before the rest.
use Rattle.std.proofs.Common.{◌≡◌, ◌≤◌, ◌+◌, ℕ, zero, suc, Bool, true, false, List, [], ◌∷◌, ◌++◌, length, refl, ◌∙◌, ap, subst, arith, nat_le, replicate, flat_map, le-leb}
use Rattle.std.proofs.lemmas.List.{length-append, length-replicate}
use Rattle.dialogue.specs.Prelude.{Meaning, IsLawful, Push, Plain, Changed, Span, plain_spans, spans_from, end_from, back_in, cut, due, due_rest, fore, back}
use Rattle.dialogue.proofs.PlaceLemmas.{back_in-replicate, end_from-le}
use Rattle.dialogue.proofs.CutLemmas.{cut_joined, length-spans_from}
use Rattle.dialogue.proofs.Laws.{back-append, fore-back}
use Rattle.shift_ledger.specs.Prelude.{back_of}
use Rattle.compact_stream.specs.Prelude.{sent_pushes, held_rest}
use Rattle.compact_stream.proofs.DuePlaces.{end_from-due, back-due}
use Rattle.compact_stream.proofs.SenderLemmas.{rest_split}

plain_all : (n at : ℕ) (ss : List Span) (q : ℕ) → at + n ≤ q → back_in ss q ≡ length ss
    → back_in (plain_spans at n ++ ss) q ≡ length (plain_spans at n ++ ss)
plain_all zero at ss q l h = h
plain_all (suc n) at ss q l h =
    let t : nat_le (at + 1) q ≡ true = le-leb (at + 1) q (omega arith) in
    rw t (omega (arith, plain_all n (at + 1) ss q (omega arith) h))

pub back_all : (ps : List Push) (at q : ℕ) → end_from at ps ≤ q → back_in (spans_from at ps) q ≡ length (spans_from at ps)
back_all [] at q l = refl
back_all (Plain n ∷ ps) at q l = plain_all n at (spans_from (at + n) ps) q (omega (arith, end_from-le (at + n) ps)) (back_all ps (at + n) q l)
back_all (Changed unit image ∷ ps) at q l =
    let s : Span = record { first = at; past = at + length image } in
    let n : length (replicate unit s) ≡ unit = length-replicate unit s in
    back_in-replicate unit s (spans_from (at + length image) ps) q (omega (arith, end_from-le (at + length image) ps))
    ∙ omega (arith, back_all ps (at + length image) q l, length-append (replicate unit s) (spans_from (at + length image) ps), n)

-- Back of all that is due is where the held rest begins
pub back_due : (m : Meaning) → IsLawful m → (s : List ℕ) → back m false s (length (due m false s)) + length (held_rest m (cut m s).rest) ≡ length s
back_due m law s =
    let c = cut m s in
    let b : back m false s (length (due m false s)) ≡ back_of (sent_pushes m false (cut m s)) (length (due m false s)) =
    back-due m law s (length (due m false s)) (omega arith) in
    let all : back_of (sent_pushes m false (cut m s)) (length (due m false s)) ≡ length (spans_from 0 (sent_pushes m false (cut m s))) =
    back_all (sent_pushes m false (cut m s)) 0 (length (due m false s)) (omega (arith, end_from-due m s)) in
    omega (
      arith,
      b,
      all,
      length-spans_from m 0 (cut m s).units (due_rest m false (cut m s).rest),
      length-append (flat_map (λ u. u) (cut m s).units) (due_rest m false (cut m s).rest),
      length-append (flat_map (λ u. u) (cut m s).units) (cut m s).rest,
      ap length (cut_joined m s),
      rest_split m false (cut m s).rest,
    )

-- so Fore of the held rest's first octet, in whatever the stream grows to, is no more than what was due
pub fore_held : (m : Meaning) → IsLawful m → (ended : Bool) (s t : List ℕ) (p : ℕ) → p + length (held_rest m (cut m s).rest) ≡ length s
    → fore m ended (s ++ t) p ≤ length (due m false s)
fore_held m law ended s t p e =
    let b : back m ended (s ++ t) (length (due m false s)) ≡ back m false s (length (due m false s)) =
    back-append m law ended s t (length (due m false s)) (omega arith) in
    let f : fore m ended (s ++ t) (back m ended (s ++ t) (length (due m false s))) ≤ length (due m false s) =
    fore-back m law ended (s ++ t) (length (due m false s)) in
    let at : back m ended (s ++ t) (length (due m false s)) ≡ p = omega (arith, b, back_due m law s) in
    subst (λ (n : ℕ). fore m ended (s ++ t) n ≤ length (due m false s)) at f
