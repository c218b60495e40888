-- The recent octets, as a stream goes on, ends or is acknowledged.
use Rattle.std.proofs.Common.{◌≡◌, ◌≤◌, ◌+◌, ◌-◌, ℕ, true, false, List, [], ◌++◌, length, drop, sym, ◌∙◌, ap, arith, inl, inr, min, nat_le}
use Rattle.std.proofs.Math.Seq.{drop-nil}
use Rattle.std.proofs.lemmas.List.{append-nil, length-drop, drop-append-le, drop-drop, drop_all}
use Rattle.std.proofs.lemmas.List.Sums.{prefix_len-le-length}
use Rattle.std.proofs.lemmas.Bool.{cases_lt, cond-true, cond-false, le-leb, lt-leb}
use Rattle.dialogue.specs.Prelude.{Meaning, IsLawful, Span, cut, due, image, spans, back}
use Rattle.dialogue.proofs.Laws.{back-append, back-mono, length-spans, length-due-le}
use Rattle.shift_ledger.proofs.Walks.{back_walk-kept}
use Rattle.tcp_segments.specs.Prelude.{one_if}
use Rattle.stream_model.proofs.PassLemmas.{one-le}
use Rattle.compact_stream.specs.Prelude.{sent_pushes, CompactSender, Keeps, octets_kept, recent_start, back_kept}
use Rattle.compact_stream.proofs.SenderLemmas.{octets_are, due_is, back-sent}
use Rattle.compact_stream.proofs.PlacesKept.{back_past}

-- an open stream has no more octets than it has
pub back-short : (m : Meaning) (s : List ℕ) (q : ℕ) → back m false s q ≤ length s
back-short m s q = omega (arith, prefix_len-le-length (λ (x : Span). nat_le x.past q) (spans m s), length-spans m s)

pub recent_more : (m : Meaning) → IsLawful m → (s t : List ℕ) (q : ℕ) → q ≤ length (due m false s)
    → drop (back m false s q) s ++ t ≡ drop (back m false (s ++ t) q) (s ++ t)
recent_more m law s t q l =
    sym (drop-append-le (back m false s q) s t (back-short m s q))
    ∙ ap (λ (n : ℕ). drop n (s ++ t)) (sym (back-append m law false s t q l))

pub recent_end : (m : Meaning) → IsLawful m → (s : List ℕ) (q : ℕ) → q ≤ length (due m false s) → drop (back m false s q) s ≡ drop (back m true s q) s
recent_end m law s q l =
    ap (λ (n : ℕ). drop n s) (sym (back-append m law true s [] q l) ∙ ap (λ (u : List ℕ). back m true u q) (append-nil s))

-- Back by what is kept
pub back_kept-is : (m : Meaning) → IsLawful m → (h : CompactSender) (s : List ℕ) (q : ℕ) → Keeps m h s → h.acked ≤ q
    → q ≤ h.ledger.octets_out + one_if h.ended → back_kept h q ≡ back m h.ended s q
back_kept-is m law h s q k from to =
    let ps = sent_pushes m h.ended (cut m s) in
    elim (cases_lt h.ledger.octets_out q) [
      | inl past ↦ cond-false _ _ _ (lt-leb q h.ledger.octets_out past) ∙ sym (back_past m law h s q k past to)
      | inr below ↦
          cond-true _ _ _ (le-leb q h.ledger.octets_out below)
          ∙ back_walk-kept h.ledger ps (min h.acked h.ledger.octets_out) q k.ledger (omega arith)
          ∙ sym (back-sent m law h.ended s q (omega (arith, due_is m h s k)))
    ]

-- acknowledged up to this place
pub recent_forgotten : (m : Meaning) → IsLawful m → (h : CompactSender) (s : List ℕ) (q : ℕ) → Keeps m h s → h.acked ≤ q
    → q ≤ h.ledger.octets_out + one_if h.ended → drop (back_kept h q - recent_start h) h.recent ≡ drop (back m h.ended s q) s
recent_forgotten m law h s q k from to =
    let one : one_if h.ended ≤ 1 = one-le h.ended in
    let d : h.ledger.octets_out ≡ length (due m h.ended s) = due_is m h s k in
    let j : length (due m h.ended s) ≤ length (image m s) = length-due-le m law h.ended s in
    let b = back m h.ended s h.acked in
    let up : back m h.ended s h.acked ≤ back m h.ended s q = back-mono m h.ended s h.acked q from (omega arith) in
    let is : back_kept h q ≡ back m h.ended s q = back_kept-is m law h s q k from to in
    let n : octets_kept h ≡ length s = octets_are m h s k in
    let len : length h.recent ≡ length s - back m h.ended s h.acked = ap length k.recent ∙ length-drop (back m h.ended s h.acked) s in
    ap (drop (back_kept h q - recent_start h)) k.recent
    ∙ elim (cases_lt (length s) (back m h.ended s h.acked)) [
      | inl past ↦
          ap (drop (back_kept h q - recent_start h)) (drop_all (back m h.ended s h.acked) s (omega arith))
          ∙ drop-nil (back_kept h q - recent_start h)
          ∙ sym (drop_all (back m h.ended s q) s (omega arith))
      | inr within ↦
          drop-drop (back_kept h q - recent_start h) (back m h.ended s h.acked) s
          ∙ ap (λ (i : ℕ). drop i s) (omega (arith, is, n, len))
    ]
