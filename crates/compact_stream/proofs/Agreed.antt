-- What is kept of a sender answers as it does, from the greatest acknowledged place on.
use Rattle.std.proofs.Common.{◌≡◌, ◌≤◌, ◌<◌, ◌+◌, ℕ, Bool, true, false, List, length, refl, sym, ◌∙◌, ap, subst, arith, inl, inr, min}
use Rattle.std.proofs.lemmas.Bool.{cases_lt, cond-false, lt-leb, ne_eqb}
use Rattle.std.proofs.lemmas.Option.{slice_get_past}
use Rattle.dialogue.specs.Prelude.{Meaning, IsLawful, cut, due, image, spans, fore, rear, back, fore_at}
use Rattle.dialogue.proofs.Laws.{length-spans, length-due-le}
use Rattle.shift_ledger.specs.Prelude.{fore_by, rear_by}
use Rattle.shift_ledger.proofs.Walks.{fore_walk-kept}
use Rattle.shift_ledger.proofs.RearWalk.{rear_walk-kept}
use Rattle.stream_model.specs.Prelude.{Sender, Agree, standing}
use Rattle.compact_stream.specs.Prelude.{CompactSender, Keeps, KeepsSender, InRange, sender_of, sent_pushes, octets_kept, recent_back, standing_kept}
use Rattle.compact_stream.proofs.ImageCopied.{image_copied}
use Rattle.compact_stream.proofs.PlacesKept.{back_kept-le}
use Rattle.compact_stream.proofs.RecentLemmas.{back_kept-is, back-short}
use Rattle.compact_stream.proofs.SenderLemmas.{octets_are, due_is, extent_is, fore-sent, rear-sent}

back_is : (m : Meaning) → IsLawful m → (h : CompactSender) (s : List ℕ) → InRange m h → Keeps m h s → recent_back h ≡ back m h.ended s h.acked
back_is m law h s i k = back_kept-is m law h s h.acked k (omega arith) i.acked

fore_is : (m : Meaning) → IsLawful m → (h : CompactSender) (s : List ℕ) (p : ℕ) → InRange m h → Keeps m h s → recent_back h ≤ p
    → fore_by h.ledger p ≡ fore m h.ended s p
fore_is m law h s p i k l =
    fore_walk-kept h.ledger (sent_pushes m h.ended (cut m s)) (min h.acked h.ledger.octets_out) p k.ledger
    (omega (arith, back_kept-le m law h s k i.acked, back_is m law h s i k))
    ∙ sym (fore-sent m law h.ended s p)

rear_is : (m : Meaning) → IsLawful m → (h : CompactSender) (s : List ℕ) (e : ℕ) → InRange m h → Keeps m h s → recent_back h ≤ e
    → rear_by h.ledger e ≡ rear m h.ended s e
rear_is m law h s e i k l =
    rear_walk-kept h.ledger (sent_pushes m h.ended (cut m s)) (min h.acked h.ledger.octets_out) e k.ledger
    (omega (arith, back_kept-le m law h s k i.acked, back_is m law h s i k))
    ∙ sym (rear-sent m law h.ended s e)

-- where the end is acknowledged too, nothing is left to send
none_left : (m : Meaning) → IsLawful m → (h : CompactSender) (s : List ℕ) → InRange m h → Keeps m h s → h.ledger.octets_out < h.acked
    → fore_by h.ledger (recent_back h) ≡ h.ledger.octets_out
none_left m law h s i k past =
    let end : recent_back h ≡ octets_kept h + 1 = cond-false _ _ _ (lt-leb h.acked h.ledger.octets_out past) in
    fore_is m law h s (recent_back h) i k (omega arith)
    ∙ ap (fore_at (length (due m h.ended s))) (slice_get_past (spans m s) (recent_back h) (omega (arith, end, octets_are m h s k, length-spans m s)))
    ∙ sym (due_is m h s k)

part_is : (m : Meaning) → IsLawful m → (h : CompactSender) (s : List ℕ) (lo hi : ℕ) → InRange m h → Keeps m h s
    → fore_by h.ledger (recent_back h) ≤ lo → lo < hi → hi ≤ h.ledger.octets_out
    → (standing_kept h).part lo hi ≡ (standing (sender_of m h s)).part lo hi
part_is m law h s lo hi i k from less within =
    elim (cases_lt h.ledger.octets_out h.acked) [
      | inl past ↦ absurd (omega (arith, none_left m law h s i k past))
      | inr up ↦
          let short : h.acked ≤ length (image m s) = omega (arith, due_is m h s k, length-due-le m law h.ended s) in
          let inside : recent_back h ≤ octets_kept h =
          omega (arith, back_is m law h s i k, octets_are m h s k, back_inside h.ended h.acked short) in
          image_copied m law h s lo hi k up inside from (omega (arith, less)) within
    ]
  where
    back_inside : (ended : Bool) (q : ℕ) → q ≤ length (image m s) → back m ended s q ≤ length s
    back_inside false q l = back-short m s q
    back_inside true q l = rw (ne_eqb q (length (image m s) + 1) (λ e. omega arith)) (back-short m s q)

agrees : (m : Meaning) → IsLawful m → (h : CompactSender) (s : List ℕ) → InRange m h → Keeps m h s
    → Agree (standing_kept h) (standing (sender_of m h s))
agrees m law h s i k = record {
  extent = extent_is m h s k;
  mss = refl;
  acked = refl;
  within = i.acked;
  back = λ q from to. back_kept-is m law h s q k from to;
  fore = λ p l. fore_is m law h s p i k l;
  rear = λ e l. rear_is m law h s e i k l;
  part = λ lo hi from less within. part_is m law h s lo hi i k from less within;
}

pub sender_agrees : (m : Meaning) (h : CompactSender) (a : Sender) → IsLawful m → InRange m h → KeepsSender m h a
    → Agree (standing_kept h) (standing a)
sender_agrees m h a law i k = subst (λ (z : Sender). Agree (standing_kept h) (standing z)) (sym k.is) (agrees m law h a.octets i k.keeps)
