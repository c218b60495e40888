-- The places that the ledger of what is kept answers are those of the stream.
use Rattle.std.proofs.Common.{◌≡◌, ◌≤◌, ◌<◌, ◌+◌, ℕ, Bool, List, length, sym, ◌∙◌, ap, arith, inl, inr, min}
use Rattle.std.proofs.lemmas.Bool.{cases_Bool, eq-eqb}
use Rattle.dialogue.specs.Prelude.{Meaning, IsLawful, end_from, cut, image, due, fore, rear, back}
use Rattle.dialogue.proofs.Laws.{back-mono, length-due-le}
use Rattle.shift_ledger.specs.Prelude.{StandsFor, fore_of, rear_of, back_of}
use Rattle.tcp_segments.specs.Prelude.{one_if}
use Rattle.stream_model.proofs.PassLemmas.{one-le}
use Rattle.stream_model.specs.Prelude.{Sender}
use Rattle.compact_stream.specs.Prelude.{sent_pushes, CompactSender, Keeps, KeepsSender, InRange}
use Rattle.compact_stream.proofs.RearBack.{rear_back}
use Rattle.compact_stream.proofs.SenderLemmas.{octets_are, due_is, fore-sent, rear-sent, back-sent}

-- what the ledger has forgotten lies below Back
pub back_kept-le : (m : Meaning) → IsLawful m → (h : CompactSender) (s : List ℕ) → Keeps m h s → h.acked ≤ h.ledger.octets_out + one_if h.ended
    → back_of (sent_pushes m h.ended (cut m s)) (min h.acked h.ledger.octets_out) ≤ back m h.ended s h.acked
back_kept-le m law h s k i =
    let q = min h.acked h.ledger.octets_out in
    let one : one_if h.ended ≤ 1 = one-le h.ended in
    let d : h.ledger.octets_out ≡ length (due m h.ended s) = due_is m h s k in
    let j : length (due m h.ended s) ≤ length (image m s) = length-due-le m law h.ended s in
    let e : back m h.ended s (min h.acked h.ledger.octets_out) ≡ back_of (sent_pushes m h.ended (cut m s)) (min h.acked h.ledger.octets_out) =
    back-sent m law h.ended s (min h.acked h.ledger.octets_out) (omega arith) in
    let le : back m h.ended s (min h.acked h.ledger.octets_out) ≤ back m h.ended s h.acked =
    back-mono m h.ended s (min h.acked h.ledger.octets_out) h.acked (omega arith) (omega arith) in
    omega arith

-- Back of the place of an end
pub back_past : (m : Meaning) → IsLawful m → (h : CompactSender) (s : List ℕ) (q : ℕ) → Keeps m h s → h.ledger.octets_out < q
    → q ≤ h.ledger.octets_out + one_if h.ended → back m h.ended s q ≡ h.ledger.octets_in + length h.rest + 1
back_past m law h s q k l u =
    elim (cases_Bool h.ended) [
      | inl e ↦
          let at : q ≡ h.ledger.octets_out + 1 = omega (arith, ap one_if e) in
          let n : q ≡ length (image m s) + 1 = at ∙ ap (λ n. n + 1) (due_is m h s k ∙ ap (λ b. length (due m b s)) e) in
          rw (e, eq-eqb q (length (image m s) + 1) n) (omega (arith, octets_are m h s k))
      | inr e ↦ absurd (omega (arith, ap one_if e))
    ]

-- up to Back of a place, Rear is no more than Fore of Back
pub rear_up_to : (m : Meaning) → IsLawful m → (ended : Bool) (s : List ℕ) (q e : ℕ) → q ≤ length (due m ended s) → 1 ≤ e → e ≤ back m ended s q
    → rear m ended s e ≤ fore m ended s (back m ended s q)
rear_up_to m law ended s q e l one h =
    let ps = sent_pushes m ended (cut m s) in
    let b : back m ended s q ≡ back_of (sent_pushes m ended (cut m s)) q = back-sent m law ended s q l in
    let f : fore m ended s (back m ended s q) ≡ fore_of (sent_pushes m ended (cut m s)) (back_of (sent_pushes m ended (cut m s)) q) =
    fore-sent m law ended s (back m ended s q) ∙ ap (fore_of (sent_pushes m ended (cut m s))) b in
    let r : rear_of (sent_pushes m ended (cut m s)) e ≤ fore_of (sent_pushes m ended (cut m s)) (back_of (sent_pushes m ended (cut m s)) q) =
    rear_back (sent_pushes m ended (cut m s)) 0 (end_from 0 (sent_pushes m ended (cut m s))) q e (omega arith) one (omega arith) in
    omega (arith, rear-sent m law ended s e)

-- the same of a sender that it is kept of
pub sender_end : (m : Meaning) → IsLawful m → (h : CompactSender) (a : Sender) (q : ℕ) → KeepsSender m h a → h.ledger.octets_out < q
    → q ≤ h.ledger.octets_out + one_if h.ended → back m a.ended a.octets q ≡ h.ledger.octets_in + length h.rest + 1
sender_end m law h a q k l u = ap (λ (z : Sender). back m z.ended a.octets q) k.is ∙ back_past m law h a.octets q k.keeps l u

pub sender_forgotten : (m : Meaning) → IsLawful m → (h : CompactSender) (a : Sender) → KeepsSender m h a
    → h.acked ≤ h.ledger.octets_out + one_if h.ended
    → back_of (sent_pushes m h.ended (cut m a.octets)) (min h.acked h.ledger.octets_out) ≤ back m a.ended a.octets a.acked
sender_forgotten m law h a k i =
    let e : back m a.ended a.octets a.acked ≡ back m h.ended a.octets h.acked = ap (λ (z : Sender). back m z.ended a.octets z.acked) k.is in
    omega (arith, back_kept-le m law h a.octets k.keeps i)

-- what a ledger answers for the greatest acknowledged place is its Back
pub sender_back : (m : Meaning) → IsLawful m → (h : CompactSender) (a : Sender) (q r : ℕ) → KeepsSender m h a → q ≡ h.acked → q ≤ h.ledger.octets_out
    → (StandsFor h.ledger (sent_pushes m h.ended (cut m a.octets)) (min h.acked h.ledger.octets_out) → min h.acked h.ledger.octets_out ≤ q
    → q ≤ h.ledger.octets_out → r ≡ back_of (sent_pushes m h.ended (cut m a.octets)) q) → r ≡ back m a.ended a.octets a.acked
sender_back m law h a q r k e l f =
    f k.keeps.ledger (omega arith) l
    ∙ sym (back-sent m law h.ended a.octets q (omega (arith, due_is m h a.octets k.keeps)))
    ∙ ap (back m h.ended a.octets) e
    ∙ ap (λ (z : Sender). back m z.ended a.octets z.acked) (sym k.is)

pub sender_back_end : (m : Meaning) → IsLawful m → (h : CompactSender) (a : Sender) (r : ℕ) → KeepsSender m h a → InRange m h
    → h.ledger.octets_out < h.acked → r ≡ h.ledger.octets_in + length h.rest + 1 → r ≡ back m a.ended a.octets a.acked
sender_back_end m law h a r k i l e =
    e ∙ sym (back_past m law h a.octets h.acked k.keeps l i.acked) ∙ ap (λ (z : Sender). back m z.ended a.octets z.acked) (sym k.is)
