-- The changed units that a ledger keeps are those that are not acknowledged whole.
use Rattle.std.proofs.Common.{◌≡◌, ◌≤◌, ◌+◌, ℕ, Bool, cond, List, [], ◌∷◌, ◌++◌, length, refl, sym, ◌∙◌, ap, arith, inl, inr, map, min, nat_lt, count_by, fold}
use Rattle.std.proofs.lemmas.Bool.{cases_lt, lt-ltb, le-ltb}
use Rattle.dialogue.specs.Prelude.{Meaning, Push, Plain, Changed, end_from, changed_ends, open_in, cut, due_rest, push_of, open_units}
use Rattle.dialogue.proofs.PlaceLemmas.{end_from-le}
use Rattle.shift_ledger.proofs.Walks.{open_in-kept}
use Rattle.stream_model.specs.Prelude.{Sender, open_of}
use Rattle.compact_stream.specs.Prelude.{sent_pushes, CompactSender, KeepsSender}

-- plain octets at the end change nothing
ends_tail : (ps : List Push) (at n k : ℕ) → changed_ends at (ps ++ Plain n ∷ []) ≡ changed_ends at (ps ++ Plain k ∷ [])
ends_tail [] at n k = refl
ends_tail (Plain count ∷ ps) at n k = ends_tail ps (at + count) n k
ends_tail (Changed unit image ∷ ps) at n k = ap (λ (ends : List ℕ). (at + length image) ∷ ends) (ends_tail ps (at + length image) n k)

-- no unit ends above the end
test_min : (k o end : ℕ) → end ≤ o → nat_lt (min k o) end ≡ nat_lt k end
test_min k o end l =
    elim (cases_lt k end) [
      | inl below ↦ lt-ltb (min k o) end (omega arith) ∙ sym (lt-ltb k end below)
      | inr above ↦ le-ltb (min k o) end (omega arith) ∙ sym (le-ltb k end above)
    ]

open_min : (ps : List Push) (at k o start : ℕ) → end_from at ps ≤ o
    → fold (λ n end. n + cond (nat_lt (min k o) end) 1 0) start (changed_ends at ps) ≡ fold (λ n end. n + cond (nat_lt k end) 1 0) start
    (changed_ends at ps)
open_min [] at k o start l = refl
open_min (Plain count ∷ ps) at k o start l = open_min ps (at + count) k o start l
open_min (Changed unit image ∷ ps) at k o start l =
    let same : nat_lt (min k o) (at + length image) ≡ nat_lt k (at + length image) =
    test_min k o (at + length image) (omega (arith, end_from-le (at + length image) ps)) in
    open_min ps (at + length image) k o (start + cond (nat_lt (min k o) (at + length image)) 1 0) l
    ∙ ap (λ (b : Bool). fold (λ n end. n + cond (nat_lt k end) 1 0) (start + cond b 1 0) (changed_ends (at + length image) ps)) same

pub open_is : (m : Meaning) (h : CompactSender) (a : Sender) → KeepsSender m h a → length h.ledger.changed ≡ open_of a
open_is m h a k =
    let c = cut m a.octets in
    let o = h.ledger.octets_out in
    let kept : length h.ledger.changed ≡ open_in (sent_pushes m h.ended (cut m a.octets)) (min h.acked h.ledger.octets_out) =
    open_in-kept h.ledger (sent_pushes m h.ended (cut m a.octets)) (min h.acked h.ledger.octets_out) k.keeps.ledger in
    let up : open_in (sent_pushes m h.ended (cut m a.octets)) (min h.acked h.ledger.octets_out) ≡ open_in
    (sent_pushes m h.ended (cut m a.octets)) h.acked =
    open_min (sent_pushes m h.ended (cut m a.octets)) 0 h.acked h.ledger.octets_out 0 (omega (arith, k.keeps.ledger.octets_out)) in
    let tail : open_in (sent_pushes m h.ended (cut m a.octets)) h.acked ≡ open_units m a.octets h.acked =
    ap (count_by (λ end. nat_lt h.acked end))
    (ends_tail (map (push_of m) (cut m a.octets).units) 0 (length (due_rest m h.ended (cut m a.octets).rest))
    (length (cut m a.octets).rest)) in
    kept ∙ up ∙ tail ∙ ap (λ (z : Sender). open_units z.meaning a.octets z.acked) (sym k.is)
