-- What is kept of a stream is kept of it by each dialogue that reads it alike.
use Rattle.std.proofs.Common.{◌≡◌, ℕ, Bool, List, [], ◌∷◌, ◌++◌, length, drop, refl, sym, ◌∙◌, ap, subst, not, ◌&&◌, cond, map, min}
use Rattle.dialogue.specs.Prelude.{Meaning, is_held, is_empty, is_released, Push, Plain, Cut, cut, push_of, due_rest, ReadAlike}
use Rattle.dialogue.proofs.Alike.{cut_alike, pushes_alike, rest_alike, back_alike}
use Rattle.shift_ledger.specs.Prelude.{StandsFor}
use Rattle.stream_model.specs.Prelude.{Sender}
use Rattle.compact_stream.specs.Prelude.{CompactSender, Keeps, KeepsSender, InRange, sent_pushes, held_rest}

held-alike : (m n : Meaning) → ((r : List ℕ) → m.holds r ≡ n.holds r) → (r : List ℕ) → is_held m r ≡ is_held n r
held-alike m n h [] = refl
held-alike m n h (x ∷ r) = h (x ∷ r)

sent-alike : (m n : Meaning) (ended : Bool) (s : List ℕ) → ReadAlike m n s → sent_pushes m ended (cut m s) ≡ sent_pushes n ended (cut n s)
sent-alike m n ended s a =
    ap (λ ps. ps ++ Plain (length (due_rest m ended (cut m s).rest)) ∷ []) (pushes_alike m n (cut m s).units a.image)
    ∙ ap (λ (r : List ℕ). map (push_of n) (cut m s).units ++ Plain (length r) ∷ []) (rest_alike m n a.holds ended (cut m s).rest)
    ∙ ap (λ (c : Cut). sent_pushes n ended c) (cut_alike m n s a)

pub keeps_alike : (m n : Meaning) (h : CompactSender) (s : List ℕ) → ReadAlike m n s → Keeps m h s → Keeps n h s
keeps_alike m n h s a k =
    let c : cut m s ≡ cut n s = cut_alike m n s a in
    let held : is_held m (cut m s).rest ≡ is_held n (cut m s).rest = held-alike m n a.holds (cut m s).rest in
    record {
      rest =
          k.rest
          ∙ ap (λ (b : Bool). cond h.ended [] (cond b (cut m s).rest [])) held
          ∙ ap (λ (d : Cut). cond h.ended [] (held_rest n d.rest)) c;
      released = λ e.
          k.released e
          ∙ ap (λ (b : Bool). not b && not (is_empty (cut m s).rest)) held
          ∙ ap (λ (d : Cut). is_released n d.rest) c;
      ledger = subst (λ (ps : List Push). StandsFor h.ledger ps (min h.acked h.ledger.octets_out)) (sent-alike m n h.ended s a) k.ledger;
      recent = k.recent ∙ ap (λ (p : ℕ). drop p s) (back_alike m n h.ended s h.acked a);
    }

pub sender_alike : (m n : Meaning) (h : CompactSender) (a : Sender) → ReadAlike m n a.octets → KeepsSender m h a
    → KeepsSender n h (record a { meaning = n })
sender_alike m n h a alike k = record {
  is = ap (λ (x : Sender). record x { meaning = n }) k.is;
  keeps = keeps_alike m n h a.octets alike k.keeps;
}

pub range_alike : (m n : Meaning) (h : CompactSender) → ((s : List ℕ) → m.first_end s ≡ n.first_end s) → InRange m h → InRange n h
range_alike m n h same i = record {
  octets = i.octets;
  image = i.image;
  acked = i.acked;
  rest = sym (same h.rest) ∙ i.rest;
  recent = i.recent;
}
