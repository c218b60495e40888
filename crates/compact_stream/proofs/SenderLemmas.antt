-- What is kept of a sender answers for its octets.
use Rattle.std.proofs.Common.{◌≡◌, ◌≤◌, ◌+◌, ℕ, Bool, true, false, cond, List, [], ◌∷◌, ◌++◌, length, refl, sym, ◌∙◌}
use Rattle.std.proofs.Common.{ap, subst, arith, append_assoc, inl, inr, map, flat_map, bytes_eq, length-append}
use Rattle.std.proofs.lemmas.Bool.{cases_Bool, ne_eqb}
use Rattle.dialogue.specs.Prelude.{Meaning, IsLawful, is_held, Push, Plain, end_from, fore_in, rear_in, Cut}
use Rattle.dialogue.specs.Prelude.{cut, push_of, due_rest, due, image, spans, pushes_of, fore, rear, back}
use Rattle.dialogue.proofs.CutLemmas.{cut_joined}
use Rattle.dialogue.proofs.Laws.{end_from-pushes}
use Rattle.shift_ledger.specs.Prelude.{Kept, in_from, StandsFor, fore_of, rear_of, back_of}
use Rattle.shift_ledger.proofs.Walks.{in_from-append, StandsFor-push_plain}
use Rattle.stream_model.specs.Prelude.{extent}
use Rattle.compact_stream.specs.Prelude.{sent_pushes, CompactSender, sender_of, Keeps, extent_kept, held_rest}
use Rattle.compact_stream.proofs.DuePlaces.{end_from-due, fore-due, rear-due, back-due}
use Rattle.compact_stream.proofs.SamePushes.{StandsFor-same, join_plain}

in_from-push : (m : Meaning) (start : ℕ) (u : List ℕ) (ps : List Push) → in_from start (push_of m u ∷ ps) ≡ in_from (start + length u) ps
in_from-push m start u ps =
    elim (cases_Bool (bytes_eq (m.image u) u)) [ inl e ↦ rw e refl | inr e ↦ rw e refl ]

in_from-map : (m : Meaning) (start : ℕ) (us : List (List ℕ)) → in_from start (map (push_of m) us) ≡ start + length (flat_map (λ u. u) us)
in_from-map m start [] = omega arith
in_from-map m start (u ∷ us) =
    in_from-push m start u (map (push_of m) us) ∙ in_from-map m (start + length u) us ∙ omega (arith, length-append u (flat_map (λ v. v) us))

-- how many octets the pushes cover
pub in_from-pushes : (m : Meaning) (c : Cut) (r : List ℕ) → in_from 0 (pushes_of m c r) ≡ length (flat_map (λ u. u) c.units) + length r
in_from-pushes m c r =
    in_from-append 0 (map (push_of m) c.units) (Plain (length r) ∷ []) ∙ omega (arith, in_from-map m 0 c.units)

-- where what is due ends
pub end_from-sent : (m : Meaning) (ended : Bool) (s : List ℕ) → end_from 0 (sent_pushes m ended (cut m s)) ≡ length (due m ended s)
end_from-sent m true s = end_from-pushes m s
end_from-sent m false s = end_from-due m s

-- the octets are those of the pushes and those of the rest that is kept
pub rest_split : (m : Meaning) (ended : Bool) (r : List ℕ) → length (due_rest m ended r) + length (cond ended [] (held_rest m r)) ≡ length r
rest_split m true r = omega arith
rest_split m false r = elim (cases_Bool (is_held m r)) [ inl e ↦ rw e (omega arith) | inr e ↦ rw e (omega arith) ]

pub octets_are : (m : Meaning) (h : CompactSender) (s : List ℕ) → Keeps m h s → h.ledger.octets_in + length h.rest ≡ length s
octets_are m h s k =
    omega (
      arith,
      k.ledger.octets_in,
      in_from-pushes m (cut m s) (due_rest m h.ended (cut m s).rest),
      rest_split m h.ended (cut m s).rest,
      ap length k.rest,
      ap length (cut_joined m s),
      length-append (flat_map (λ u. u) (cut m s).units) (cut m s).rest,
    )

pub due_is : (m : Meaning) (h : CompactSender) (s : List ℕ) → Keeps m h s → h.ledger.octets_out ≡ length (due m h.ended s)
due_is m h s k = k.ledger.octets_out ∙ end_from-sent m h.ended s

-- a verdict on what is kept is one on what it stands for
pub extent_is : (m : Meaning) (h : CompactSender) (s : List ℕ) → Keeps m h s → extent_kept h ≡ extent (sender_of m h s)
extent_is m h s k =
    let e : h.ledger.octets_in + length h.rest ≡ length s = octets_are m h s k in
    let f : h.ledger.octets_out ≡ length (due m h.ended s) = due_is m h s k in
    let x : extent_kept h ≡ record { initial = h.initial; octets = length s; due = h.ledger.octets_out; ended = h.ended; recent = length h.recent } =
    ap (λ (n : ℕ). record { initial = h.initial; octets = n; due = h.ledger.octets_out; ended = h.ended; recent = length h.recent }) e in
    let y : record { initial = h.initial; octets = length s; due = h.ledger.octets_out; ended = h.ended; recent = length h.recent }
    ≡ record { initial = h.initial; octets = length s; due = length (due m h.ended s); ended = h.ended; recent = length h.recent } =
    ap (λ (n : ℕ). record { initial = h.initial; octets = length s; due = n; ended = h.ended; recent = length h.recent }) f in
    x ∙ y ∙ ap
    (λ (r : List ℕ). record { initial = h.initial; octets = length s; due = length (due m h.ended s); ended = h.ended; recent = length r })
    k.recent

-- Fore, Rear and Back, ended or not
pub fore-sent : (m : Meaning) → IsLawful m → (ended : Bool) (s : List ℕ) (p : ℕ) → fore m ended s p ≡ fore_of (sent_pushes m ended (cut m s)) p
fore-sent m law true s p = ap (λ o. fore_in (spans m s) o p) (sym (end_from-pushes m s))
fore-sent m law false s p = fore-due m law s p

pub rear-sent : (m : Meaning) → IsLawful m → (ended : Bool) (s : List ℕ) (e : ℕ) → rear m ended s e ≡ rear_of (sent_pushes m ended (cut m s)) e
rear-sent m law true s e = ap (λ o. rear_in (spans m s) o e) (sym (end_from-pushes m s))
rear-sent m law false s e = rear-due m law s e

pub back-sent : (m : Meaning) → IsLawful m → (ended : Bool) (s : List ℕ) (q : ℕ) → q ≤ length (due m ended s)
    → back m ended s q ≡ back_of (sent_pushes m ended (cut m s)) q
back-sent m law true s q l = rw (ne_eqb q (length (image m s) + 1) (λ e. omega arith)) refl
back-sent m law false s q l = back-due m law s q l

-- the stream ends: a held rest is pushed
pub end_pushes : (m : Meaning) (l : Kept) (c : Cut) (k : ℕ) → StandsFor l (sent_pushes m false c) k
    → StandsFor
    (record {
      octets_in = l.octets_in + length (held_rest m c.rest);
      octets_out = l.octets_out + length (held_rest m c.rest);
      changed = l.changed;
      spare = l.spare;
    }) (sent_pushes m true c) k
end_pushes m l c k h =
    let pushed : StandsFor (record {
      octets_in = l.octets_in + length (held_rest m c.rest);
      octets_out = l.octets_out + length (held_rest m c.rest);
      changed = l.changed;
      spare = l.spare;
    }) (sent_pushes m false c ++ Plain (length (held_rest m c.rest)) ∷ []) k = StandsFor-push_plain l
    (sent_pushes m false c) k (length (held_rest m c.rest)) l.spare h in
    let n : length c.rest ≡ length (due_rest m false c.rest) + length (held_rest m c.rest) = sym (rest_split m false c.rest) in
    StandsFor-same _ (map (push_of m) c.units) (Plain (length (due_rest m false c.rest)) ∷ Plain (length (held_rest m c.rest)) ∷ [])
    (Plain (length c.rest) ∷ []) k
    (join_plain (length (due_rest m false c.rest)) (length (held_rest m c.rest)) (length c.rest) n)
    (subst (λ (ps : List Push). StandsFor
    (record {
      octets_in = l.octets_in + length (held_rest m c.rest);
      octets_out = l.octets_out + length (held_rest m c.rest);
      changed = l.changed;
      spare = l.spare;
    }) ps k)
    (append_assoc (map (push_of m) c.units) (Plain (length (due_rest m false c.rest)) ∷ []) (Plain (length (held_rest m c.rest)) ∷ [])) pushed)
