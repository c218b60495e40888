-- Of a stream nothing waits but a held rest.
use Rattle.std.proofs.Common.{◌≡◌, ◌≤◌, ◌<◌, ◌+◌, ℕ, Bool, true, false, cond, List, [], ◌∷◌, ◌++◌, length, refl, sym, ◌∙◌, ap, subst, arith, append_assoc, inl, inr, map, ◌&&◌, ◌==◌, ◌⊎◌, flat_map, append-nil, length-append}
use Rattle.std.proofs.lemmas.List.Sums.{prefix_len-le-length}
use Rattle.std.proofs.lemmas.Bool.{cases_Bool, cases_lt, ne_eqb, eq-eqb, and_right}
use Rattle.dialogue.specs.Prelude.{Meaning, IsRest, IsLawful, is_held, Plain, Span, end_from, back_in, AllProper, cut, due_rest, push_of, pushes_of, image, due, spans, back}
use Rattle.dialogue.proofs.PlaceLemmas.{Beyond, back_in-beyond, end_from-append, AllProper-append}
use Rattle.dialogue.proofs.CutLemmas.{IsRest-nil, IsRest-cut, cut_joined, end_from-map, length-spans_from, AllUnits-cut, AllProper-map}
use Rattle.dialogue.proofs.Growth.{due_spans}
use Rattle.dialogue.proofs.Laws.{spans_due, length-spans, end_from-pushes, length-due-le}
use Rattle.stream_model.specs.Session.{Sender}
use Rattle.stream_model.specs.Progress.{held_rest, held_of, OnlyHeldWaits}
use Rattle.stream_model.proofs.SpanLemmas.{all_below, end_below}

-- a rest is what is due of it, and what is held
rest_parts : (m : Meaning) (ended : Bool) (r : List ℕ) → r ≡ due_rest m ended r ++ held_rest m ended r
rest_parts m true r = sym (append-nil r)
rest_parts m false r = elim (is_held m r) as (λ b. r ≡ cond b [] r ++ cond b r []) [ true ↦ refl | false ↦ sym (append-nil r) ]

image_parts : (m : Meaning) (ended : Bool) (s : List ℕ) → image m s ≡ due m ended s ++ held_rest m ended (cut m s).rest
image_parts m ended s =
    let units = flat_map m.image (cut m s).units in
    ap (λ r. units ++ r) (rest_parts m ended (cut m s).rest)
    ∙ sym (append_assoc units (due_rest m ended (cut m s).rest) (held_rest m ended (cut m s).rest))

held_is_rest : (m : Meaning) → IsLawful m → (ended : Bool) (s : List ℕ) → IsRest m (held_rest m ended (cut m s).rest)
held_is_rest m law true s = IsRest-nil m law
held_is_rest m law false s =
    elim (is_held m (cut m s).rest) as (λ b. IsRest m (cond b (cut m s).rest [])) [ true ↦ IsRest-cut m law s | false ↦ IsRest-nil m law ]

held_holds : (m : Meaning) (ended : Bool) (r : List ℕ) → (held_rest m ended r ≡ []) ⊎ (m.holds (held_rest m ended r) ≡ true)
held_holds m true r = inl refl
held_holds m false [] = inl refl
held_holds m false (x ∷ xs) =
    elim (cases_Bool (m.holds (x ∷ xs))) [
      | inl e ↦ inr (rw e e)
      | inr e ↦ inl (rw e refl)
    ]

-- all places of a stream are below its image's end, and below no other place of it
pub all_in : (m : Meaning) (s : List ℕ) (q : ℕ) → length (image m s) ≤ q → back_in (spans m s) q ≡ length s
all_in m s q l = all_below (pushes_of m (cut m s) (cut m s).rest) 0 q (omega (arith, end_from-pushes m s)) (omega arith) ∙ length-spans m s

pub proper : (m : Meaning) → IsLawful m → (s : List ℕ) → AllProper (pushes_of m (cut m s) (cut m s).rest)
proper m law s = AllProper-append (map (push_of m) (cut m s).units) _ (AllProper-map m law (cut m s).units (AllUnits-cut m law s)) (tt, tt)

pub back_within : (m : Meaning) (s : List ℕ) (q : ℕ) → back_in (spans m s) q ≤ length s
back_within m s q = omega (arith, within (spans m s), length-spans m s)
  where
    within : (ss : List Span) → back_in ss q ≤ length ss
    within ss = prefix_len-le-length _ ss

pub not_all_in : (m : Meaning) → IsLawful m → (s : List ℕ) (q : ℕ) → q < length (image m s) → back_in (spans m s) q < length s
not_all_in m law s q l =
    elim (cases_lt (back_in (spans m s) q) (length s)) [
      | inl less ↦ less
      | inr more ↦
          let all : back_in (spans m s) q ≡ length (spans m s) = omega (arith, back_within m s q, length-spans m s) in
          absurd (omega (arith, end_below (pushes_of m (cut m s) (cut m s).rest) 0 q (proper m law s) (omega arith) all, end_from-pushes m s))
    ]

-- Back of what is due, in a stream that has not ended
back_due : (m : Meaning) → IsLawful m → (s : List ℕ)
    → back_in (spans m s) (length (due m false s)) + length (held_rest m false (cut m s).rest) ≡ length s
back_due m law s =
    let c = cut m s in
    let dr = due_rest m false c.rest in
    let a : (more : List Span) × (spans m s ≡ due_spans m (cut m s) ++ more) × Beyond (length (due m false s)) more = spans_due m law s in
    let same : back_in (spans m s) (length (due m false s)) ≡ back_in (due_spans m (cut m s)) (length (due m false s)) =
    ap (λ ss. back_in ss (length (due m false s))) a.1
    ∙ back_in-beyond (due_spans m (cut m s)) a.0 (length (due m false s)) (length (due m false s)) a.2 (omega arith) in
    let end : end_from 0 (pushes_of m c dr) ≡ length (due m false s) =
    end_from-append 0 (map (push_of m) c.units) (Plain (length dr) ∷ [])
    ∙ omega (arith, end_from-map m 0 c.units, length-append (flat_map m.image c.units) dr) in
    let all : back_in (due_spans m (cut m s)) (length (due m false s)) ≡ length (due_spans m (cut m s)) =
    all_below (pushes_of m c dr) 0 (length (due m false s)) (omega arith) (omega arith) in
    omega (
      arith,
      same,
      all,
      length-spans_from m 0 c.units dr,
      length-append (flat_map (λ u. u) c.units) dr,
      length-append (flat_map (λ u. u) c.units) c.rest,
      ap length (cut_joined m s),
      ap length (rest_parts m false c.rest),
      length-append dr (held_rest m false c.rest),
    )

-- a place of the image is no place of the end
pub back_is : (m : Meaning) (ended : Bool) (s : List ℕ) (q : ℕ) → q ≤ length (image m s) → back m ended s q ≡ back_in (spans m s) q
back_is m ended s q l =
    let ne : (q == length (image m s) + 1) ≡ false = ne_eqb q (length (image m s) + 1) (λ e. omega arith) in
    let off : (ended && (q == length (image m s) + 1)) ≡ false = and_right ended _ ne in
    rw off refl

octets_in : (m : Meaning) → IsLawful m → (ended : Bool) (s : List ℕ)
    → back m ended s (length (due m ended s)) + length (held_rest m ended (cut m s).rest) ≡ length s
octets_in m law true s = omega (arith, back_is m true s (length (due m true s)) (omega arith), all_in m s (length (image m s)) (omega arith))
octets_in m law false s = omega (arith, back_is m false s (length (due m false s)) (length-due-le m law false s), back_due m law s)

ending_in : (m : Meaning) (s : List ℕ) → back m true s (length (due m true s) + 1) ≡ length s + 1
ending_in m s = let e : (length (image m s) + 1 == length (image m s) + 1) ≡ true = eq-eqb (length (image m s) + 1) (length (image m s) + 1) refl in
    rw e refl

pub only_held : (a : Sender) → IsLawful a.meaning → OnlyHeldWaits a
only_held a law = record {
  due = image_parts a.meaning a.ended a.octets;
  rest = held_is_rest a.meaning law a.ended a.octets;
  holds = held_holds a.meaning a.ended (cut a.meaning a.octets).rest;
  octets =
      λ e. subst (λ (q : ℕ). back a.meaning a.ended a.octets q + length (held_of a) ≡ length a.octets) (sym e)
      (octets_in a.meaning law a.ended a.octets);
  ending = λ b e.
      subst (λ (q : ℕ). back a.meaning a.ended a.octets q ≡ length a.octets + 1) (sym e)
      (subst (λ (x : Bool). back a.meaning x a.octets (length (due a.meaning x a.octets) + 1) ≡ length a.octets + 1) (sym b)
      (ending_in a.meaning a.octets));
}
