-- The places of the octets of pushes rise, so that what reaches past Back reaches past its place.
use Rattle.std.proofs.Common.{◌≡◌, ◌≤◌, ◌<◌, ◌+◌, ◌-◌, ℕ, zero, suc, true, false, List, [], ◌∷◌, ◌++◌, length, refl, sym, ◌∙◌, ap, subst, arith, inl, inr, nat_le, replicate, min, ◌⊎◌, Some, slice_get}
use Rattle.std.proofs.lemmas.List.{length-append, length-replicate}
use Rattle.std.proofs.lemmas.Bool.{cases_Bool, cases_lt, le-leb, lt-leb, leb-false}
use Rattle.std.proofs.lemmas.Option.{none-some, same_Some}
use Rattle.dialogue.specs.Prelude.{Push, Plain, Changed, AllProper, Span, plain_spans, spans_from, end_from, fore_in, rear_at, rear_in, back_in}
use Rattle.dialogue.proofs.PlaceLemmas.{length-plain_spans, back_in-plain, back_in-plain_part, back_in-replicate, end_from-le}

-- both ends of spans rise, from these on
abbrev pub Rising : ℕ → ℕ → List Span → Type 0
Rising first past [] = Unit {0}
Rising first past (s ∷ ss) = (first ≤ s.first) × (past ≤ s.past) × (s.first ≤ s.past) × Rising s.first s.past ss

Rising-plain : (n at first past : ℕ) (ss : List Span) → first ≤ at → past ≤ at → ((f p : ℕ) → f ≤ at + n → p ≤ at + n → Rising f p ss)
    → Rising first past (plain_spans at n ++ ss)
Rising-plain zero at first past ss f p h = h first past (omega arith) (omega arith)
Rising-plain (suc n) at first past ss f p h =
    (f, omega arith, omega arith, Rising-plain n (at + 1) at (at + 1) ss (omega arith) (omega arith) (λ f p k l. h f p (omega arith) (omega arith)))

Rising-replicate : (n at len first past : ℕ) (ss : List Span) → first ≤ at → past ≤ at + len
    → ((f p : ℕ) → f ≤ at + len → p ≤ at + len → Rising f p ss) → Rising first past (replicate n (record { first = at; past = at + len }) ++ ss)
Rising-replicate zero at len first past ss f p h = h first past (omega arith) p
Rising-replicate (suc n) at len first past ss f p h = (f, p, omega arith, Rising-replicate n at len at (at + len) ss (omega arith) (omega arith) h)

-- those of pushes do
pub Rising-spans : (ps : List Push) (at first past : ℕ) → first ≤ at → past ≤ at → Rising first past (spans_from at ps)
Rising-spans [] at first past f p = tt
Rising-spans (Plain n ∷ ps) at first past f p =
    Rising-plain n at first past (spans_from (at + n) ps) f p (λ g q k l. Rising-spans ps (at + n) g q k l)
Rising-spans (Changed unit image ∷ ps) at first past f p =
    Rising-replicate unit at (length image) first past (spans_from (at + length image) ps) f (omega arith)
    (λ g q k l. Rising-spans ps (at + length image) g q k l)

-- beyond past q all are
past_on : (ss : List Span) (first past due q p : ℕ) → Rising first past ss → q < past → q < due → q < rear_at due (slice_get ss p)
past_on [] first past due q p r l d = d
past_on (s ∷ ss) first past due q zero r l d = omega (arith, r.1)
past_on (s ∷ ss) first past due q (suc p) r l d = past_on ss s.first s.past due q p r.3 (omega (arith, r.1)) d

-- what ends above Back goes past its place
pub rear_past_back : (ss : List Span) (first past due q e : ℕ) → Rising first past ss → back_in ss q < e → q < due → q < rear_in ss due e
rear_past_back ss first past due q zero r l d = absurd (omega arith)
rear_past_back [] first past due q (suc p) r l d = d
rear_past_back (s ∷ ss) first past due q (suc zero) r l d =
    elim (cases_Bool (nat_le s.past q)) [
      | inl within ↦ absurd (let more : back_in (s ∷ ss) q ≡ suc (back_in ss q) = rw within (omega arith) in omega arith)
      | inr beyond ↦ let f : q < s.past = leb-false _ q beyond in omega arith
    ]
rear_past_back (s ∷ ss) first past due q (suc (suc p)) r l d =
    elim (cases_Bool (nat_le s.past q)) [
      | inl within ↦
          let more : back_in (s ∷ ss) q ≡ suc (back_in ss q) = rw within (omega arith) in
          rear_past_back ss s.first s.past due q (suc p) r.3 (omega arith) d
      | inr beyond ↦ past_on ss s.first s.past due q p r.3 (leb-false _ q beyond) d
    ]

-- what ends above an octet goes past each of its places
pub rear_past : (ss : List Span) (first past due q p e : ℕ) (x : Span) → Rising first past ss → slice_get ss p ≡ Some x → q < x.past → p < e → q < due
    → q < rear_in ss due e
rear_past ss first past due q p zero x r at l k d = absurd (omega arith)
rear_past [] first past due q p (suc e) x r at l k d = d
rear_past (s ∷ ss) first past due q zero (suc zero) x r at l k d = let f : s.past ≡ x.past = ap (λ (y : Span). y.past) (same_Some s x at) in
    omega arith
rear_past (s ∷ ss) first past due q zero (suc (suc e)) x r at l k d = let f : s.past ≡ x.past = ap (λ (y : Span). y.past) (same_Some s x at) in
    past_on ss s.first s.past due q e r.3 (omega arith) d
rear_past (s ∷ ss) first past due q (suc p) (suc zero) x r at l k d = absurd (omega arith)
rear_past (s ∷ ss) first past due q (suc p) (suc (suc e)) x r at l k d = rear_past ss s.first s.past due q p (suc e) x r.3 at l (omega arith) d

first_least : (ss : List Span) (first past p : ℕ) (x : Span) → Rising first past ss → slice_get ss p ≡ Some x → first ≤ x.first
first_least [] first past p x r at = absurd (none-some x at)
first_least (s ∷ ss) first past zero x r at = let f : s.first ≡ x.first = ap (λ (y : Span). y.first) (same_Some s x at) in omega (arith, r.0)
first_least (s ∷ ss) first past (suc p) x r at = omega (arith, r.0, first_least ss s.first s.past p x r.3 at)

-- what begins at or below an octet begins at or below each of its places
pub fore_below : (ss : List Span) (first past due q b p : ℕ) (x : Span) → Rising first past ss → slice_get ss p ≡ Some x → x.first ≤ q → b ≤ p
    → fore_in ss due b ≤ q
fore_below [] first past due q b p x r at l k = absurd (none-some x at)
fore_below (s ∷ ss) first past due q zero p x r at l k = let f : s.first ≤ x.first =
    first_least (s ∷ ss) s.first s.past p x (omega arith, omega arith, r.2, r.3) at in omega arith
fore_below (s ∷ ss) first past due q (suc b) zero x r at l k = absurd (omega arith)
fore_below (s ∷ ss) first past due q (suc b) (suc p) x r at l k = fore_below ss s.first s.past due q b p x r.3 at l (omega arith)

-- where all places are below q, the image ends there
pub end_below : (ps : List Push) (at q : ℕ) → AllProper ps → at ≤ q → back_in (spans_from at ps) q ≡ length (spans_from at ps) → end_from at ps ≤ q
end_below [] at q proper l e = l
end_below (Plain n ∷ ps) at q proper l e =
    let ss = spans_from (at + n) ps in
    let long : length (plain_spans at n ++ ss) ≡ n + length ss = length-append (plain_spans at n) ss
    ∙ ap (λ m. m + length ss) (length-plain_spans at n) in
    elim (cases_lt q (at + n)) [
      | inl part ↦ absurd (let b : back_in (plain_spans at n ++ ss) q ≡ q - at = back_in-plain_part n at ss q l part in omega arith)
      | inr all ↦
          let b : back_in (plain_spans at n ++ ss) q ≡ n + back_in ss q = back_in-plain n at ss q all in
          end_below ps (at + n) q proper.1 all (omega arith)
    ]
end_below (Changed unit image ∷ ps) at q proper l e =
    let s : Span = record { first = at; past = at + length image } in
    let ss = spans_from (at + length image) ps in
    elim (cases_lt q (at + length image)) [
      | inl part ↦ absurd (none unit part proper.0.0 e)
      | inr all ↦
          let b : back_in (replicate unit s ++ ss) q ≡ unit + back_in ss q = back_in-replicate unit s ss q all in
          let long : length (replicate unit s ++ ss) ≡ unit + length ss = length-append (replicate unit s) ss
          ∙ ap (λ m. m + length ss) (length-replicate unit s) in
          end_below ps (at + length image) q proper.1 all (omega arith)
    ]
  where
    none : (unit : ℕ) → q < at + length image → 1 ≤ unit
        → back_in (spans_from at (Changed unit image ∷ ps)) q ≡ length (spans_from at (Changed unit image ∷ ps)) → ⊥
    none zero part one e = omega arith
    none (suc n) part one e =
        let f : nat_le (at + length image) q ≡ false = lt-leb (at + length image) q part in
        let g : back_in (spans_from at (Changed (suc n) image ∷ ps)) q ≡ 0 = rw f refl in
        omega arith

-- and where the image ends there, all places are below it
pub all_below : (ps : List Push) (at q : ℕ) → end_from at ps ≤ q → at ≤ q → back_in (spans_from at ps) q ≡ length (spans_from at ps)
all_below [] at q l k = refl
all_below (Plain n ∷ ps) at q l k =
    let ss = spans_from (at + n) ps in
    let up : at + n ≤ end_from (at + n) ps = end_from-le (at + n) ps in
    back_in-plain n at ss q (omega arith)
    ∙ ap (λ m. n + m) (all_below ps (at + n) q l (omega arith))
    ∙ sym (length-append (plain_spans at n) ss ∙ ap (λ m. m + length ss) (length-plain_spans at n))
all_below (Changed unit image ∷ ps) at q l k =
    let s : Span = record { first = at; past = at + length image } in
    let ss = spans_from (at + length image) ps in
    let up : at + length image ≤ end_from (at + length image) ps = end_from-le (at + length image) ps in
    back_in-replicate unit s ss q (omega arith)
    ∙ ap (λ m. unit + m) (all_below ps (at + length image) q l (omega arith))
    ∙ sym (length-append (replicate unit s) ss ∙ ap (λ m. m + length ss) (length-replicate unit s))

-- up to Back, and from there on: the first octet with a place at k or above begins where the places before it end
abbrev pub Clear : ℕ → ℕ → List Span → Type 0
Clear k low [] = Unit {0}
Clear k low (s ∷ ss) = ((s.past ≤ k) × (low ≤ s.past) × Clear k s.past ss) ⊎ ((k < s.past) × (low ≤ s.first))

Clear-plain : (n at k low : ℕ) (ss : List Span) → low ≤ at → ((l : ℕ) → l ≤ at + n → Clear k l ss) → Clear k low (plain_spans at n ++ ss)
Clear-plain zero at k low ss l h = h low (omega arith)
Clear-plain (suc n) at k low ss l h =
    elim (cases_lt k (at + 1)) [
      | inl beyond ↦ inr (beyond, l)
      | inr within ↦ inl (within, omega arith, Clear-plain n (at + 1) k (at + 1) ss (omega arith) (λ m i. h m (omega arith)))
    ]

Clear-replicate : (n at len k low : ℕ) (ss : List Span) → low ≤ at → at + len ≤ k → ((l : ℕ) → l ≤ at + len → Clear k l ss)
    → Clear k low (replicate n (record { first = at; past = at + len }) ++ ss)
Clear-replicate n at len k low ss l w h = go n low (omega arith)
  where
    go : (n low : ℕ) → low ≤ at + len → Clear k low (replicate n (record { first = at; past = at + len }) ++ ss)
    go zero low l = h low l
    go (suc n) low l = inl (w, l, go n (at + len) (omega arith))

pub Clear-spans : (ps : List Push) (at k low : ℕ) → AllProper ps → low ≤ at → Clear k low (spans_from at ps)
Clear-spans [] at k low proper l = tt
Clear-spans (Plain n ∷ ps) at k low proper l = Clear-plain n at k low (spans_from (at + n) ps) l (λ m i. Clear-spans ps (at + n) k m proper.1 i)
Clear-spans (Changed zero image ∷ ps) at k low proper l = absurd (omega (arith, proper.0.0))
Clear-spans (Changed (suc n) image ∷ ps) at k low proper l =
    elim (cases_lt k (at + length image)) [
      | inl beyond ↦ inr (beyond, l)
      | inr within ↦ Clear-replicate (suc n) at (length image) k low (spans_from (at + length image) ps) l within
          (λ m i. Clear-spans ps (at + length image) k m proper.1 i)
    ]

back_passed : (s : Span) (ss : List Span) (k : ℕ) → s.past ≤ k → back_in (s ∷ ss) k ≡ suc (back_in ss k)
back_passed s ss k l = let e : nat_le s.past k ≡ true = le-leb s.past k l in rw e (omega arith)

back_stopped : (s : Span) (ss : List Span) (k : ℕ) → k < s.past → back_in (s ∷ ss) k ≡ 0
back_stopped s ss k l = let e : nat_le s.past k ≡ false = lt-leb s.past k l in rw e refl

clear_fore : (ss : List Span) (k low due : ℕ) → Clear k low ss → min low due ≤ fore_in ss due (back_in ss k)
clear_fore [] k low due c = omega arith
clear_fore (s ∷ ss) k low due c =
    elim c [
      | inl h ↦
          let more : min s.past due ≤ fore_in ss due (back_in ss k) = clear_fore ss k s.past due h.2 in
          subst (λ (n : ℕ). min low due ≤ fore_in (s ∷ ss) due n) (sym (back_passed s ss k h.0)) (omega (arith, h.1))
      | inr h ↦ subst (λ (n : ℕ). min low due ≤ fore_in (s ∷ ss) due n) (sym (back_stopped s ss k h.0)) (omega (arith, h.1))
    ]

-- what ends at or below Back ends below what begins there
pub rear_before_fore : (ss : List Span) (k low due e : ℕ) → Clear k low ss → e ≤ back_in ss k → rear_in ss due e ≤ fore_in ss due (back_in ss k)
rear_before_fore ss k low due zero c l = omega arith
rear_before_fore [] k low due (suc p) c l = absurd (omega arith)
rear_before_fore (s ∷ ss) k low due (suc zero) c l =
    elim c [
      | inl h ↦ subst (λ (n : ℕ). rear_in (s ∷ ss) due 1 ≤ fore_in (s ∷ ss) due n) (sym (back_passed s ss k h.0)) (clear_fore ss k s.past due h.2)
      | inr h ↦ absurd (let b : back_in (s ∷ ss) k ≡ 0 = back_stopped s ss k h.0 in omega arith)
    ]
rear_before_fore (s ∷ ss) k low due (suc (suc p)) c l =
    elim c [
      | inl h ↦
          let b : back_in (s ∷ ss) k ≡ suc (back_in ss k) = back_passed s ss k h.0 in
          subst (λ (n : ℕ). rear_in (s ∷ ss) due (suc (suc p)) ≤ fore_in (s ∷ ss) due n) (sym b)
          (rear_before_fore ss k s.past due (suc p) h.2 (omega arith))
      | inr h ↦ absurd (let b : back_in (s ∷ ss) k ≡ 0 = back_stopped s ss k h.0 in omega arith)
    ]
