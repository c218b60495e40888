-- Writing a name label by label.
use Rattle.std.proofs.Common.{◌≡◌, ℕ, suc, ◌+◌, ◌≤◌, ◌<◌, false, List, [], ◌∷◌, ◌++◌, length, take, drop, Option, Some, None, refl, sym, ap, subst, ◌∙◌, append_assoc, arith, inl, inr, slice_index_or, nat_lt, take_at, drop_at, append-nil, length-append, length-drop, bytes_eq}
use Rattle.std.specs.List.{AllByRecursion}
use Rattle.std.proofs.lemmas.Bool.{cases_Bool}
use Rattle.std.proofs.lemmas.Slice.Eq.{bytes_eq-Decides}
use Rattle.dns_names.proofs.Kept.{found-with_start}
use Rattle.dns_names.specs.Prelude.{spelled, IsLabel, Start, found, pointer, Added, with_start, Text, put_name, BeginsWith, GrewBy, Ends, EndsAt}
use Rattle.dns_names.specs.Spelling.{spell}
use Rattle.dns_names.specs.Inside.Longest.{ending}
use Rattle.dns_names.proofs.Longest.{ends-at}

-- Part of a name was written; its other labels are left.
pub record Puts (known : List Start) (labels : List (List ℕ)) (out0 : List ℕ) (left out : List ℕ) (now : List Start) : Type 0 where
  pub rest : List (List ℕ)
  pub left_is : left ≡ spelled rest
  pub all : AllByRecursion IsLabel rest
  pub octets : out ++ Added.octets (spell known (length out) rest) ≡ out0 ++ Added.octets (spell known (length out0) labels)
  pub starts : now ++ Added.starts (spell known (length out) rest) ≡ known ++ Added.starts (spell known (length out0) labels)
  pub fresh : (o : List ℕ) → length o ≤ length left → found now o ≡ found known o

with_start-append : (place : ℕ) (octets : List ℕ) (starts : List Start) → with_start place octets starts ≡ with_start place octets [] ++ starts
with_start-append place octets starts =
    elim (cases_Bool (nat_lt place 16384)) [
      | inl t ↦ rw t refl
      | inr f ↦ rw f refl
    ]

-- the name that is left is no name, or has a first label
pub record Puts_label (count : ℕ) (more : List ℕ) (rest : List (List ℕ)) : Type 0 where
  pub label : List ℕ
  pub labels : List (List ℕ)
  pub is : rest ≡ label ∷ labels
  pub count_is : length label ≡ count
  pub more_is : more ≡ label ++ spelled labels

first_label : (count : ℕ) (more : List ℕ) (rest : List (List ℕ)) → count ∷ more ≡ spelled rest → Puts_label count more rest
first_label count more [] e = absurd cc
first_label count more (l ∷ ls) e = record { label = l; labels = ls; is = refl; count_is = cc; more_is = cc }

-- what is written at a label whose suffix stands already, or doesn't
spell-some : (known : List Start) (place : ℕ) (l : List ℕ) (ls : List (List ℕ)) (to : ℕ) → found known (spelled (l ∷ ls)) ≡ Some to
    → spell known place (l ∷ ls) ≡ record { octets = pointer to; starts = [] }
unfolding spell
spell-some known place l ls to e = rw e refl

spell-none : (known : List Start) (place : ℕ) (l : List ℕ) (ls : List (List ℕ)) → found known (spelled (l ∷ ls)) ≡ None
    → spell known place (l ∷ ls)
    ≡ record {
      octets = length l ∷ (l ++ Added.octets (spell known (place + 1 + length l) ls));
      starts = with_start place (spelled (l ∷ ls))
          (Added.starts (spell known (place + 1 + length l) ls));
    }
unfolding spell
spell-none known place l ls e = rw e refl

spell-nil : (known : List Start) (place : ℕ) → spell known place [] ≡ record { octets = 0 ∷ []; starts = [] }
unfolding spell
spell-nil known place = refl

lengths_differ : (a b : List ℕ) → length b < length a → bytes_eq a b ≡ false
lengths_differ a b lt =
    elim (cases_Bool (bytes_eq a b)) [
      | inl t ↦ absurd (omega (arith, ap length ((bytes_eq-Decides a b).0 t)))
      | inr f ↦ f
    ]

module _ (known : List Start) (labels : List (List ℕ)) (out0 : List ℕ) where
  pub Puts-end : (out : List ℕ) (now : List Start) → Puts known labels out0 [] out now
      → (out ++ 0 ∷ [] ≡ out0 ++ Added.octets (spell known (length out0) labels)) × (now ≡ known ++ Added.starts (spell known (length out0) labels))
  Puts-end out now p =
      let none : p.rest ≡ [] = no_label p.rest p.left_is in
      let s : spell known (length out) p.rest ≡ record { octets = 0 ∷ []; starts = [] } = ap (spell known (length out)) none
      ∙ spell-nil known (length out) in
      (ap (λ (x : Added). out ++ x.octets) (sym s) ∙ p.octets, sym (append-nil now) ∙ ap (λ (x : Added). now ++ x.starts) (sym s) ∙ p.starts)
    where
      no_label : (rest : List (List ℕ)) → [] ≡ spelled rest → rest ≡ []
      no_label [] e = refl
      no_label (l ∷ ls) e = absurd cc

  pub Puts-pointer : (count : ℕ) (more out : List ℕ) (now : List Start) (to : ℕ) → Puts known labels out0 (count ∷ more) out now
      → found known (count ∷ more) ≡ Some to
      → (out ++ pointer to ≡ out0 ++ Added.octets (spell known (length out0) labels))
      × (now ≡ known ++ Added.starts (spell known (length out0) labels))
  Puts-pointer count more out now to p e =
      let f = first_label count more p.rest p.left_is in
      let whole : count ∷ more ≡ spelled (f.label ∷ f.labels) = p.left_is ∙ ap spelled f.is in
      let s : spell known (length out) p.rest ≡ record { octets = pointer to; starts = [] } = ap (spell known (length out)) f.is
      ∙ spell-some known (length out) f.label f.labels to (ap (found known) (sym whole) ∙ e) in
      (ap (λ (x : Added). out ++ x.octets) (sym s) ∙ p.octets, sym (append-nil now) ∙ ap (λ (x : Added). now ++ x.starts) (sym s) ∙ p.starts)

  -- the label lies within what is left
  pub Puts-within : (count : ℕ) (more out : List ℕ) (now : List Start) → Puts known labels out0 (count ∷ more) out now → count ≤ length more
  Puts-within count more out now p =
      let f = first_label count more p.rest p.left_is in
      omega (arith, ap length f.more_is, length-append f.label (spelled f.labels), f.count_is)

  pub Puts-label : (count : ℕ) (more out : List ℕ) (now : List Start) → Puts known labels out0 (count ∷ more) out now
      → found now (count ∷ more) ≡ None
      → Puts known labels out0 (drop count more) (out ++ count ∷ take count more) (now ++ with_start (length out) (count ∷ more) [])
  Puts-label count more out now p absent =
      let e : found known (count ∷ more) ≡ None = sym (p.fresh (count ∷ more) (omega arith)) ∙ absent in
      let f = first_label count more p.rest p.left_is in
      let l = f.label in
      let ls = f.labels in
      let whole : count ∷ more ≡ spelled (l ∷ ls) = p.left_is ∙ ap spelled f.is in
      let front : take count more ≡ l = ap (take count) f.more_is ∙ take_at l (spelled ls) count f.count_is in
      let back : drop count more ≡ spelled ls = ap (drop count) f.more_is ∙ drop_at l (spelled ls) count f.count_is in
      let both : count ∷ take count more ≡ length l ∷ l = ap (λ (x : ℕ). x ∷ take count more) (sym f.count_is)
      ∙ ap (λ (x : List ℕ). length l ∷ x) front in
      let place : length (out ++ count ∷ take count more) ≡ length out + 1 + length l = ap (λ (x : List ℕ). length (out ++ x)) both
      ∙ omega (arith, length-append out (length l ∷ l)) in
      let next = spell known (length out + 1 + length l) ls in
      let s : spell known (length out) p.rest
      ≡ record { octets = length l ∷ (l ++ next.octets); starts = with_start (length out) (spelled (l ∷ ls)) next.starts } =
      ap (spell known (length out)) f.is ∙ spell-none known (length out) l ls (ap (found known) (sym whole) ∙ e) in
      let all : AllByRecursion IsLabel (l ∷ ls) = subst (λ (x : List (List ℕ)). AllByRecursion IsLabel x) f.is p.all in
      record {
        rest = ls;
        left_is = back;
        all = all.1;
        octets = ap (λ (k : ℕ). (out ++ count ∷ take count more) ++ Added.octets (spell known k ls)) place
            ∙ ap (λ (x : List ℕ). (out ++ x) ++ next.octets) both ∙ append_assoc out (length l ∷ l) next.octets
            ∙ ap (λ (x : Added). out ++ x.octets) (sym s) ∙ p.octets;
        starts = ap (λ (k : ℕ). (now ++ with_start (length out) (count ∷ more) []) ++ Added.starts (spell known k ls)) place
            ∙ append_assoc now (with_start (length out) (count ∷ more) []) next.starts
            ∙ ap (λ (x : List ℕ). now ++ (with_start (length out) x [] ++ next.starts)) whole
            ∙ ap (λ (x : List Start). now ++ x) (sym (with_start-append (length out) (spelled (l ∷ ls)) next.starts))
            ∙ ap (λ (x : Added). now ++ x.starts) (sym s) ∙ p.starts;
        fresh = λ o le.
            let shorter : length o ≤ length more = omega (arith, length-drop count more) in
            found-with_start now (length out) (count ∷ more) o absent (lengths_differ (count ∷ more) o (omega arith)) ∙ p.fresh o (omega arith);
      }

  -- the same of a list that is not empty

  pub Left-ends : (left out : List ℕ) (now : List Start) (place : Option ℕ) → Puts known labels out0 left out now → EndsAt known left place
      → (out ++ ending place ≡ out0 ++ Added.octets (spell known (length out0) labels))
      × (now ≡ known ++ Added.starts (spell known (length out0) labels))
  Left-ends left out now None p e = Puts-end out now (subst (λ (x : List ℕ). Puts known labels out0 x out now) e p)
  Left-ends [] out now (Some to) p e = absurd (omega (arith, e.0))
  Left-ends (count ∷ more) out now (Some to) p e = Puts-pointer count more out now to p e.1

  pub Left-closed : (left out : List ℕ) (now : List Start) (place : Option ℕ) → Puts known labels out0 left out now → EndsAt known left place
      → Ends now left
  Left-closed left out now place p e =
      elim (ends-at known left place e) [
        | inl none ↦ inl none
        | inr kept ↦ inr (kept.0, p.fresh left (omega arith) ∙ kept.1)
      ]

  pub Left-new : (left out : List ℕ) (now : List Start) → Puts known labels out0 left out now → found known left ≡ None → found now left ≡ None
  Left-new left out now p e = p.fresh left (omega arith) ∙ e

  pub Left-within : (left out : List ℕ) (now : List Start) → 1 ≤ length left → Puts known labels out0 left out now
      → 1 + slice_index_or left 0 0 ≤ length left
  Left-within [] out now le p = absurd (omega arith)
  Left-within (count ∷ more) out now le p = omega (arith, Puts-within count more out now p)

  pub Left-label : (left out : List ℕ) (now : List Start) → 1 ≤ length left → Puts known labels out0 left out now → found known left ≡ None
      → Puts known labels out0 (drop (1 + slice_index_or left 0 0) left) (out ++ take (1 + slice_index_or left 0 0) left)
      (now ++ with_start (length out) left [])
  Left-label [] out now le p e = absurd (omega arith)
  Left-label (count ∷ more) out now le p e =
      let n : 1 + count ≡ suc count = omega arith in
      rw n (Puts-label count more out now p (Left-new (count ∷ more) out now p e))

-- what ends a name is at least one octet
pub ending-some : (place : Option ℕ) → 1 ≤ length (ending place)
ending-some None = omega arith
ending-some (Some place) = omega arith

pub put_name-is : (o0 o1 : List ℕ) (s0 s1 : List Start) (ls : List (List ℕ)) → o1 ≡ o0 ++ Added.octets (spell s0 (length o0) ls)
    → s1 ≡ s0 ++ Added.starts (spell s0 (length o0) ls)
    → record { octets = o1; starts = s1 } ≡ put_name (record { octets = o0; starts = s0 }) ls
put_name-is o0 o1 s0 s1 ls eo es = rw (eo, es) refl

-- nothing was put yet, and something is put behind what was
pub grew_none : (known : List Start) (old : List ℕ) → GrewBy known old known old
grew_none known old = (record { octets = []; starts = [] }, sym (append-nil old), sym (append-nil known))

pub grew_more : (known : List Start) (old : List ℕ) (starts : List Start) (out : List ℕ) (later : List Start) (new : List ℕ) (more : Added)
    → GrewBy known old starts out → new ≡ out ++ more.octets → later ≡ starts ++ more.starts → GrewBy known old later new
grew_more known old starts out later new more grew octets_are starts_are =
    let so_far = grew.0 in (
      record { octets = so_far.octets ++ more.octets; starts = so_far.starts ++ more.starts },
      octets_are ∙ ap (λ xs. xs ++ more.octets) grew.1 ∙ append_assoc old so_far.octets more.octets,
      starts_are ∙ ap (λ xs. xs ++ more.starts) grew.2 ∙ append_assoc known so_far.starts more.starts,
    )

pub grew_octets : (known : List Start) (old : List ℕ) (starts : List Start) (out : List ℕ) (later : List Start) (new more : List ℕ)
    → GrewBy known old starts out → new ≡ out ++ more → later ≡ starts → GrewBy known old later new
grew_octets known old starts out later new more grew octets_are same =
    grew_more known old starts out later new (record { octets = more; starts = [] }) grew octets_are (same ∙ sym (append-nil starts))

pub begins-with-itself : (text : Text) → BeginsWith text text
begins-with-itself text = (record { octets = []; starts = [] }, rw (append-nil text.octets, append-nil text.starts) refl)
