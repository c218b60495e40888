-- Reading a name piece by piece.
use Rattle.std.proofs.Common.{◌≡◌, ℕ, zero, suc, ◌+◌, ◌-◌, ◌≤◌, ◌<◌, Bool, true, false, cond, eqb, List, [], ◌∷◌, ◌++◌, length, take, drop, Option}
use Rattle.std.proofs.Common.{Some, None, refl, sym, ap, subst, ◌∙◌, append_assoc, arith, inl, inr, ◌⊎◌, nat_lt, ◌==◌, take_at, drop_at, append-nil}
use Rattle.std.proofs.Common.{drop-drop, length-append, length-take, length-drop, length-take-le}
use Rattle.std.specs.List.{AllByRecursion}
use Rattle.std.proofs.lemmas.Bool.{ltb-false, ltb-true, cases_Bool}
use Rattle.std.proofs.Math.Seq.{take-add}
use Rattle.std.proofs.lemmas.Grind.{flat_map-append}
use Rattle.dns_names.specs.Prelude.{Root, Label, Pointer, Nothing, Stands, AtRoot, AtLabel, AtPointer, NameAt, spelled, spelled_label, IsLabel, IsName, IsSpelled}
use Rattle.dns_names.specs.Names.{piece_at, piece_of, piece_by, label_of, pointer_of}
use Rattle.dns_names.specs.Inside.Names.{split, labels_in}
use Rattle.std.specs.Option.{option_or, unwrap_or}
use Rattle.dns_names.proofs.Reading.{at_label, at_pointer, at_nothing}

-- ---- labels and their octets

split-spelled : (n : ℕ) (ls : List (List ℕ)) → length (spelled ls) ≤ n → split n (spelled ls) ≡ ls
split-spelled zero [] le = refl
split-spelled zero (l ∷ ls) le = absurd (omega arith)
split-spelled (suc n) [] le = refl
split-spelled (suc n) (l ∷ ls) le =
    let more : length (spelled ls) ≤ n = omega (arith, length-append l (spelled ls)) in
    rw (take_at l (spelled ls) (length l) refl, drop_at l (spelled ls) (length l) refl, split-spelled n ls more) refl

pub labels_in-spelled : (octets : List ℕ) (ls : List (List ℕ)) → octets ≡ spelled ls → labels_in octets ≡ ls
unfolding labels_in
labels_in-spelled octets ls e = ap (λ (o : List ℕ). split (length o) o) e ∙ split-spelled (length (spelled ls)) ls (omega arith)

pub IsSpelled-spelled : (octets : List ℕ) (ls : List (List ℕ)) → octets ≡ spelled ls → IsName ls → IsSpelled octets (labels_in octets)
IsSpelled-spelled octets ls e name =
    let back = labels_in-spelled octets ls e in
    subst (λ (x : List (List ℕ)). IsSpelled octets x) (sym back) (record { octets_are = e; is_name = name })

pub AllLabels-push : (ls : List (List ℕ)) (l : List ℕ) → AllByRecursion IsLabel ls → IsLabel l → AllByRecursion IsLabel (ls ++ l ∷ [])
AllLabels-push [] l all one = (one, tt)
AllLabels-push (k ∷ ks) l all one = (all.0, AllLabels-push ks l all.1 one)

spelled-push : (ls : List (List ℕ)) (l : List ℕ) → spelled (ls ++ l ∷ []) ≡ spelled ls ++ length l ∷ l
spelled-push ls l = flat_map-append spelled_label ls (l ∷ []) ∙ ap (λ (x : List ℕ). spelled ls ++ length l ∷ x) (append-nil l)

label_of-label : (count : ℕ) (rest l : List ℕ) → label_of count rest ≡ Label l → (length l ≡ count) × (take count rest ≡ l)
label_of-label count rest l e =
    elim (cases_Bool (nat_lt (length rest) count)) [
      | inl t ↦ absurd (let q : label_of count rest ≡ Nothing = rw t refl in cc)
      | inr f ↦
          let q : label_of count rest ≡ Label (take count rest) = rw f refl in
          let r : take count rest ≡ l = cc in
          let le : count ≤ length rest = ltb-false _ _ f in
          (rw (← r) (omega (arith, length-take count rest)), r)
    ]

-- which way a test went
pub chosen : {A : Type 0} (b : Bool) (x y z : A) → cond b x y ≡ z → ((b ≡ true) × (x ≡ z)) ⊎ ((b ≡ false) × (y ≡ z))
chosen true x y z e = inl (refl, e)
chosen false x y z e = inr (refl, e)

not_pointer : (high : ℕ) (rest l : List ℕ) → pointer_of high rest ≡ Label l → ⊥
not_pointer high [] l e = cc
not_pointer high (x ∷ xs) l e = cc

pub not_zero : (n : ℕ) → eqb n 0 ≡ false → 1 ≤ n
not_zero zero e = absurd cc
not_zero (suc n) e = omega arith

-- a label's count and octets stand behind each other
pub record IsCounted (first : ℕ) (rest l : List ℕ) : Type 0 where
  pub label : IsLabel l
  pub count : length l ≡ first
  pub octets : take first rest ≡ l

piece_by-counted : (first : ℕ) (rest l : List ℕ) → piece_by first rest ≡ Label l → IsCounted first rest l
piece_by-counted first rest l e =
    elim (chosen (first == 0) Root (cond (nat_lt first 64) (label_of first rest) (cond (nat_lt first 192) Nothing (pointer_of first rest)))
    (Label l) e) [
      | inl t ↦ absurd (let q : Root ≡ Label l = t.1 in cc)
      | inr f ↦
          let positive : 1 ≤ first = not_zero first f.0 in
          elim (chosen (nat_lt first 64) (label_of first rest) (cond (nat_lt first 192) Nothing (pointer_of first rest)) (Label l) f.1) [
            | inl t ↦
                let found = label_of-label first rest l t.1 in
                let long = found.0 in
                let small : first < 64 = ltb-true _ _ t.0 in
                record { label = (omega arith, omega arith); count = long; octets = found.1 }
            | inr g ↦ elim (chosen (nat_lt first 192) Nothing (pointer_of first rest) (Label l) g.1) [
              | inl t ↦ absurd (let q : Nothing ≡ Label l = t.1 in cc)
              | inr h ↦ absurd (not_pointer first rest l h.1)
            ]
          ]
    ]

pub piece_by-label : (first : ℕ) (rest l : List ℕ) → piece_by first rest ≡ Label l → IsLabel l
piece_by-label first rest l e = (piece_by-counted first rest l e).label

piece_of-counted : (octets l : List ℕ) → piece_of octets ≡ Label l → take (suc (length l)) octets ≡ length l ∷ l
piece_of-counted [] l e = absurd (let q : Nothing ≡ Label l = e in cc)
piece_of-counted (first ∷ rest) l e =
    let is = piece_by-counted first rest l e in
    ap (λ (n : ℕ). first ∷ take n rest) is.count ∙ (ap (λ (o : List ℕ). first ∷ o) is.octets ∙ ap (λ (n : ℕ). n ∷ l) (sym is.count))

-- a label that begins at a place, behind its length
pub piece_at-counted : (m : List ℕ) (place : ℕ) (l : List ℕ) → piece_at m place ≡ Label l → take (suc (length l)) (drop place m) ≡ length l ∷ l
unfolding piece_at
piece_at-counted m place l e = piece_of-counted (drop place m) l e

piece_of-label : (octets l : List ℕ) → piece_of octets ≡ Label l → IsLabel l
piece_of-label [] l e = absurd (let q : Nothing ≡ Label l = e in cc)
piece_of-label (first ∷ rest) l e = piece_by-label first rest l e

pub piece_at-label : (m : List ℕ) (place : ℕ) (l : List ℕ) → piece_at m place ≡ Label l → IsLabel l
unfolding piece_at
piece_at-label m place l e = piece_of-label (drop place m) l e

-- ---- octets of a message

-- the octets from one place to another
abbrev pub run : List ℕ → ℕ → ℕ → List ℕ
run m from at = take (at - from) (drop from m)

pub run-length : (m : List ℕ) (from at : ℕ) → from ≤ at → at ≤ length m → length (run m from at) ≡ at - from
run-length m from at order within = length-take-le (at - from) (drop from m) (omega (arith, length-drop from m))

-- with the label behind them
pub run-label : (m : List ℕ) (from at : ℕ) (l : List ℕ) → from ≤ at → piece_at m at ≡ Label l → run m from (at + 1 + length l) ≡ run m from at
    ++ length l ∷ l
run-label m from at l order e =
    let more : at + 1 + length l - from ≡ (at - from) + suc (length l) = omega arith in
    let back : from + (at - from) ≡ at = omega arith in
    ap (λ (n : ℕ). take n (drop from m)) more ∙ take-add (at - from) (suc (length l)) (drop from m)
    ∙ ap (λ (x : List ℕ). run m from at ++ take (suc (length l)) x) (drop-drop (at - from) from m ∙ ap (λ (n : ℕ). drop n m) back)
    ∙ ap (λ (x : List ℕ). run m from at ++ x) (piece_at-counted m at l e)

-- none
pub run-none : (m : List ℕ) (at : ℕ) → run m at at ≡ []
run-none m at = ap (λ (n : ℕ). take n (drop at m)) (let none : at - at ≡ 0 = omega arith in none)

-- ---- a walk

-- how a whole name goes on behind the labels that were read
pub record Rest (m : List ℕ) (start at : ℕ) (labels whole : List (List ℕ)) : Type 0 where
  pub rest : List (List ℕ)
  pub is : whole ≡ labels ++ rest
  pub end : ℕ
  pub stands : Stands m start at rest end

-- The octets of some labels were read, and the name goes on at a place.
pub record Reads (m : List ℕ) (place start at : ℕ) (octets : List ℕ) (after : Option ℕ) : Type 0 where
  pub labels : List (List ℕ)
  pub octets_are : octets ≡ spelled labels
  pub short : length octets ≤ 254
  pub all_labels : AllByRecursion IsLabel labels
  pub keeps : (ls : List (List ℕ)) (a : ℕ) → Stands m start at ls a → Stands m place place (labels ++ ls) (unwrap_or after a)
  pub only : (ls : List (List ℕ)) (a : ℕ) → Stands m place place ls a → Rest m start at labels ls

pub Reads-label : (m : List ℕ) (place start at : ℕ) (octets : List ℕ) (after : Option ℕ) (l : List ℕ) → Reads m place start at octets after
    → piece_at m at ≡ Label l → length octets + 1 + length l ≤ 254
    → Reads m place start (at + 1 + length l) (octets ++ length l ∷ l) after
Reads-label m place start at octets after l r e fits = record {
  labels = r.labels ++ l ∷ [];
  octets_are = ap (λ (o : List ℕ). o ++ length l ∷ l) r.octets_are ∙ sym (spelled-push r.labels l);
  short = omega (arith, length-append octets (length l ∷ l));
  all_labels = AllLabels-push r.labels l r.all_labels (piece_at-label m at l e);
  keeps = λ ls a s. rw append_assoc (r.keeps (l ∷ ls) a (AtLabel start at l ls a e s));
  only = λ ls a s.
      let q = r.only ls a s in
      let g = at_label m start at q.rest q.end l q.stands e in
      record {
        rest = g.rest;
        is = q.is ∙ ap (λ (x : List (List ℕ)). r.labels ++ x) g.is ∙ sym (append_assoc r.labels (l ∷ []) g.rest);
        end = q.end;
        stands = g.stands;
      };
}

unwrap_or-or : (after : Option ℕ) (here a : ℕ) → unwrap_or (option_or after (Some here)) a ≡ unwrap_or after here
unwrap_or-or None here a = refl
unwrap_or-or (Some place) here a = refl

pub Reads-pointer : (m : List ℕ) (place start at : ℕ) (octets : List ℕ) (after : Option ℕ) (to : ℕ) → Reads m place start at octets after
    → piece_at m at ≡ Pointer to → to < start → Reads m place to to octets (option_or after (Some (at + 2)))
Reads-pointer m place start at octets after to r e lt = record {
  labels = r.labels;
  octets_are = r.octets_are;
  short = r.short;
  all_labels = r.all_labels;
  keeps = λ ls a s. rw (unwrap_or-or after (at + 2) a) (r.keeps ls (at + 2) (AtPointer start at to ls a e lt s));
  only = λ ls a s.
      let q = r.only ls a s in
      let g = at_pointer m start at q.rest q.end to q.stands e in
      record { rest = q.rest; is = q.is; end = g.2.0; stands = g.2.1 };
}

-- the labels of the octets that were read
pub Reads-name : (m : List ℕ) (place start at : ℕ) (octets : List ℕ) (after : Option ℕ) → Reads m place start at octets after
    → IsSpelled octets (labels_in octets)
Reads-name m place start at octets after r = IsSpelled-spelled octets r.labels r.octets_are
    (record { labels = r.all_labels; short = rw (← r.octets_are) r.short })

pub Reads-root : (m : List ℕ) (place start at : ℕ) (octets : List ℕ) (after : Option ℕ) → Reads m place start at octets after → piece_at m at ≡ Root
    → NameAt m place (labels_in octets) (unwrap_or after (at + 1))
Reads-root m place start at octets after r e =
    let whole = r.keeps [] (at + 1) (AtRoot start at e) in
    let name = Reads-name m place start at octets after r in
    let back = labels_in-spelled octets r.labels r.octets_are in
    record {
      stands = subst (λ (x : List (List ℕ)). Stands m place place x (unwrap_or after (at + 1))) (append-nil r.labels ∙ sym back) whole;
      short = name.is_name.short;
    }

pub Reads-nothing : (m : List ℕ) (place start at : ℕ) (octets : List ℕ) (after : Option ℕ) → Reads m place start at octets after
    → piece_at m at ≡ Nothing → (ls : List (List ℕ)) (a : ℕ) → NameAt m place ls a → ⊥
Reads-nothing m place start at octets after r e ls a n =
    let q = r.only ls a n.stands in at_nothing m start at q.rest q.end q.stands e

pub Reads-up : (m : List ℕ) (place start at : ℕ) (octets : List ℕ) (after : Option ℕ) (to : ℕ) → Reads m place start at octets after
    → piece_at m at ≡ Pointer to → start ≤ to → (ls : List (List ℕ)) (a : ℕ) → NameAt m place ls a → ⊥
Reads-up m place start at octets after to r e le ls a n =
    let q = r.only ls a n.stands in
    let g = at_pointer m start at q.rest q.end to q.stands e in omega (arith, g.0)

pub Reads-long : (m : List ℕ) (place start at : ℕ) (octets : List ℕ) (after : Option ℕ) (l : List ℕ) → Reads m place start at octets after
    → piece_at m at ≡ Label l → 254 < length octets + 1 + length l → (ls : List (List ℕ)) (a : ℕ) → NameAt m place ls a → ⊥
Reads-long m place start at octets after l r e long ls a n =
    let q = r.only ls a n.stands in
    let g = at_label m start at q.rest q.end l q.stands e in
    let whole : ls ≡ r.labels ++ l ∷ g.rest = q.is ∙ ap (λ (x : List (List ℕ)). r.labels ++ x) g.is in
    let all : spelled ls ≡ octets ++ length l ∷ (l ++ spelled g.rest) = ap spelled whole ∙ flat_map-append spelled_label r.labels (l ∷ g.rest)
    ∙ ap (λ (o : List ℕ). o ++ length l ∷ (l ++ spelled g.rest)) (sym r.octets_are) in
    omega (arith, ap length all, length-append octets (length l ∷ (l ++ spelled g.rest)), length-append l (spelled g.rest), n.short)
