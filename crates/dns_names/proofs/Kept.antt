-- The label starts that a writer's map holds.
use Rattle.std.proofs.Common.{◌≡◌, ◌⊎◌, ℕ, ◌<◌, ◌≤◌, true, false, cond, List, [], ◌∷◌, ◌++◌, length, Option, Some, None}
use Rattle.std.proofs.Common.{refl, sym, ap, ◌∙◌, arith, inl, inr, nat_lt, IfSome, bytes_eq, append-nil, take-append-drop}
use Rattle.std.specs.List.{AllByRecursion}
use Rattle.std.proofs.lemmas.Bool.{cases_Bool, ltb-true}
use Rattle.std.proofs.lemmas.Slice.Eq.{bytes_eq-Decides}
use Rattle.dns_names.specs.declared.suffix.Suffix.{Suffix}
use Rattle.dns_names.specs.Prelude.{behind, first_label, key_of, Start, found, with_start, Ends, EndsAt, starts_in, IsIndex}
use Rattle.dns_names.specs.Inside.Longest.{IsClosed}
use Rattle.dns_names.proofs.Walking.{chosen}
use Rattle.dns_names.specs.Inside.Writers.{after_in, HaveOwnPlaces, IsFresh, IsNear, IsPending}

pub apart : (bs cs ks : List ℕ) → bytes_eq bs cs ≡ false → bytes_eq bs ks ≡ true → bytes_eq cs ks ≡ false
apart bs cs ks n y =
    elim (cases_Bool (bytes_eq cs ks)) [
      | inl t ↦
          let e : bs ≡ cs = (bytes_eq-Decides bs ks).0 y ∙ sym ((bytes_eq-Decides cs ks).0 t) in
          let q : bytes_eq bs cs ≡ true = (bytes_eq-Decides bs cs).1 e in
          absurd cc
      | inr f ↦ f
    ]

-- ---- one start more

pub found-push : (starts : List Start) (s : Start) (octets : List ℕ) → found starts s.octets ≡ None
    → found (starts ++ s ∷ []) octets ≡ cond (bytes_eq s.octets octets) (Some s.place) (found starts octets)
found-push [] s octets absent = refl
found-push (t ∷ ts) s octets absent =
    elim (cases_Bool (bytes_eq t.octets s.octets)) [
      | inl y ↦ absurd (let h = rw y at absent in let q : Some t.place ≡ None = h in cc)
      | inr n ↦
          let h = rw n at absent in
          let next = found-push ts s octets h in
          elim (cases_Bool (bytes_eq t.octets octets)) [
            | inl y ↦
                let off : bytes_eq s.octets octets ≡ false = apart t.octets s.octets octets n y in
                rw (off, y) refl
            | inr m ↦ rw m next
          ]
    ]

-- with_start adds what comes next, if it is near
pub found-with_start : (starts : List Start) (place : ℕ) (here octets : List ℕ) → found starts here ≡ None → bytes_eq here octets ≡ false
    → found (starts ++ with_start place here []) octets ≡ found starts octets
found-with_start starts place here octets absent off =
    elim (cases_Bool (nat_lt place 16384)) [
      | inl y ↦ rw y (found-push starts (record { place = place; octets = here }) octets absent ∙ rw off refl)
      | inr n ↦ rw n (ap (λ (x : List Start). found x octets) (append-nil starts))
    ]

pub found-more : (starts more : List Start) (octets : List ℕ) (place : ℕ) → found starts octets ≡ Some place
    → found (starts ++ more) octets ≡ Some place
found-more [] more octets place e = absurd cc
found-more (s ∷ starts) more octets place e =
    elim (cases_Bool (bytes_eq s.octets octets)) [
      | inl t ↦ rw t (rw t at e)
      | inr f ↦ rw f (found-more starts more octets place (rw f at e))
    ]

-- what isn't found is the last start, or isn't found with that either
pub found-last : (starts : List Start) (s : Start) (octets : List ℕ) → found starts octets ≡ None
    → found (starts ++ s ∷ []) octets ≡ cond (bytes_eq s.octets octets) (Some s.place) None
found-last [] s octets none = elim (cases_Bool (bytes_eq s.octets octets)) [ inl t ↦ rw t refl | inr f ↦ rw f refl ]
found-last (t ∷ ts) s octets none =
    elim (cases_Bool (bytes_eq t.octets octets)) [
      | inl y ↦ absurd (let q : Some t.place ≡ None = rw y at none in cc)
      | inr n ↦ rw n (found-last ts s octets (rw n at none))
    ]

-- ---- the index

pub near_later : (limit more : ℕ) (starts : List Start) → limit ≤ more → AllByRecursion (IsNear limit) starts → AllByRecursion (IsNear more) starts
near_later limit more [] le all = tt
near_later limit more (s ∷ starts) le all = ((omega (arith, all.0.0), all.0.1), near_later limit more starts le all.1)

pub near_push : (limit : ℕ) (starts : List Start) (s : Start) → AllByRecursion (IsNear limit) starts → IsNear limit s
    → AllByRecursion (IsNear limit) (starts ++ s ∷ [])
near_push limit [] s all one = (one, tt)
near_push limit (t ∷ ts) s all one = (all.0, near_push limit ts s all.1 one)

-- what is found lies below the end, and can be pointed to
pub found-is-near : (limit : ℕ) (starts : List Start) (octets : List ℕ) (place : ℕ) → AllByRecursion (IsNear limit) starts
    → found starts octets ≡ Some place → (place < limit) × (place < 16384)
found-is-near limit [] octets place all e = absurd cc
found-is-near limit (s ∷ starts) octets place all e =
    elim (chosen (bytes_eq s.octets octets) (Some s.place) (found starts octets) (Some place) e) [
      | inl t ↦ let q : s.place ≡ place = (let h : Some s.place ≡ Some place = t.1 in cc) in (omega (arith, all.0.0), omega (arith, all.0.1))
      | inr f ↦ found-is-near limit starts octets place all.1 f.1
    ]

pub ends-near : (limit : ℕ) (starts : List Start) (octets : List ℕ) (place : Option ℕ) → AllByRecursion (IsNear limit) starts
    → EndsAt starts octets place → IfSome place (λ to. to < 16384)
ends-near limit starts octets None all e = tt
ends-near limit starts octets (Some to) all e = (found-is-near limit starts octets to all e.1).1

-- ---- what stands for places

pub after-more : (starts more : List Start) (octets : List ℕ) (place : ℕ) → after_in starts octets ≡ Some place
    → after_in (starts ++ more) octets ≡ Some place
after-more starts more [] place e = e
after-more starts more (x ∷ xs) place e = found-more starts more (x ∷ xs) place e

-- where nothing stands for the place, there are octets that aren't found
pub record IsNowhere (starts : List Start) (octets : List ℕ) : Type 0 where
  pub some : 1 ≤ length octets
  pub none : found starts octets ≡ None

nowhere : (starts : List Start) (octets : List ℕ) → after_in starts octets ≡ None → IsNowhere starts octets
nowhere starts [] e = absurd cc
nowhere starts (x ∷ xs) e = record { some = omega arith; none = e }

-- it is 65,535, or lies below the end
pub after-near : (limit : ℕ) (starts : List Start) (octets : List ℕ) (place : ℕ) → AllByRecursion (IsNear limit) starts
    → after_in starts octets ≡ Some place
    → ((octets ≡ []) × (place ≡ 65535)) ⊎ ((found starts octets ≡ Some place) × (place < limit) × (place < 16384))
after-near limit starts [] place all e = inl (refl, (let h : Some 65535 ≡ Some place = e in let q : 65535 ≡ place = cc in sym q))
after-near limit starts (x ∷ xs) place all e = (let near = found-is-near limit starts (x ∷ xs) place all e in inr (e, near.0, near.1))

pub own-after : (limit : ℕ) (starts : List Start) (a b : List ℕ) (place : ℕ) → AllByRecursion (IsNear limit) starts → HaveOwnPlaces starts
    → after_in starts a ≡ Some place → after_in starts b ≡ Some place → a ≡ b
own-after limit starts a b place all own e f =
    elim (after-near limit starts a place all e) [
      | inl root ↦
          elim (after-near limit starts b place all f) [
            | inl other ↦ root.0 ∙ sym other.0
            | inr near ↦ absurd (omega (arith, root.1, near.2))
          ]
      | inr near ↦
          elim (after-near limit starts b place all f) [
            | inl root ↦ absurd (omega (arith, root.1, near.2))
            | inr other ↦ own a b place near.0 other.0
          ]
    ]

-- one start more, behind the others, has a place of its own
pub own-last : (limit : ℕ) (starts : List Start) (s : Start) → AllByRecursion (IsNear limit) starts → limit ≤ s.place → HaveOwnPlaces starts
    → HaveOwnPlaces (starts ++ s ∷ [])
own-last limit starts s all le own a b place e f = by_found (found starts a) (found starts b) refl refl
  where
    last : (octets : List ℕ) → found starts octets ≡ None → found (starts ++ s ∷ []) octets ≡ Some place → (s.octets ≡ octets) × (s.place ≡ place)
    last octets none is =
        elim (cases_Bool (bytes_eq s.octets octets)) [
          | inl t ↦ (
            (bytes_eq-Decides s.octets octets).0 t,
            (let h : Some s.place ≡ Some place = sym (found-last starts s octets none ∙ rw t refl) ∙ is in cc),
          )
          | inr n ↦ absurd (let h : None ≡ Some place = sym (found-last starts s octets none ∙ rw n refl) ∙ is in cc)
        ]

    same : (octets : List ℕ) (q : ℕ) → found starts octets ≡ Some q → found (starts ++ s ∷ []) octets ≡ Some place → q ≡ place
    same octets q is now = let h : Some q ≡ Some place = sym (found-more starts (s ∷ []) octets q is) ∙ now in cc

    by_found : (o p : Option ℕ) → found starts a ≡ o → found starts b ≡ p → a ≡ b
    by_found (Some q) (Some r) x y = own a b place (x ∙ ap Some (same a q x e)) (y ∙ ap Some (same b r y f))
    by_found (Some q) None x y = absurd (omega (arith, (found-is-near limit starts a q all x).0, same a q x e, (last b y f).1, le))
    by_found None (Some r) x y = absurd (omega (arith, (found-is-near limit starts b r all y).0, same b r y f, (last a x e).1, le))
    by_found None None x y = sym (last a x e).0 ∙ (last b y f).0

-- ---- keys

pub label-behind : (octets : List ℕ) → 1 ≤ length octets → first_label octets ++ behind octets ≡ octets
label-behind [] some = absurd (omega (arith, some))
label-behind (count ∷ rest) some = ap (λ (x : List ℕ). count ∷ x) (take-append-drop count rest)

pub same-key : (a b : ℕ) (x y : List ℕ) → key_of a x ≡ key_of b y → (a ≡ b) × (first_label x ≡ first_label y)
same-key a b x y e = (cc, cc)

-- ---- a name is written

pub pending-index : (entries : List (Suffix × ℕ)) (rest : List ℕ) (limit later : ℕ) → IsPending entries rest limit → limit ≤ later
    → IsIndex entries later
pending-index entries rest limit later p le = record {
  finds = λ octets after some e. p.finds octets after some (after-more (starts_in entries) (with_start limit rest []) (behind octets) after e);
  near = near_later limit later (starts_in entries) le p.near;
  own = p.own;
}

pub pending-fresh : (entries : List (Suffix × ℕ)) (rest : List ℕ) (limit later : ℕ) → IsPending entries rest limit → limit < later
    → IsFresh entries later
pending-fresh entries rest limit later p lt near octets after le few = p.fresh (omega (arith, near, lt)) octets after (omega (arith, le, lt)) few

pub IsIndex-later : (entries : List (Suffix × ℕ)) (limit more : ℕ) → IsIndex entries limit → limit ≤ more → IsIndex entries more
IsIndex-later entries limit more index le = record {
  finds = index.finds;
  near =
      near_later limit more (starts_in entries) le index.near;
  own = index.own;
}

pub IsFresh-later : (entries : List (Suffix × ℕ)) (limit more : ℕ) → IsFresh entries limit → limit ≤ more → IsFresh entries more
IsFresh-later entries limit more fresh le near octets after from few = fresh (omega (arith, near, le)) octets after (omega (arith, le, from)) few

-- what can be pointed to may be added
module _ (starts : List Start) (limit : ℕ) (rest octets : List ℕ) (after : ℕ) where
  -- what is found with it alone is it
  only-last : found starts octets ≡ None → found (starts ++ with_start limit rest []) octets ≡ Some after
      → (rest ≡ octets) × (limit ≡ after) × (limit < 16384)
  only-last none e =
      elim (cases_Bool (nat_lt limit 16384)) [
        | inl t ↦
            let more : found (starts ++ record { place = limit; octets = rest } ∷ []) octets ≡ Some after = rw t at e in
            elim (cases_Bool (bytes_eq rest octets)) [
              | inl y ↦ (
                (bytes_eq-Decides rest octets).0 y,
                (let h : Some limit ≡ Some after = sym (found-last starts (record { place = limit; octets = rest }) octets none
                    ∙ rw y refl) ∙ more in cc),
                ltb-true _ _ t,
              )
              | inr n ↦ absurd (let h : None ≡ Some after = sym
                  (found-last starts (record { place = limit; octets = rest }) octets none ∙ rw n refl) ∙ more in cc)
            ]
        | inr f ↦ absurd (let h : None ≡ Some after = sym none ∙ ap (λ (x : List Start). found x octets) (sym (append-nil starts))
            ∙ (rw f at e) in cc)
      ]

pub same-some : (o : Option ℕ) (a b : ℕ) → o ≡ Some a → o ≡ Some b → a ≡ b
same-some o a b e f = let h : Some a ≡ Some b = sym e ∙ f in cc

-- what stands for a place with one start more stood for it before, or is this one
pub after-last : (starts : List Start) (limit : ℕ) (rest octets : List ℕ) (after : ℕ)
    → after_in (starts ++ with_start limit rest []) octets ≡ Some after
    → (after_in starts octets ≡ Some after) ⊎ (IsNowhere starts octets × (rest ≡ octets) × (limit ≡ after) × (limit < 16384))
after-last starts limit rest octets after e = by_after (after_in starts octets) refl
  where
    last : (octets : List ℕ) → IsNowhere starts octets → after_in (starts ++ with_start limit rest []) octets ≡ Some after
        → IsNowhere starts octets × (rest ≡ octets) × (limit ≡ after) × (limit < 16384)
    last [] off f = absurd (omega (arith, off.some))
    last (x ∷ xs) off f = let only = only-last starts limit rest (x ∷ xs) after off.none f in (off, only.0, only.1, only.2)

    by_after : (o : Option ℕ) → after_in starts octets ≡ o → (after_in starts octets ≡ Some after)
        ⊎ (IsNowhere starts octets × (rest ≡ octets) × (limit ≡ after) × (limit < 16384))
    by_after (Some q) is = inl (is ∙ ap Some (same-some (after_in (starts ++ with_start limit rest []) octets) q after
        (after-more starts (with_start limit rest []) octets q is) e))
    by_after None is = inr (last octets (nowhere starts octets is) e)

-- nothing that begins with a rest that isn't found is found, as long as an end can be pointed to
pub new-front : (starts : List Start) (octets : List ℕ) → IsNowhere starts (behind octets)
    → ((place : ℕ) → found starts octets ≡ Some place → Ends starts (behind octets)) → found starts octets ≡ None
new-front starts octets off closed = by_found (found starts octets) refl
  where
    by_found : (o : Option ℕ) → found starts octets ≡ o → found starts octets ≡ None
    by_found None is = is
    by_found (Some place) is =
        absurd (
        elim (closed place is) [
          | inl none ↦ omega (arith, off.some, ap length none)
          | inr kept ↦ let h : None ≡ Some kept.0 = sym off.none ∙ kept.1 in cc
        ]
        )

-- a name begins
pub pending-first : (entries : List (Suffix × ℕ)) (edge name : List ℕ) (limit : ℕ) → IsIndex entries limit → IsFresh entries limit
    → IsClosed (starts_in entries) edge limit → IsPending entries name limit
pending-first entries edge name limit index fresh closed = record {
  finds = λ octets after some e.
      elim (after-last (starts_in entries) limit name (behind octets) after e) [
        | inl old ↦ index.finds octets after some old
        | inr new ↦
            let near = new.3 in
            let none : edge ≡ [] = closed.near near in
            fresh near octets after (omega (arith, new.2)) (omega (arith, new.2, near))
            ∙ sym (new-front (starts_in entries) octets new.0 (λ place is.
            elim (closed.closed octets (place, is)) [
              | inl at_edge ↦ absurd (omega (arith, some, ap length (at_edge ∙ none)))
              | inr ends ↦ ends
            ]))
      ];
  near = index.near;
  own = index.own;
  fresh = λ near octets after from few. fresh near octets after (omega (arith, from)) few;
}
