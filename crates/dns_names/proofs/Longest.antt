-- The longest end of a name that stands already.
use Rattle.std.proofs.Common.{◌≡◌, ◌⊎◌, ℕ, zero, suc, ◌+◌, ◌≤◌, ◌<◌, true, List, [], ◌∷◌, ◌++◌, length, drop, Option, Some, None, unwrap_or, refl, sym, ap, subst, ◌∙◌, arith, inl, inr, slice_index_or, nat_lt, bytes_eq, append-nil, length-drop}
use Rattle.std.proofs.lemmas.Bool.{cases_Bool, ltb-true, ltb-false}
use Rattle.std.proofs.lemmas.Slice.Eq.{bytes_eq-Decides}
use Rattle.dns_names.specs.Prelude.{behind, Start, found, with_start, skipped, Ends, EndsAt, IsLongest}
use Rattle.dns_names.specs.Inside.Longest.{IsKept, IsClosed, edge_by}
use Rattle.dns_names.specs.Inside.Writers.{after_in}
use Rattle.dns_names.proofs.Walking.{chosen}
use Rattle.dns_names.proofs.Kept.{found-more, found-push}

-- ---- labels that are skipped

pub empty : (octets : List ℕ) → length octets < 1 → octets ≡ []
empty [] few = refl
empty (x ∷ octets) few = absurd (omega (arith, few))

pub behind-shorter : (octets : List ℕ) → 1 ≤ length octets → length (behind octets) < length octets
behind-shorter [] some = absurd (omega arith)
behind-shorter (count ∷ rest) some = omega (arith, length-drop count rest)

pub skipped-all : (n : ℕ) (octets : List ℕ) → length octets ≤ n → skipped n octets ≡ []
skipped-all zero [] le = refl
skipped-all zero (x ∷ octets) le = absurd (omega (arith, le))
skipped-all (suc n) [] le = skipped-all n [] (omega arith)
skipped-all (suc n) (count ∷ rest) le = skipped-all n (drop count rest) (omega (arith, le, length-drop count rest))

-- ---- a name is gone through from its end

pub longest-here : (starts : List Start) (name : List ℕ) (place : ℕ) → 1 ≤ length name → found starts name ≡ Some place
    → IsLongest starts name 0 (Some place)
longest-here starts name place some e = record {
  new = λ n lt. absurd (omega (arith, lt));
  some =
      λ n lt _. absurd (omega (arith, lt));
  ends = (some, e);
}

pub longest-one : (starts : List Start) (name : List ℕ) (place : Option ℕ) → 1 ≤ length name → IsLongest starts (behind name) 0 place
    → found starts name ≡ None → IsLongest starts name 1 place
longest-one starts name place some is none = record {
  new = first;
  some = λ n lt e. absurd (omega (
    arith,
    some,
    ap length (let zero_is : n ≡ 0 = omega (arith, lt) in
        subst (λ (m : ℕ). skipped m name ≡ []) zero_is e),
  ));
  ends = is.ends;
}
  where
    first : (n : ℕ) → n < 1 → (skipped n name ≡ []) ⊎ (found starts (skipped n name) ≡ None)
    first zero lt = inr none
    first (suc n) lt = absurd (omega (arith, lt))

-- what isn't written with its first label isn't written, unless it is the edge
pub longest-more : (starts : List Start) (edge name : List ℕ) (limit count : ℕ) (place : Option ℕ) → 1 ≤ length name
    → IsClosed starts edge limit → (name ≡ edge → ⊥) → 1 ≤ count → 1 ≤ length (behind name)
    → IsLongest starts (behind name) count place → IsLongest starts name (count + 1) place
longest-more starts edge name limit count place some closed off more deep is =
    let one_more : count + 1 ≡ suc count = omega arith in
    record {
      new = λ n lt. new n (omega (arith, lt));
      some = λ n lt e. ends_nowhere n (omega (arith, lt)) e;
      ends = subst (λ (m : ℕ). EndsAt starts (skipped m name) place) (sym one_more) is.ends;
    }
  where
    rest_new : found starts (behind name) ≡ None
    rest_new =
        elim (is.new 0 more) [
          | inl none ↦ absurd (omega (arith, deep, ap length none))
          | inr none ↦ none
        ]

    name_new : (o : Option ℕ) → found starts name ≡ o → found starts name ≡ None
    name_new None e = e
    name_new (Some at) e =
        absurd (
        elim (closed.closed name (at, e)) [
          | inl same ↦ off same
          | inr ends ↦
              elim ends [
                | inl none ↦ omega (arith, deep, ap length none)
                | inr kept ↦ let h : None ≡ Some kept.0 = sym rest_new ∙ kept.1 in cc
              ]
        ]
        )

    new : (n : ℕ) → n < suc count → (skipped n name ≡ []) ⊎ (found starts (skipped n name) ≡ None)
    new zero lt = inr (name_new (found starts name) refl)
    new (suc n) lt = is.new n (omega (arith, lt))

    ends_nowhere : (n : ℕ) → n < suc count → skipped n name ≡ [] → place ≡ None
    ends_nowhere zero lt e = absurd (omega (arith, some, ap length e))
    ends_nowhere (suc n) lt e = is.some n (omega (arith, lt)) e

-- what stands for the place of what is written already, or is nothing
pub ends-after : (starts : List Start) (octets : List ℕ) (place : Option ℕ) → EndsAt starts octets place
    → after_in starts octets ≡ Some (unwrap_or place 65535)
ends-after starts octets None e = rw e refl
ends-after starts [] (Some place) e = absurd (omega (arith, e.0))
ends-after starts (x ∷ xs) (Some place) e = e.1

-- ---- a name is gone through, label by label

pub longest-step : (starts : List Start) (name : List ℕ) (count : ℕ) (place : Option ℕ) → IsLongest starts name (suc count) place
    → IsLongest starts (behind name) count place
longest-step starts name count place is = record {
  new = λ n lt. is.new (suc n) (omega (arith, lt));
  some = λ n lt e. is.some (suc n) (omega (arith, lt)) e;
  ends = is.ends;
}

pub longest-new : (starts : List Start) (name : List ℕ) (count : ℕ) (place : Option ℕ) → IsLongest starts name count place → 1 ≤ count
    → 1 ≤ length name → found starts name ≡ None
longest-new starts name count place is some long =
    elim (is.new 0 some) [
      | inl e ↦ absurd (omega (arith, long, ap length e))
      | inr none ↦ none
    ]

pub longest-ends : (starts : List Start) (name : List ℕ) (count : ℕ) (place : Option ℕ) → IsLongest starts name count place → (count < 1)
    ⊎ (length name < 1) → EndsAt starts name place
longest-ends starts name zero place is short = is.ends
longest-ends starts [] (suc count) place is short = subst (λ (o : Option ℕ). EndsAt starts [] o) (sym (is.some 0 (omega arith) refl)) refl
longest-ends starts (x ∷ name) (suc count) place is (inl lt) = absurd (omega (arith, lt))
longest-ends starts (x ∷ name) (suc count) place is (inr lt) = absurd (omega (arith, lt))

-- nothing is to be written, nothing is kept yet, or all is kept

pub longest-none : (starts : List Start) (name : List ℕ) → starts ≡ [] → IsLongest starts name (length name) None
longest-none starts name e = record {
  new = λ n lt. inr (ap (λ (x : List Start). found x (skipped n name)) e);
  some = λ n lt e. refl;
  ends = skipped-all (length name) name (omega arith);
}

-- what is written ends with what is kept, or with nothing
pub ends-at : (starts : List Start) (octets : List ℕ) (place : Option ℕ) → EndsAt starts octets place → Ends starts octets
ends-at starts octets None e = inl e
ends-at starts octets (Some place) e = inr (place, e.1)

-- ---- a label more is kept

kept-more : (starts more : List Start) (octets : List ℕ) → IsKept starts octets → IsKept (starts ++ more) octets
kept-more starts more octets kept = (kept.0, found-more starts more octets kept.0 kept.1)

ends-more : (starts more : List Start) (octets : List ℕ) → Ends starts octets → Ends (starts ++ more) octets
ends-more starts more octets (inl e) = inl e
ends-more starts more octets (inr kept) = inr (kept-more starts more octets kept)

kept-push : (starts : List Start) (s : Start) (octets : List ℕ) → found starts s.octets ≡ None → IsKept (starts ++ s ∷ []) octets
    → (octets ≡ s.octets) ⊎ IsKept starts octets
kept-push starts s octets absent kept =
    elim (chosen (bytes_eq s.octets octets) (Some s.place) (found starts octets) (Some kept.0) (sym (found-push starts s octets absent) ∙ kept.1)) [
      | inl t ↦ inl (sym ((bytes_eq-Decides s.octets octets).0 t.0))
      | inr f ↦ inr (kept.0, f.1)
    ]

kept-new : (starts : List Start) (s : Start) → found starts s.octets ≡ None → IsKept (starts ++ s ∷ []) s.octets
kept-new starts s absent =
    let same : bytes_eq s.octets s.octets ≡ true = (bytes_eq-Decides s.octets s.octets).1 refl in
    (s.place, found-push starts s s.octets absent ∙ rw same refl)

-- While a name is written, what was kept last is closed by what is left of the name.
pub record Closing (starts : List Start) (edge left : List ℕ) (limit : ℕ) : Type 0 where
  pub closed : (octets : List ℕ) → IsKept starts octets → (octets ≡ edge) ⊎ (Ends starts (behind octets) ⊎ ((behind octets ≡ left) × (limit < 16384)))
  pub kept : Ends starts edge
  pub near : limit < 16384 → edge ≡ []

-- a name begins
pub closing-first : (starts : List Start) (edge left : List ℕ) (limit : ℕ) → IsClosed starts edge limit → Closing starts edge left limit
closing-first starts edge left limit is = record {
  closed = λ o kept.
      elim (is.closed o kept) [
        | inl same ↦ inl same
        | inr ends ↦ inr (inl ends)
      ];
  kept = is.kept;
  near = is.near;
}

pub closing-ends : (starts : List Start) (edge left : List ℕ) (limit later : ℕ) → Closing starts edge left limit → Ends starts left → limit ≤ later
    → IsClosed starts edge later
closing-ends starts edge left limit later is end le = record {
  closed = λ o kept.
      elim (is.closed o kept) [
        | inl same ↦ inl same
        | inr more ↦
            elim more [
              | inl ends ↦ inr ends
              | inr last ↦ inr (subst (λ (x : List ℕ). Ends starts x) (sym last.0) end)
            ]
      ];
  kept = is.kept;
  near = λ lt. is.near (omega (arith, lt, le));
}

-- a label start that can be pointed to, where the name goes on before or behind the last such place
closing-near : (starts : List Start) (edge left later : List ℕ) (limit end : ℕ) → Closing starts edge left limit → found starts left ≡ None
    → limit < 16384 → ((later ≡ edge) × (end < 16384)) ⊎ ((later ≡ left) × (16384 ≤ end))
    → Closing (starts ++ record { place = limit; octets = left } ∷ []) later (behind left) end
closing-near starts edge left later limit end is absent near which =
    let s : Start = record { place = limit; octets = left } in
    let none : edge ≡ [] = is.near near in
    let new = kept-new starts s absent in
    record {
      closed = λ o kept.
          elim (kept-push starts s o absent kept) [
            | inl same ↦
                elim which [
                  | inl on ↦ inr (inr (ap behind same, on.1))
                  | inr over ↦ inl (same ∙ sym over.0)
                ]
            | inr old ↦
                elim (is.closed o old) [
                  | inl at_edge ↦ inr (inl (inl (ap behind (at_edge ∙ none))))
                  | inr more ↦
                      elim more [
                        | inl ends ↦ inr (inl (ends-more starts (s ∷ []) (behind o) ends))
                        | inr last ↦ inr (inl (inr (subst (λ (x : List ℕ). IsKept (starts ++ s ∷ []) x) (sym last.0) new)))
                      ]
                ]
          ];
      kept = elim which [
        | inl on ↦ inl (on.0 ∙ none)
        | inr over ↦ inr (subst (λ (x : List ℕ). IsKept (starts ++ s ∷ []) x) (sym over.0) new)
      ];
      near = λ lt.
          elim which [
            | inl on ↦ on.0 ∙ none
            | inr over ↦ absurd (omega (arith, lt, over.1))
          ];
    }

pub closing-step : (starts : List Start) (edge left : List ℕ) (limit end : ℕ) → Closing starts edge left limit → found starts left ≡ None
    → limit < end → Closing (starts ++ with_start limit left []) (edge_by edge left limit end) (behind left) end
closing-step starts edge left limit end is absent lt =
    elim (cases_Bool (nat_lt limit 16384)) [
      | inl t ↦
          elim (cases_Bool (nat_lt end 16384)) [
            | inl u ↦ rw (t, u) (closing-near starts edge left edge limit end is absent (ltb-true _ _ t) (inl (refl, ltb-true _ _ u)))
            | inr g ↦ rw (t, g) (closing-near starts edge left left limit end is absent (ltb-true _ _ t) (inr (refl, ltb-false _ _ g)))
          ]
      | inr f ↦
          let far : 16384 ≤ limit = ltb-false _ _ f in
          rw f (record {
            closed = λ o kept.
                elim (is.closed o (subst (λ (x : List Start). IsKept x o) (append-nil starts) kept)) [
                  | inl same ↦ inl same
                  | inr more ↦
                      elim more [
                        | inl ends ↦ inr (inl (ends-more starts [] (behind o) ends))
                        | inr last ↦ absurd (omega (arith, last.1, far))
                      ]
                ];
            kept = ends-more starts [] edge is.kept;
            near = λ near. absurd (omega (arith, near, far, lt));
          })
    ]

-- the same, where what was written is known by equations
pub closing-put : (starts new : List Start) (edge later left rest : List ℕ) (limit place end length_now : ℕ) → Closing starts edge left limit
    → found starts left ≡ None → place ≡ limit → limit < end → end ≡ length_now → new ≡ starts ++ with_start place left []
    → later ≡ edge_by edge left place end → rest ≡ behind left → Closing new later rest length_now
closing-put starts new edge later left rest limit place end length_now is absent at lt len starts_are edge_is rest_is =
    rw (starts_are, edge_is, rest_is, at, ← len) (closing-step starts edge left limit end is absent lt)

-- behind the first label, by its count
pub behind-is : (octets : List ℕ) → 1 ≤ length octets → behind octets ≡ drop (1 + slice_index_or octets 0 0) octets
behind-is [] some = absurd (omega (arith, some))
behind-is (count ∷ rest) some =
    let n : suc count ≡ 1 + count = omega arith in
    ap (λ (m : ℕ). drop m (count ∷ rest)) n
