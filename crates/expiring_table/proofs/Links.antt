-- One more place in a bucket.
use Rattle.std.proofs.Common.{◌≡◌, ◌≢◌, inl, inr, ℕ, ◌+◌, ◌<◌, ◌≤◌, List, [], ◌∷◌, ◌++◌, length, set, slice_index, slice_index_or, Option, Some, None, refl, ap, sym, ◌∙◌, subst, arith, length-append}
use Rattle.std.proofs.lemmas.Bool.{cases_lt}
use Rattle.std.proofs.lemmas.Bool.Decides.{eqb_tells}
use Rattle.std.proofs.lemmas.List.{get_or-set_same, get_or-set_other, get_or_append_left, get_or_push}
use Rattle.expiring_table.specs.Prelude.{IsLast, IsNext}

-- the places in front of the last stay as they are
last_same : (bucket : ℕ) (buckets : List ℕ) (new places : ℕ) (at : Option ℕ) → places ≤ length buckets → IsLast bucket buckets places at
    → IsLast bucket (buckets ++ new ∷ []) places at
last_same bucket buckets new places None within last =
    λ other before is. last other before (sym (get_or_append_left buckets (new ∷ []) 0 other (omega arith)) ∙ is)
last_same bucket buckets new places (Some at) within last = (
  last.0,
  get_or_append_left buckets (new ∷ []) 0 at (omega (arith, last.0)) ∙ last.1,
  λ other behind before is.
      last.2 other behind before (sym (get_or_append_left buckets (new ∷ []) 0 other (omega arith)) ∙ is),
)

-- one more place in another bucket
last_more : (bucket : ℕ) (buckets : List ℕ) (new places : ℕ) (at : Option ℕ) → length buckets ≡ places → new ≢ bucket
    → IsLast bucket buckets places at → IsLast bucket (buckets ++ new ∷ []) (places + 1) at
last_more bucket buckets new places None all other_bucket last =
    λ other before is.
    elim (cases_lt other places) [
      | inl h ↦ last_same bucket buckets new places None (omega arith) last other h is
      | inr h ↦ let here : length buckets ≡ other = omega arith in other_bucket (sym (get_or_push buckets new 0 other here) ∙ is)
    ]
last_more bucket buckets new places (Some at) all other_bucket last =
    let same = last_same bucket buckets new places (Some at) (omega arith) last in (
      omega (arith, last.0),
      same.1,
      λ other behind before is.
          elim (cases_lt other places) [
            | inl h ↦ same.2 other behind h is
            | inr h ↦ let here : length buckets ≡ other = omega arith in other_bucket (sym (get_or_push buckets new 0 other here) ∙ is)
          ],
    )

pub heads_push : (heads : List (Option ℕ)) (buckets buckets' : List ℕ) (new : ℕ) → buckets' ≡ buckets ++ new ∷ [] → new < length heads
    → ((bucket : ℕ) → bucket < length heads → IsLast bucket buckets (length buckets) (slice_index_or heads bucket None)) → (bucket : ℕ)
    → bucket < length heads → IsLast bucket buckets' (length buckets') (slice_index_or (set heads new (Some (length buckets))) bucket None)
heads_push heads buckets buckets' new pushed within before bucket in' =
    let P : List ℕ → Type 0 = λ all. IsLast bucket all (length all) (slice_index_or (set heads new (Some (length buckets))) bucket None) in
    let N : ℕ → Type 0 = λ places. IsLast bucket (buckets ++ new ∷ []) places (slice_index_or (set heads new (Some (length buckets))) bucket None) in
    let Q : Option ℕ → Type 0 = λ at. IsLast bucket (buckets ++ new ∷ []) (length buckets + 1) at in
    subst P (sym pushed) (subst N (sym (length-append buckets (new ∷ []))) (elim (eqb_tells bucket new) [
      | inl h ↦
          let here : bucket ≡ new = h.1 in
          let at : slice_index_or (set heads new (Some (length buckets))) bucket None ≡ Some (length buckets) =
          ap (λ one. slice_index_or (set heads new (Some (length buckets))) one None) here
          ∙ get_or-set_same heads new (Some (length buckets)) None within in
          subst Q (sym at) (omega arith, get_or_push buckets new 0 (length buckets) refl ∙ sym here, λ other behind before is. absurd (omega arith))
      | inr h ↦
          subst Q (sym (get_or-set_other heads new bucket (Some (length buckets)) None (h.1)))
          (last_more bucket buckets new (length buckets) (slice_index_or heads bucket None) refl (λ is. h.1 (sym is)) (before bucket in'))
    ]))

pub befores_push : (width : ℕ) (previous previous' : List (Option ℕ)) (buckets buckets' : List ℕ) (new : ℕ) (head : Option ℕ)
    → buckets' ≡ buckets ++ new ∷ [] → previous' ≡ previous ++ head ∷ [] → length previous ≡ length buckets → IsLast new buckets (length buckets) head
    → ((place : ℕ) → place < length buckets → slice_index buckets place < width
    → IsLast (slice_index buckets place) buckets place (slice_index_or previous place None)) → (place : ℕ) → place < length buckets'
    → slice_index buckets' place < width → IsLast (slice_index buckets' place) buckets' place (slice_index_or previous' place None)
befores_push width previous previous' buckets buckets' new head pushed linked long last before place within there =
    let P : List ℕ → Type 0 = λ all. IsLast (slice_index all place) all place (slice_index_or previous' place None) in
    let Q : List (Option ℕ) → Type 0 = λ all. IsLast (slice_index (buckets ++ new ∷ []) place) (buckets ++ new ∷ []) place
    (slice_index_or all place None) in
    let R : ℕ → Type 0 = λ bucket. IsLast bucket (buckets ++ new ∷ []) place (slice_index_or (previous ++ head ∷ []) place None) in
    let longer : length buckets' ≡ length buckets + 1 = ap length pushed ∙ length-append buckets (new ∷ []) in
    subst P (sym pushed) (subst Q (sym linked) (elim (cases_lt place (length buckets)) [
      | inl h ↦
          let S : Option ℕ → Type 0 = λ at. IsLast (slice_index buckets place) (buckets ++ new ∷ []) place at in
          subst R (sym (get_or_append_left buckets (new ∷ []) 0 place h))
          (subst S (sym (get_or_append_left previous (head ∷ []) None place (omega arith)))
          (last_same (slice_index buckets place) buckets new place (slice_index_or previous place None) (omega arith)
          (before place h (let V : ℕ → Type 0 = λ bucket. bucket < width in subst V
          (ap (λ all. slice_index all place) pushed ∙ get_or_append_left buckets (new ∷ []) 0 place h) there))))
      | inr h ↦
          let here : length buckets ≡ place = omega arith in
          let S : Option ℕ → Type 0 = λ at. IsLast new (buckets ++ new ∷ []) place at in
          let T : ℕ → Type 0 = λ places. IsLast new (buckets ++ new ∷ []) places head in
          subst R (sym (get_or_push buckets new 0 place here))
          (subst S (sym (get_or_push previous head None place (long ∙ here)))
          (subst T here (last_same new buckets new (length buckets) head (omega arith) last)))
    ]))

-- ## A place goes

pub stays : (buckets : List ℕ) (place width other : ℕ) → other ≢ place → slice_index (set buckets place width) other ≡ slice_index buckets other
stays buckets place width other not_here = get_or-set_other buckets place other width 0 not_here

gone_not : (bucket : ℕ) (buckets : List ℕ) (place width other : ℕ) → place < length buckets → bucket < width → slice_index buckets other ≢ bucket
    → slice_index (set buckets place width) other ≢ bucket
gone_not bucket buckets place width other within small other_bucket is =
    elim (eqb_tells other place) [
      | inl h ↦ let e : width ≡ bucket = sym (ap (slice_index (set buckets place width)) (h.1) ∙ get_or-set_same buckets place width 0 within) ∙ is in
          absurd (omega arith)
      | inr h ↦ other_bucket (sym (stays buckets place width other (h.1)) ∙ is)
    ]

place_not : (bucket : ℕ) (buckets : List ℕ) (place width other : ℕ) → place < length buckets → bucket < width → other ≡ place
    → slice_index (set buckets place width) other ≢ bucket
place_not bucket buckets place width other within small here is =
    let e : width ≡ bucket = sym (ap (slice_index (set buckets place width)) here ∙ get_or-set_same buckets place width 0 within) ∙ is in
    absurd (omega arith)

-- another place than the one that goes was the last
last_without : (bucket : ℕ) (buckets : List ℕ) (places : ℕ) (at : Option ℕ) (place width : ℕ) → place < length buckets → bucket < width
    → at ≢ Some place → IsLast bucket buckets places at → IsLast bucket (set buckets place width) places at
last_without bucket buckets places None place width within small not_it last = λ other before. gone_not bucket buckets place width other within small
    (last other before)
last_without bucket buckets places (Some at) place width within small not_it last = (
  last.0,
  stays buckets place width at (λ is. not_it (ap Some is))
      ∙ last.1,
  λ other behind before. gone_not bucket buckets place width other within small (last.2 other behind before),
)

-- the place that goes was the last
last_skip : (bucket : ℕ) (buckets : List ℕ) (places : ℕ) (before : Option ℕ) (place width : ℕ) → place < length buckets → bucket < width
    → IsLast bucket buckets places (Some place) → IsLast bucket buckets place before → IsLast bucket (set buckets place width) places before
last_skip bucket buckets places None place width within small last earlier = λ other in'.
    elim (eqb_tells other place) [
      | inl h ↦ place_not bucket buckets place width other within small (h.1)
      | inr h ↦ elim (cases_lt other place) [
        | inl less ↦ gone_not bucket buckets place width other within small (earlier other less)
        | inr more ↦ let h' : other ≢ place = h.1 in gone_not bucket buckets place width other within small (last.2 other (omega arith) in')
      ]
    ]
last_skip bucket buckets places (Some before) place width within small last earlier =
    let not_place : before ≢ place = λ is. absurd (omega (arith, earlier.0)) in (
      omega (arith, earlier.0, last.0),
      stays buckets place width before not_place ∙ earlier.1,
      λ other behind in'.
          elim (eqb_tells other place) [
            | inl h ↦ place_not bucket buckets place width other within small (h.1)
            | inr h ↦ elim (cases_lt other place) [
              | inl less ↦ gone_not bucket buckets place width other within small (earlier.2 other behind less)
              | inr more ↦ let h' : other ≢ place = h.1 in gone_not bucket buckets place width other within small (last.2 other (omega arith) in')
            ]
          ],
    )

-- a last place is in the bucket
last_in : (bucket : ℕ) (buckets : List ℕ) (places : ℕ) (at : Option ℕ) (place : ℕ) → IsLast bucket buckets places at → at ≡ Some place
    → IsLast bucket buckets places (Some place)
last_in bucket buckets places at place last is = let P : Option ℕ → Type 0 = λ one. IsLast bucket buckets places one in subst P is last

-- the bucket of a place that is there
there_in : (buckets : List ℕ) (place width other : ℕ) → place < length buckets → slice_index (set buckets place width) other < width → other ≢ place
there_in buckets place width other within there is =
    let e : slice_index (set buckets place width) other ≡ width = ap (slice_index (set buckets place width)) is
    ∙ get_or-set_same buckets place width 0 within in omega arith

-- ### It was the last of its bucket

-- ### Another is behind it

pub heads_inner : (heads : List (Option ℕ)) (buckets : List ℕ) (place next : ℕ) → place < length buckets
    → IsNext (slice_index buckets place) buckets place (Some next)
    → ((bucket : ℕ) → bucket < length heads → IsLast bucket buckets (length buckets) (slice_index_or heads bucket None)) → (bucket : ℕ)
    → bucket < length heads → IsLast bucket (set buckets place (length heads)) (length buckets) (slice_index_or heads bucket None)
heads_inner heads buckets place next within is_next lasts bucket in' =
    let last = lasts bucket in' in
    last_without bucket buckets (length buckets) (slice_index_or heads bucket None) place (length heads) within in' (λ is.
    let met = last_in bucket buckets (length buckets) (slice_index_or heads bucket None) place last is in
    met.2 next (is_next.0) (is_next.1) (is_next.2 ∙ met.1)) last

pub befores_inner : (width : ℕ) (previous : List (Option ℕ)) (buckets : List ℕ) (before : Option ℕ) (place next : ℕ)
    → length previous ≡ length buckets → place < length buckets → slice_index buckets place < width
    → IsNext (slice_index buckets place) buckets place (Some next) → IsLast (slice_index buckets place) buckets place before
    → ((one : ℕ) → one < length buckets → slice_index buckets one < width
    → IsLast (slice_index buckets one) buckets one (slice_index_or previous one None)) → (one : ℕ) → one < length buckets
    → slice_index (set buckets place width) one < width → IsLast (slice_index (set buckets place width) one) (set buckets place width) one
    (slice_index_or (set previous next before) one None)
befores_inner width previous buckets before place next long within there is_next earlier lasts one in' one_there =
    let not_it = there_in buckets place width one within one_there in
    let same = stays buckets place width one not_it in
    let V : ℕ → Type 0 = λ bucket. bucket < width in
    let small : slice_index buckets one < width = subst V same one_there in
    let P : ℕ → Type 0 = λ bucket. IsLast bucket (set buckets place width) one (slice_index_or (set previous next before) one None) in
    subst P (sym same) (elim (eqb_tells one next) [
      | inl h ↦
          let here : one ≡ next = h.1 in
          let bucket_is : slice_index buckets one ≡ slice_index buckets place = ap (slice_index buckets) here ∙ is_next.2 in
          let R : ℕ → Type 0 = λ bucket. IsLast bucket (set buckets place width) one (slice_index_or (set previous next before) one None) in
          let at : slice_index_or (set previous next before) one None ≡ before =
          ap (λ there. slice_index_or (set previous next before) there None) here
          ∙ get_or-set_same previous next before None (omega (arith, is_next.1)) in
          let S : Option ℕ → Type 0 = λ at. IsLast (slice_index buckets place) (set buckets place width) one at in
          subst R (sym bucket_is) (subst S (sym at) (last_skip (slice_index buckets place) buckets one before place width within there
          (omega (arith, is_next.0), refl, λ other behind in_front. is_next.3 other behind (omega arith)) earlier))
      | inr h ↦
          let last = lasts one in' small in
          let Q : Option ℕ → Type 0 = λ at. IsLast (slice_index buckets one) (set buckets place width) one at in
          let not_next : one ≢ next = h.1 in
          subst Q (sym (get_or-set_other previous next one before None (h.1)))
          (last_without (slice_index buckets one) buckets one (slice_index_or previous one None) place width within small (λ is.
          let met = last_in (slice_index buckets one) buckets one (slice_index_or previous one None) place last is in
          elim (cases_lt next one) [
            | inl less ↦ met.2 next (is_next.0) less (is_next.2 ∙ met.1)
            | inr more ↦ is_next.3 one (met.0) (omega arith) (sym (met.1))
          ]) last)
    ])

-- ## A walk to the place behind

abbrev pub steps_left : Option ℕ → ℕ
steps_left None = 0
steps_left (Some at) = at + 1

-- the walk stands in the bucket of the place, not in front of it, and what it met last is behind that
abbrev pub IsStep : List ℕ → ℕ → Option ℕ → Option ℕ → Type 0
IsStep buckets place next None = ⊥
IsStep buckets place next (Some at) = (place ≤ at) × (at < length buckets) × (slice_index buckets at ≡ slice_index buckets place)
    × IsNext (slice_index buckets place) buckets at next

pub step_start : (buckets : List ℕ) (place : ℕ) (at : Option ℕ) → place < length buckets
    → IsLast (slice_index buckets place) buckets (length buckets) at → IsStep buckets place None at
step_start buckets place None within last = last place within refl
step_start buckets place (Some at) within last =
    (elim (cases_lt at place) [ inl h ↦ absurd (last.2 place h within refl) | inr h ↦ h ], last.0, last.1, last.2)

pub step_on : (buckets : List ℕ) (place : ℕ) (next : Option ℕ) (met : ℕ) (at : Option ℕ) → IsStep buckets place next (Some met) → met ≢ place
    → IsLast (slice_index buckets met) buckets met at → IsStep buckets place (Some met) at
step_on buckets place next met None step other last = last place (let h : met ≢ place = other in omega (arith, step.0)) (sym (step.2))
step_on buckets place next met (Some at) step other last =
    let before : place < met = (let h : met ≢ place = other in omega (arith, step.0)) in (
      elim (cases_lt at place) [ inl h ↦ absurd (last.2 place h before (sym (step.2))) | inr h ↦ h ],
      omega (arith, last.0, step.1),
      last.1 ∙ step.2,
      (last.0, step.1, step.2, λ another behind in_front is. last.2 another behind in_front (is ∙ sym (step.2))),
    )
