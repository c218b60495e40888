-- A label is written, and what is left of the name is to stand behind it.
use Rattle.std.proofs.Common.{◌≡◌, ◌⊎◌, ℕ, ◌+◌, ◌<◌, ◌≤◌, Bool, true, false, cond, List, [], ◌∷◌, ◌++◌, length, slice_index_or, Option, Some, None, IfSome, unwrap_or, refl, sym, ap, subst, ◌∙◌, arith, inl, inr, nat_lt, bytes_eq, append-nil}
use Rattle.std.specs.List.{AllByRecursion}
use Rattle.std.proofs.lemmas.Bool.{cases_Bool, lt-ltb, le-ltb, ltb-true, ltb-false}
use Rattle.std.proofs.lemmas.Slice.Eq.{bytes_eq-Decides}
use Rattle.dns_names.specs.declared.suffix.Suffix.{Suffix}
use Rattle.dns_names.specs.Prelude.{behind, first_label, key_of, EndsAt, Start, found, with_start, starts_in}
use Rattle.dns_names.specs.Inside.Writers.{place_in, after_in, key_at, HaveOwnPlaces, IsFresh, IsNear, IsPending, Remembers}
use Rattle.dns_names.specs.declared.ending.Edge.{Edge}
use Rattle.dns_names.specs.declared.met.MetSuffix.{MetSuffix}
use Rattle.dns_names.specs.declared.met.MetSuffixes.{MetSuffixes}
use Rattle.dns_names.specs.Inside.Longest.{IsClosed, IsEdge}
use Rattle.dns_names.specs.Inside.Met.{IsMet, AreMet}
use Rattle.dns_names.proofs.Kept.{IsFresh-later, IsNowhere, after-last, after-more, after-near, found-last, found-more, found-push, found-with_start, label-behind, near_later, near_push, new-front, own-after, own-last, same-key, same-some}
use Rattle.dns_names.proofs.Longest.{Closing, behind-shorter, ends-after}

-- what stands for the place of a rest, or 65,534, where no pointer leads to that and it isn't found
abbrev pub KeyIs : List Start → List ℕ → ℕ → ℕ → Type 0
KeyIs known rest limit after = (after_in known rest ≡ Some after) ⊎ ((after ≡ 65534) × (16384 ≤ limit) × (after_in known rest ≡ None))

-- the starts, and what is to stand at the end
abbrev known_with : List (Suffix × ℕ) → List ℕ → ℕ → List Start
known_with entries rest limit = starts_in entries ++ with_start limit rest []

-- a label start that can be pointed to was kept
pub record Steps (old new : List (Suffix × ℕ)) (edge rest : List ℕ) (place limit after : ℕ) : Type 0 where
  pub pending : IsPending old rest place
  pub closing : Closing (starts_in old) edge rest place
  pub absent : found (starts_in old) rest ≡ None
  pub some : 1 ≤ length rest
  pub near : place < 16384
  pub on : place < limit
  pub starts : starts_in new ≡ starts_in old ++ record { place = place; octets = rest } ∷ []
  pub places : (k : List ℕ) → place_in new k ≡ cond (bytes_eq (key_of after rest) k) (Some place) (place_in old k)
  pub key : KeyIs (known_with new (behind rest) limit) (behind rest) limit after

near_known : (starts : List Start) (rest : List ℕ) (place limit : ℕ) → AllByRecursion (IsNear place) starts → place ≤ limit
    → AllByRecursion (IsNear (limit + 1)) (starts ++ with_start limit rest [])
near_known starts rest place limit all le =
    elim (cases_Bool (nat_lt limit 16384)) [
      | inl t ↦ rw t (near_push (limit + 1) starts (record { place = limit; octets = rest })
          (near_later place (limit + 1) starts (omega (arith, le)) all) (omega arith, ltb-true _ _ t))
      | inr f ↦ rw f (subst (λ (x : List Start). AllByRecursion (IsNear (limit + 1)) x) (sym (append-nil starts))
          (near_later place (limit + 1) starts (omega (arith, le)) all))
    ]

own_known : (starts : List Start) (rest : List ℕ) (place limit : ℕ) → AllByRecursion (IsNear place) starts → place ≤ limit
    → HaveOwnPlaces starts → HaveOwnPlaces (starts ++ with_start limit rest [])
own_known starts rest place limit all le own =
    elim (cases_Bool (nat_lt limit 16384)) [
      | inl t ↦ rw t (own-last place starts (record { place = limit; octets = rest }) all le own)
      | inr f ↦ rw f (subst (λ (x : List Start). HaveOwnPlaces x) (sym (append-nil starts)) own)
    ]

bytes_same : (x y : List ℕ) → x ≡ y → bytes_eq x y ≡ true
bytes_same x y e = (bytes_eq-Decides x y).1 e

bytes_off : (x y : List ℕ) → (x ≡ y → ⊥) → bytes_eq x y ≡ false
bytes_off x y off =
    elim (cases_Bool (bytes_eq x y)) [
      | inl t ↦ absurd (off ((bytes_eq-Decides x y).0 t))
      | inr f ↦ f
    ]

module _ (old new : List (Suffix × ℕ)) (edge rest : List ℕ) (place limit after : ℕ) (h : Steps old new edge rest place limit after) where
  near_new : AllByRecursion (IsNear (place + 1)) (starts_in new)
  near_new = subst (λ (x : List Start). AllByRecursion (IsNear (place + 1)) x) (sym h.starts)
      (near_push (place + 1) (starts_in old) (record { place = place; octets = rest })
      (near_later place (place + 1) (starts_in old) (omega arith) h.pending.near) (omega arith, h.near))

  own_new : HaveOwnPlaces (starts_in new)
  own_new = subst (λ (x : List Start). HaveOwnPlaces x) (sym h.starts)
      (own-last place (starts_in old) (record { place = place; octets = rest }) h.pending.near (omega arith) h.pending.own)

  found_new : (x : List ℕ) → found (starts_in new) x ≡ cond (bytes_eq rest x) (Some place) (found (starts_in old) x)
  found_new x = ap (λ (ss : List Start). found ss x) h.starts ∙ found-push (starts_in old) (record { place = place; octets = rest }) x h.absent

  old_known : known_with old rest place ≡ starts_in new
  old_known = (let t : nat_lt place 16384 ≡ true = lt-ltb _ _ h.near in rw t refl) ∙ sym h.starts

  all_near : AllByRecursion (IsNear (limit + 1)) (known_with new (behind rest) limit)
  all_near = near_known (starts_in new) (behind rest) (place + 1) limit near_new (omega (arith, h.on))

  all_own : HaveOwnPlaces (known_with new (behind rest) limit)
  all_own = own_known (starts_in new) (behind rest) (place + 1) limit near_new (omega (arith, h.on)) own_new

  -- the key of the label start, and of other octets
  key_same : (x : List ℕ) (a : ℕ) → rest ≡ x → after_in (known_with new (behind rest) limit) (behind x) ≡ Some a
      → bytes_eq (key_of after rest) (key_of a x) ≡ true
  key_same x a same e =
      let here : after_in (known_with new (behind rest) limit) (behind rest) ≡ Some a =
      ap (λ (o : List ℕ). after_in (known_with new (behind rest) limit) (behind o)) same ∙ e in
      elim h.key [
        | inl is ↦ bytes_same _ _ (ap (λ (n : ℕ). key_of n rest) (same-some _ after a is here) ∙ ap (key_of a) same)
        | inr far ↦ absurd (let q : None ≡ Some a = sym far.2 ∙ here in cc)
      ]

  key_off : (x : List ℕ) (a : ℕ) → 1 ≤ length x → (rest ≡ x → ⊥) → after_in (known_with new (behind rest) limit) (behind x) ≡ Some a
      → bytes_eq (key_of after rest) (key_of a x) ≡ false
  key_off x a some off e =
      bytes_off _ _ (λ same.
      let parts = same-key after a rest x same in
      elim h.key [
        | inl is ↦
            let behinds : behind rest ≡ behind x = own-after (limit + 1) (known_with new (behind rest) limit) (behind rest)
            (behind x) a all_near all_own (is ∙ ap Some parts.0) e in
            off (sym (label-behind rest h.some) ∙ ap (λ (o : List ℕ). o ++ behind rest) parts.1
            ∙ ap (λ (o : List ℕ). first_label x ++ o) behinds ∙ label-behind x some)
        | inr far ↦
            elim (after-near (limit + 1) (known_with new (behind rest) limit) (behind x) a all_near e) [
              | inl root ↦ omega (arith, root.1, far.0, parts.0)
              | inr near ↦ omega (arith, near.2, far.0, parts.0)
            ]
      ])

  -- other octets are found as before
  finds_other : (x : List ℕ) (a : ℕ) → 1 ≤ length x → after_in (known_with new (behind rest) limit) (behind x) ≡ Some a
      → place_in old (key_of a x) ≡ found (starts_in old) x
  finds_other x a some e =
      elim (after-last (starts_in new) limit (behind rest) (behind x) a e) [
        | inl is ↦ h.pending.finds x a some (ap (λ (ss : List Start). after_in ss (behind x)) old_known ∙ is)
        | inr last ↦
            h.pending.fresh h.near x a (omega (arith, last.2, h.on)) (omega (arith, last.2, last.3))
            ∙ sym (new-front (starts_in old) x (behind_off last.0) (λ at is.
            elim (h.closing.closed x (at, is)) [
              | inl at_edge ↦ absurd (omega (arith, some, ap length (at_edge ∙ h.closing.near h.near)))
              | inr more ↦
                  elim more [
                    | inl ends ↦ ends
                    | inr left ↦ absurd (omega (arith, ap length (last.1 ∙ left.0), behind-shorter rest h.some))
                  ]
            ]))
      ]
    where
      behind_off : IsNowhere (starts_in new) (behind x) → IsNowhere (starts_in old) (behind x)
      behind_off off = record { some = off.some; none = by_found (found (starts_in old) (behind x)) refl }
        where
          by_found : (o : Option ℕ) → found (starts_in old) (behind x) ≡ o → found (starts_in old) (behind x) ≡ None
          by_found None is = is
          by_found (Some q) is =
              absurd (
              elim (cases_Bool (bytes_eq rest (behind x))) [
                | inl t ↦ let c : None ≡ Some place = sym off.none ∙ found_new (behind x) ∙ rw t refl in cc
                | inr n ↦ let c : None ≡ Some q = sym off.none ∙ found_new (behind x) ∙ (rw n is) in cc
              ]
              )

  pub stepped : IsPending new (behind rest) limit
  stepped = record {
    finds = λ x a some e.
        elim (cases_Bool (bytes_eq rest x)) [
          | inl t ↦
              let same : rest ≡ x = (bytes_eq-Decides rest x).0 t in
              h.places (key_of a x) ∙ ap (λ (b : Bool). cond b (Some place) (place_in old (key_of a x))) (key_same x a same e)
              ∙ sym (found_new x ∙ ap (λ (b : Bool). cond b (Some place) (found (starts_in old) x)) t)
          | inr n ↦
              let off : rest ≡ x → ⊥ = λ same. absurd (let c : true ≡ false = sym (bytes_same rest x same) ∙ n in cc) in
              h.places (key_of a x) ∙ ap (λ (b : Bool). cond b (Some place) (place_in old (key_of a x))) (key_off x a some off e)
              ∙ finds_other x a some e
              ∙ sym (found_new x ∙ ap (λ (b : Bool). cond b (Some place) (found (starts_in old) x)) n)
        ];
    near = near_later (place + 1) limit (starts_in new) (omega (arith, h.on)) near_new;
    own = own_new;
    fresh = λ near x a from few.
        let off : bytes_eq (key_of after rest) (key_of a x) ≡ false =
        bytes_off _ _ (λ same.
        let parts = same-key after a rest x same in
        elim h.key [
          | inl is ↦
              elim (after-near (limit + 1) (known_with new (behind rest) limit) (behind rest) after all_near is) [
                | inl root ↦ omega (arith, root.1, parts.0, few)
                | inr at ↦ omega (arith, at.1, parts.0, from)
              ]
          | inr far ↦ omega (arith, far.1, near)
        ]) in
        h.places (key_of a x) ∙ ap (λ (b : Bool). cond b (Some place) (place_in old (key_of a x))) off
        ∙ h.pending.fresh h.near x a (omega (arith, from, h.on)) few;
  }

-- one that can't be pointed to was left out
pub stepped-far : (entries : List (Suffix × ℕ)) (rest later : List ℕ) (place limit : ℕ) → IsPending entries rest place → 16384 ≤ place
    → place < limit → IsPending entries later limit
stepped-far entries rest later place limit p far on = record {
  finds = λ x a some e.
      let none : with_start limit later [] ≡ [] = (let f : nat_lt limit 16384 ≡ false = le-ltb _ _ (omega (arith, far, on)) in rw f refl) in
      let before : with_start place rest [] ≡ [] = (let f : nat_lt place 16384 ≡ false = le-ltb _ _ far in rw f refl) in
      p.finds x a some (ap (λ (ss : List Start). after_in (starts_in entries ++ ss) (behind x)) (before ∙ sym none) ∙ e);
  near = near_later place limit (starts_in entries) (omega (arith, on)) p.near;
  own = p.own;
  fresh = λ near. absurd (omega (arith, near, far, on));
}

-- ---- what stands for the place of the rest

after-found : (known : List Start) (octets : List ℕ) → 1 ≤ length octets → after_in known octets ≡ found known octets
after-found known [] some = absurd (omega (arith, some))
after-found known (x ∷ xs) some = refl

-- that of the end of the name
end-old : (known more : List Start) (old : List (Suffix × ℕ)) (rest : List ℕ) (end : Option ℕ) → starts_in old ≡ known ++ more
    → EndsAt known (behind rest) end → after_in (starts_in old) (behind rest) ≡ Some (unwrap_or end 65535)
end-old known more old rest end grew ends = ap (λ (x : List Start). after_in x (behind rest)) grew
    ∙ after-more known more (behind rest) (unwrap_or end 65535) (ends-after known (behind rest) end ends)

module _ (known more : List Start) (old new : List (Suffix × ℕ)) (rest : List ℕ) (place limit : ℕ) (grew : starts_in old ≡ known ++ more)
    (starts : starts_in new ≡ starts_in old ++ with_start place rest []) where
  key-ends : (end : Option ℕ) → EndsAt known (behind rest) end → KeyIs (known_with new (behind rest) limit) (behind rest) limit (unwrap_or end 65535)
  key-ends end ends =
      inl (after-more (starts_in new) (with_start limit (behind rest) []) (behind rest) (unwrap_or end 65535)
      (ap (λ (x : List Start). after_in x (behind rest)) starts
      ∙ after-more (starts_in old) (with_start place rest []) (behind rest) (unwrap_or end 65535) (end-old known more old rest end grew ends)))

  -- that of the next label
  next-new : 1 ≤ length rest → found (starts_in old) rest ≡ None → found (starts_in old) (behind rest) ≡ None
      → found (starts_in new) (behind rest) ≡ None
  next-new some absent none =
      ap (λ (x : List Start). found x (behind rest)) starts
      ∙ found-with_start (starts_in old) place rest (behind rest) absent
      (bytes_off rest (behind rest) (λ same. omega (arith, ap (λ (o : List ℕ). length o) same, behind-shorter rest some)))
      ∙ none

  key-next : (end : Option ℕ) → 1 ≤ length rest → found (starts_in old) rest ≡ None → found (starts_in old) (behind rest) ≡ None
      → 1 ≤ length (behind rest) → KeyIs (known_with new (behind rest) limit) (behind rest) limit (key_at false limit end)
  key-next end some absent none long =
      let new_none = next-new some absent none in
      elim (cases_Bool (nat_lt limit 16384)) [
        | inl t ↦
            let same : bytes_eq (behind rest) (behind rest) ≡ true = bytes_same (behind rest) (behind rest) refl in
            rw t (inl (after-found (starts_in new ++ record { place = limit; octets = behind rest } ∷ []) (behind rest) long
            ∙ found-last (starts_in new) (record { place = limit; octets = behind rest }) (behind rest) new_none ∙ rw same refl))
        | inr f ↦
            rw f (inr (
              refl,
              ltb-false _ _ f,
              after-found (starts_in new ++ []) (behind rest) long
                  ∙ ap (λ (x : List Start). found x (behind rest)) (append-nil (starts_in new)) ∙ new_none,
            ))
      ]

-- no key is there yet
absent-next : (old : List (Suffix × ℕ)) (rest : List ℕ) (place limit : ℕ) (end : Option ℕ) → IsPending old rest place → place < limit
    → place < 16384 → place_in old (key_of (key_at false limit end) rest) ≡ None
absent-next old rest place limit end p on near =
    elim (cases_Bool (nat_lt limit 16384)) [
      | inl t ↦ rw t (p.fresh near rest limit on (omega (arith, ltb-true _ _ t)))
      | inr f ↦ rw f (p.fresh near rest 65534 (omega (arith, near)) (omega arith))
    ]

absent-ends : (old : List (Suffix × ℕ)) (rest : List ℕ) (place after : ℕ) → IsPending old rest place → 1 ≤ length rest
    → found (starts_in old) rest ≡ None → after_in (starts_in old) (behind rest) ≡ Some after → place_in old (key_of after rest) ≡ None
absent-ends old rest place after p some absent is = p.finds rest after some
    (after-more (starts_in old) (with_start place rest []) (behind rest) after is) ∙ absent

-- ---- a label is put

-- the name ends behind the label as it was found, or goes on with what isn't written yet
pub record GoesOn (known : List Start) (old : List (Suffix × ℕ)) (rest : List ℕ) (is_end : Bool) (end : Option ℕ) : Type 0 where
  pub ends : is_end ≡ true → EndsAt known (behind rest) end
  pub new : is_end ≡ false → found (starts_in old) (behind rest) ≡ None
  pub long : is_end ≡ false → 1 ≤ length (behind rest)

pub record IsPut (old new : List (Suffix × ℕ)) (rest : List ℕ) (place limit : ℕ) : Type 0 where
  pub starts : starts_in new ≡ starts_in old ++ with_start place rest []
  pub pending : IsPending new (behind rest) limit

module _ (known more : List Start) (old new : List (Suffix × ℕ)) (edge rest : List ℕ) (place limit : ℕ) (is_end : Bool) (end : Option ℕ)
    (r : Remembers (key_of (key_at is_end limit end) rest) rest place old new) (pending : IsPending old rest place)
    (closing : Closing (starts_in old) edge rest place) (absent : found (starts_in old) rest ≡ None) (some : 1 ≤ length rest) (on : place < limit)
    (grew : starts_in old ≡ known ++ more) (goes_on : GoesOn known old rest is_end end) where
  none : place < 16384 → place_in old (key_of (key_at is_end limit end) rest) ≡ None
  none near = by_end is_end refl
    where
      by_end : (b : Bool) → is_end ≡ b → place_in old (key_of (key_at b limit end) rest) ≡ None
      by_end false e = absent-next old rest place limit end pending on near
      by_end true e = by_place end (goes_on.ends e)
        where
          by_place : (o : Option ℕ) → EndsAt known (behind rest) o → place_in old (key_of (key_at true limit o) rest) ≡ None
          by_place None ends = absent-ends old rest place 65535 pending some absent (end-old known more old rest None grew ends)
          by_place (Some to) ends = absent-ends old rest place to pending some absent (end-old known more old rest (Some to) grew ends)

  put_starts : starts_in new ≡ starts_in old ++ with_start place rest []
  put_starts =
      elim (cases_Bool (nat_lt place 16384)) [
        | inl t ↦
            let near : place < 16384 = ltb-true _ _ t in
            rw t (r.starts near (none near) pending.near)
        | inr f ↦ rw f (ap starts_in (r.far (ltb-false _ _ f)) ∙ sym (append-nil (starts_in old)))
      ]

  key_stands : KeyIs (known_with new (behind rest) limit) (behind rest) limit (key_at is_end limit end)
  key_stands = by_end is_end refl
    where
      by_end : (b : Bool) → is_end ≡ b → KeyIs (known_with new (behind rest) limit) (behind rest) limit (key_at b limit end)
      by_end false e = key-next known more old new rest place limit grew put_starts end some absent (goes_on.new e) (goes_on.long e)
      by_end true e = by_place end (goes_on.ends e)
        where
          by_place : (o : Option ℕ) → EndsAt known (behind rest) o
              → KeyIs (known_with new (behind rest) limit) (behind rest) limit (key_at true limit o)
          by_place None ends = key-ends known more old new rest place limit grew put_starts None ends
          by_place (Some to) ends = key-ends known more old new rest place limit grew put_starts (Some to) ends

  pub put-label : IsPut old new rest place limit
  put-label = record {
    starts = put_starts;
    pending =
        elim (cases_Bool (nat_lt place 16384)) [
          | inl t ↦
              let near : place < 16384 = ltb-true _ _ t in
              stepped old new edge rest place limit (key_at is_end limit end) (record {
                pending = pending;
                closing = closing;
                absent = absent;
                some = some;
                near = near;
                on = on;
                starts = put_starts ∙ rw t refl;
                places = r.near near (none near);
                key = key_stands;
              })
          | inr f ↦
              let far : 16384 ≤ place = ltb-false _ _ f in
              subst (λ (es : List (Suffix × ℕ)). IsPending es (behind rest) limit) (sym (r.far far))
              (stepped-far old rest (behind rest) place limit pending far on)
        ];
  }

-- ---- what stood stays

pub put-found : (old new : List (Suffix × ℕ)) (rest : List ℕ) (place limit : ℕ) → IsPut old new rest place limit
    → found (starts_in old) rest ≡ None → place < 16384 → found (starts_in new) rest ≡ Some place
put-found old new rest place limit is absent near =
    let t : nat_lt place 16384 ≡ true = lt-ltb _ _ near in
    let same : bytes_eq rest rest ≡ true = bytes_same rest rest refl in
    let starts : starts_in new ≡ starts_in old ++ record { place = place; octets = rest } ∷ [] = is.starts ∙ rw t refl in
    ap (λ (x : List Start). found x rest) starts ∙ found-last (starts_in old) (record { place = place; octets = rest }) rest absent ∙ rw same refl

pub edge-later : (starts more new : List Start) (edge : Edge) → new ≡ starts ++ more → IsEdge starts edge → IsEdge new edge
edge-later starts more new edge is (inl none) = inl none
edge-later starts more new edge is (inr kept) = inr (ap (λ (x : List Start). found x edge.octets.now) is
    ∙ found-more starts more edge.octets.now edge.place kept)

met-one-later : (starts more new : List Start) (suffix : MetSuffix) → new ≡ starts ++ more → IsMet starts suffix → IsMet new suffix
met-one-later starts more new suffix is (inl none) = inl none
met-one-later starts more new suffix is (inr kept) = inr (ap (λ (x : List Start). found x suffix.octets.now) is
    ∙ found-more starts more suffix.octets.now suffix.place kept)

pub met-later : (starts more new : List Start) (met : MetSuffixes) → new ≡ starts ++ more → AreMet starts met → AreMet new met
met-later starts more new met is all = record {
  short = met-one-later starts more new met.short is all.short;
  long = λ k d lt. met-one-later starts more new (slice_index_or met.long.items k d) is (all.long k d lt);
}

-- octets that are no name are written
closed-later : (starts : List Start) (edge : List ℕ) (limit later : ℕ) → IsClosed starts edge limit → limit ≤ later → IsClosed starts edge later
closed-later starts edge limit later is le = record { closed = is.closed; kept = is.kept; near = λ near. is.near (omega (arith, near, le)) }

pub edges-later : (entries : List (Suffix × ℕ)) (edge : Option Edge) (limit later : ℕ) → limit ≤ later
    → IfSome edge (λ e. IsFresh entries limit × IsEdge (starts_in entries) e × IsClosed (starts_in entries) e.octets.now limit)
    → IfSome edge (λ e. IsFresh entries later × IsEdge (starts_in entries) e × IsClosed (starts_in entries) e.octets.now later)
edges-later entries None limit later le is = tt
edges-later entries (Some e) limit later le is = (
  IsFresh-later entries limit later is.0 le,
  is.1,
  closed-later
      (starts_in entries) e.octets.now limit later is.2 le,
)
