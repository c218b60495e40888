-- The places of octets by the changed units among them.
use Rattle.std.proofs.Common.{◌≡◌, ◌≤◌, ◌<◌, ◌+◌, ◌-◌, ℕ, zero, suc, true, false, List, [], ◌∷◌, ◌++◌, length, get_or, take, drop, refl, sym, ◌∙◌, ap, subst, arith, append_assoc, cond, inl, inr, ◌^◌, map, min, replicate, nat_le, Option, Some, None, IfSome, slice_get}
use Rattle.std.specs.List.Sorted.{IsPartitionPoint, IsPartitionedBy}
use Rattle.std.proofs.lemmas.List.{append-nil, length-append, length-replicate, length-take-le, map-append, take_at, take-append-le}
use Rattle.std.proofs.lemmas.Bool.{cases_Bool, cases_lt, leb-true, leb-false, le-leb, lt-leb}
use Rattle.std.proofs.lemmas.List.Sorted.{IsPartitionedBy-leb}
use Rattle.std.proofs.lemmas.Option.{same_Some}
use Rattle.dialogue.specs.Prelude.{Span, plain_spans, back_in}
use Rattle.dialogue.proofs.PlaceLemmas.{length-plain_spans, plain_spans-add, back_in-plain, back_in-plain_part, back_in-replicate, back_in-stops}
use Rattle.audit_streams.specs.declared.transcript.ChangedUnit.{ChangedUnit}
use Rattle.audit_streams.specs.Inside.Transcripts.{Transcribed, IsTranscript, places_from, last_by, InOrder, with_octets, changed}
use Rattle.audit_streams.proofs.TranscriptLemmas.{made, made_is}
use Rattle.audit_streams.proofs.Rising.{RisesBy, rises}

-- where the octets of the last unit end, or else here; where its image ends, or else here
abbrev pub octets_end : ℕ → List ChangedUnit → ℕ
octets_end o us = last_by (λ u. u.past) o us

abbrev pub image_end : ℕ → List ChangedUnit → ℕ
image_end p us = last_by (λ u. u.end) p us

-- ## Units in order

octets_end-le : (us : List ChangedUnit) (o p : ℕ) → InOrder o p us → o ≤ octets_end o us
octets_end-le [] o p h = omega arith
octets_end-le (u ∷ us) o p h = omega (arith, h.0, h.1, octets_end-le us u.past u.end h.4)

image_end-le : (us : List ChangedUnit) (o p : ℕ) → InOrder o p us → p ≤ image_end p us
image_end-le [] o p h = omega arith
image_end-le (u ∷ us) o p h = omega (arith, h.0, h.2, h.3, image_end-le us u.past u.end h.4)

-- the last unit's number
pub last_is : (number : ChangedUnit → ℕ) (us : List ChangedUnit) (u : ChangedUnit) (a : ℕ) → Some u ≡ slice_get us (length us - 1)
    → number u ≡ last_by number a us
last_is number [] u a e = cc
last_is number (x ∷ []) u a e = ap number (same_Some u x e)
last_is number (x ∷ y ∷ us) u a e =
    let here : suc (suc (length us)) - 1 ≡ suc (length us) = omega arith in
    let there : length us ≡ suc (length us) - 1 = omega arith in
    last_is number (y ∷ us) u (number x) (e ∙ ap (slice_get (x ∷ y ∷ us)) here ∙ ap (slice_get (y ∷ us)) there)

pub last_by-push : (number : ChangedUnit → ℕ) (us : List ChangedUnit) (w : ChangedUnit) (a : ℕ) → last_by number a (us ++ w ∷ []) ≡ number w
last_by-push number [] w a = refl
last_by-push number (u ∷ us) w a = last_by-push number us w (number u)

pub order-append : (vs ws : List ChangedUnit) (o p : ℕ) → InOrder o p vs → InOrder (octets_end o vs) (image_end p vs) ws → InOrder o p (vs ++ ws)
order-append [] ws o p h k = k
order-append (v ∷ vs) ws o p h k = (h.0, h.1, h.2, h.3, order-append vs ws v.past v.end h.4 k)

order-front : (vs ws : List ChangedUnit) (o p : ℕ) → InOrder o p (vs ++ ws) → InOrder o p vs
order-front [] ws o p h = tt
order-front (v ∷ vs) ws o p h = (h.0, h.1, h.2, h.3, order-front vs ws v.past v.end h.4)

order-behind : (vs ws : List ChangedUnit) (o p : ℕ) → InOrder o p (vs ++ ws) → InOrder (octets_end o vs) (image_end p vs) ws
order-behind [] ws o p h = h
order-behind (v ∷ vs) ws o p h = order-behind vs ws v.past v.end h.4

pub pasts_rise : (us : List ChangedUnit) (o p : ℕ) → InOrder o p us → RisesBy (λ (u : ChangedUnit). u.past) o us
pasts_rise [] o p h = tt
pasts_rise (u ∷ us) o p h = (omega (arith, h.0, h.1), pasts_rise us u.past u.end h.4)

pub ends_rise : (us : List ChangedUnit) (o p : ℕ) → InOrder o p us → RisesBy (λ (u : ChangedUnit). u.end) p us
ends_rise [] o p h = tt
ends_rise (u ∷ us) o p h = (omega (arith, h.0, h.2, h.3), ends_rise us u.past u.end h.4)

-- ## Units that are parted at a place

last_upto : (number : ChangedUnit → ℕ) (us : List ChangedUnit) (j q a : ℕ) → a ≤ q
    → ((k : ℕ) (d : ChangedUnit) → k < j → k < length us → number (get_or us k d) ≤ q) → last_by number a (take j us) ≤ q
last_upto number us zero q a l h = l
last_upto number [] (suc j) q a l h = l
last_upto number (u ∷ us) (suc j) q a l h =
    last_upto number us j q (number u) (h 0 u (omega arith) (omega arith)) (λ k d b c. h (suc k) d (omega arith) (omega arith))

first_beyond : (number : ChangedUnit → ℕ) (us : List ChangedUnit) (j q : ℕ)
    → ((k : ℕ) (d : ChangedUnit) → j ≤ k → k < length us → q < number (get_or us k d)) → IfSome (slice_get (drop j us) 0) (λ u. q < number u)
first_beyond number [] zero q h = tt
first_beyond number (u ∷ us) zero q h = h 0 u (omega arith) (omega arith)
first_beyond number [] (suc j) q h = tt
first_beyond number (u ∷ us) (suc j) q h = first_beyond number us j q (λ k d b c. h (suc k) d (omega arith) (omega arith))

-- what a search by one of the numbers asks
pub pasts_parted : (us : List ChangedUnit) (q : ℕ) → InOrder 0 0 us → IsPartitionedBy (λ u. nat_le u.past q) us
pasts_parted us q h = IsPartitionedBy-leb (λ (u : ChangedUnit). u.past) us q (rises (λ (u : ChangedUnit). u.past) us 0 (pasts_rise us 0 0 h))

pub ends_parted : (us : List ChangedUnit) (q : ℕ) → InOrder 0 0 us → IsPartitionedBy (λ u. nat_le u.end q) us
ends_parted us q h = IsPartitionedBy-leb (λ (u : ChangedUnit). u.end) us q (rises (λ (u : ChangedUnit). u.end) us 0 (ends_rise us 0 0 h))

-- the numbers of the first units lie at a place or below it, and that of the next one above it
pub record Parted (number : ChangedUnit → ℕ) (before behind : List ChangedUnit) (q : ℕ) : Type 0 where
  pub upto : last_by number 0 before ≤ q
  pub beyond : IfSome (slice_get behind 0) (λ u. q < number u)

pub parted : (number : ChangedUnit → ℕ) (us before behind : List ChangedUnit) (q j : ℕ) → j ≤ length us
    → IsPartitionPoint (λ u. nat_le (number u) q ≡ true) (λ u. nat_le (number u) q ≡ false) us j → before ≡ take j us → behind ≡ drop j us
    → Parted number before behind q
parted number us before behind q j l h b e = record {
  upto = subst (λ (vs : List ChangedUnit). last_by number 0 vs ≤ q) (sym b)
      (last_upto number us j q 0 (omega arith) (λ k d below in_it. leb-true _ _ (h.0 k d (omega arith) below)));
  beyond =
      subst (λ (ws : List ChangedUnit). IfSome (slice_get ws 0) (λ u. q < number u)) (sym e)
      (first_beyond number us j q (λ k d low in_it. leb-false _ _ (h.1 k d low in_it)));
}

-- ## The places of octets

pub length-places : (us : List ChangedUnit) (o p n : ℕ) → InOrder o p us → octets_end o us ≤ n → length (places_from o p us n) + o ≡ n
length-places [] o p n h l = omega (arith, length-plain_spans p (n - o))
length-places (u ∷ us) o p n h l =
    let s : Span = record { first = u.at; past = u.end } in
    let plain = plain_spans p (u.first - o) in
    let unit = replicate (u.past - u.first) s in
    let rest = places_from u.past u.end us n in
    omega (
      arith,
      h.0,
      h.1,
      length-append plain (unit ++ rest),
      length-append unit rest,
      length-plain_spans p (u.first - o),
      length-replicate (u.past - u.first) s,
      length-places us u.past u.end n h.4 l,
      octets_end-le us u.past u.end h.4,
    )

joined_on : (a b c d : List Span) → a ++ (b ++ (c ++ d)) ≡ (a ++ (b ++ c)) ++ d
joined_on a b c d = ap (λ ss. a ++ ss) (sym (append_assoc b c d)) ∙ sym (append_assoc a (b ++ c) d)

-- octets that follow stand as they are
pub places_on : (us : List ChangedUnit) (o p n t : ℕ) → octets_end o us ≤ n
    → places_from o p us (n + t) ≡ places_from o p us n ++ plain_spans (image_end p us + (n - octets_end o us)) t
places_on [] o p n t l = let e : (n + t) - o ≡ (n - o) + t = omega arith in ap (plain_spans p) e ∙ plain_spans-add p (n - o) t
places_on (u ∷ us) o p n t l =
    let s : Span = record { first = u.at; past = u.end } in
    let plain = plain_spans p (u.first - o) in
    let unit = replicate (u.past - u.first) s in
    ap (λ ss. plain ++ (unit ++ ss)) (places_on us u.past u.end n t l)
    ∙ joined_on plain unit (places_from u.past u.end us n) (plain_spans (image_end u.end us + (n - octets_end u.past us)) t)

-- a further unit, with which the octets end
pub places_changed : (us : List ChangedUnit) (o p : ℕ) (w : ChangedUnit)
    → places_from o p (us ++ w ∷ []) w.past ≡ places_from o p us w.first ++ replicate (w.past - w.first) (record { first = w.at; past = w.end })
places_changed [] o p w =
    let s : Span = record { first = w.at; past = w.end } in
    let none : w.past - w.past ≡ 0 = omega arith in
    ap (λ n. plain_spans p (w.first - o) ++ (replicate (w.past - w.first) s ++ plain_spans w.end n)) none
    ∙ ap (λ ss. plain_spans p (w.first - o) ++ ss) (append-nil (replicate (w.past - w.first) s))
places_changed (u ∷ us) o p w =
    let s : Span = record { first = u.at; past = u.end } in
    let plain = plain_spans p (u.first - o) in
    let unit = replicate (u.past - u.first) s in
    ap (λ ss. plain ++ (unit ++ ss)) (places_changed us u.past u.end w)
    ∙ joined_on plain unit (places_from u.past u.end us w.first) (replicate (w.past - w.first) (record { first = w.at; past = w.end }))

-- the places of the first octets, with others behind them
pub places_front : (us : List ChangedUnit) (p n k : ℕ) (more : List Span) → InOrder 0 p us → octets_end 0 us ≤ k → k ≤ n
    → take k (places_from 0 p us n ++ more) ≡ places_from 0 p us k
places_front us p n k more h l m =
    let t = n - k in
    let e : n ≡ k + t = omega arith in
    let first = places_from 0 p us k in
    let plain = plain_spans (image_end p us + (k - octets_end 0 us)) t in
    ap (λ i. take k (places_from 0 p us i ++ more)) e
    ∙ ap (λ ss. take k (ss ++ more)) (places_on us 0 p k t l)
    ∙ ap (take k) (append_assoc first plain more)
    ∙ take_at first (plain ++ more) k (omega (arith, length-places us 0 p k h l))

-- ## The places of one octet

get_before : (xs ys : List Span) (i : ℕ) → i < length xs → slice_get (xs ++ ys) i ≡ slice_get xs i
get_before [] ys i l = absurd (omega arith)
get_before (x ∷ xs) ys zero l = refl
get_before (x ∷ xs) ys (suc i) l = get_before xs ys i (omega arith)

get_behind : (xs ys : List Span) (i j : ℕ) → i ≡ length xs + j → slice_get (xs ++ ys) i ≡ slice_get ys j
get_behind [] ys i j e = let same : i ≡ j = omega arith in ap (slice_get ys) same
get_behind (x ∷ xs) ys zero j e = absurd (omega arith)
get_behind (x ∷ xs) ys (suc i) j e = get_behind xs ys i j (omega arith)

abbrev plain_span : ℕ → Span
plain_span at = record { first = at; past = at + 1 }

get_plain : (n at i : ℕ) → i < n → slice_get (plain_spans at n) i ≡ Some (plain_span (at + i))
get_plain zero at i l = absurd (omega arith)
get_plain (suc n) at zero l = let e : at ≡ at + 0 = omega arith in ap (λ a. Some (plain_span a)) e
get_plain (suc n) at (suc i) l = let e : (at + 1) + i ≡ at + suc i = omega arith in get_plain n (at + 1) i (omega arith)
    ∙ ap (λ a. Some (plain_span a)) e

get_replicate : (n : ℕ) (s : Span) (i : ℕ) → i < n → slice_get (replicate n s) i ≡ Some s
get_replicate zero s i l = absurd (omega arith)
get_replicate (suc n) s zero l = refl
get_replicate (suc n) s (suc i) l = get_replicate n s i (omega arith)

-- units that end before an octet
get_over : (vs ws : List ChangedUnit) (o p n k : ℕ) → InOrder o p vs → octets_end o vs ≤ k
    → slice_get (places_from o p (vs ++ ws) n) (k - o) ≡ slice_get (places_from (octets_end o vs) (image_end p vs) ws n) (k - octets_end o vs)
get_over [] ws o p n k h l = refl
get_over (v ∷ vs) ws o p n k h l =
    let s : Span = record { first = v.at; past = v.end } in
    let plain = plain_spans p (v.first - o) in
    let unit = replicate (v.past - v.first) s in
    let rest = places_from v.past v.end (vs ++ ws) n in
    let last : v.past ≤ octets_end v.past vs = octets_end-le vs v.past v.end h.4 in
    get_behind plain (unit ++ rest) (k - o) (k - v.first) (omega (arith, h.0, h.1, last, length-plain_spans p (v.first - o)))
    ∙ get_behind unit rest (k - v.first) (k - v.past) (omega (arith, h.1, last, length-replicate (v.past - v.first) s))
    ∙ get_over vs ws v.past v.end n k h.4 l

-- the places of an octet, by the next unit that ends behind it
abbrev pub span_at : ℕ → ℕ → Option ChangedUnit → ℕ → Span
span_at o p None k = record { first = p + (k - o); past = p + (k - o) + 1 }
span_at o p (Some u) k = cond (nat_le u.first k) (record { first = u.at; past = u.end }) (record { first = p + (k - o); past = p + (k - o) + 1 })

pub span_of_unit : (o p k : ℕ) (u : ChangedUnit) (next : Option ChangedUnit) (s : Span) → Some u ≡ next → u.first ≤ k → s.first ≡ u.at
    → s.past ≡ u.end → s ≡ span_at o p next k
span_of_unit o p k u next s is l first past =
    let unit : Span = record { first = u.at; past = u.end } in
    let plain : Span = record { first = p + (k - o); past = p + (k - o) + 1 } in
    ap (λ n. let r : Span = record { first = n; past = s.past } in r) first
    ∙ ap (λ n. let r : Span = record { first = u.at; past = n } in r) past
    ∙ sym (ap (λ b. cond b unit plain) (le-leb u.first k l))
    ∙ ap (λ n. span_at o p n k) is

pub span_of_other : (o p k : ℕ) (next : Option ChangedUnit) (s : Span) → IfSome next (λ u. k < u.first) → s.first ≡ p + (k - o) → s.past ≡ s.first + 1
    → s ≡ span_at o p next k
span_of_other o p k None s l first past =
    ap (λ n. let r : Span = record { first = s.first; past = n } in r) past ∙ ap (λ n. let r : Span = record { first = n; past = n + 1 } in r) first
span_of_other o p k (Some u) s l first past =
    let unit : Span = record { first = u.at; past = u.end } in
    let plain : Span = record { first = p + (k - o); past = p + (k - o) + 1 } in
    ap (λ n. let r : Span = record { first = s.first; past = n } in r) past
    ∙ ap (λ n. let r : Span = record { first = n; past = n + 1 } in r) first
    ∙ sym (ap (λ b. cond b unit plain) (lt-leb u.first k l))

get_here : (ws : List ChangedUnit) (o p n k : ℕ) → InOrder o p ws → o ≤ k → k < n → IfSome (slice_get ws 0) (λ u. k < u.past)
    → slice_get (places_from o p ws n) (k - o) ≡ Some (span_at o p (slice_get ws 0) k)
get_here [] o p n k h l m b = get_plain (n - o) p (k - o) (omega arith)
get_here (u ∷ ws) o p n k h l m b =
    let s : Span = record { first = u.at; past = u.end } in
    let plain = plain_spans p (u.first - o) in
    let unit = replicate (u.past - u.first) s in
    let rest = places_from u.past u.end ws n in
    let far : length plain ≡ u.first - o = length-plain_spans p (u.first - o) in
    elim (cases_Bool (nat_le u.first k)) [
      | inl e ↦
          let in_it : u.first ≤ k = leb-true u.first k e in
          get_behind plain (unit ++ rest) (k - o) (k - u.first) (omega (arith, h.0, far))
          ∙ get_before unit rest (k - u.first) (omega (arith, b, length-replicate (u.past - u.first) s))
          ∙ get_replicate (u.past - u.first) s (k - u.first) (omega (arith, b))
          ∙ sym (ap (λ c. Some (cond c s (plain_span (p + (k - o))))) e)
      | inr e ↦
          let ahead : k < u.first = leb-false u.first k e in
          get_before plain (unit ++ rest) (k - o) (omega (arith, far))
          ∙ get_plain (u.first - o) p (k - o) (omega arith)
          ∙ sym (ap (λ c. Some (cond c s (plain_span (p + (k - o))))) e)
    ]

pub place_is : (us before behind : List ChangedUnit) (n k : ℕ) → InOrder 0 0 us → before ++ behind ≡ us → k < n → Parted (λ u. u.past) before behind k
    → Some (span_at (octets_end 0 before) (image_end 0 before) (slice_get behind 0) k) ≡ slice_get (places_from 0 0 us n) k
place_is us before behind n k h whole l p =
    let order : InOrder 0 0 (before ++ behind) = subst (λ (vs : List ChangedUnit). InOrder 0 0 vs) (sym whole) h in
    let at : k - 0 ≡ k = omega arith in
    sym
    (ap (λ (vs : List ChangedUnit). slice_get (places_from 0 0 vs n) k) (sym whole)
    ∙ ap (slice_get (places_from 0 0 (before ++ behind) n)) (sym at)
    ∙ get_over before behind 0 0 n k (order-front before behind 0 0 order) p.upto
    ∙ get_here behind (octets_end 0 before) (image_end 0 before) n k (order-behind before behind 0 0 order) p.upto l p.beyond)

-- ## How many octets lie below a place

-- units whose images end below a place
back_over : (vs ws : List ChangedUnit) (o p n q : ℕ) → InOrder o p vs → image_end p vs ≤ q
    → back_in (places_from o p (vs ++ ws) n) q + o ≡ octets_end o vs + back_in (places_from (octets_end o vs) (image_end p vs) ws n) q
back_over [] ws o p n q h l = omega arith
back_over (v ∷ vs) ws o p n q h l =
    let s : Span = record { first = v.at; past = v.end } in
    let unit = replicate (v.past - v.first) s in
    let rest = places_from v.past v.end (vs ++ ws) n in
    let last : v.end ≤ image_end v.end vs = image_end-le vs v.past v.end h.4 in
    omega (
      arith,
      h.0,
      h.1,
      back_in-plain (v.first - o) p (unit ++ rest) q (omega (arith, h.0, h.2, h.3, last)),
      back_in-replicate (v.past - v.first) s rest q (omega (arith, last)),
      back_over vs ws v.past v.end n q h.4 l,
    )

-- where the next unit begins, or else this place
abbrev pub until : ℕ → Option ChangedUnit → ℕ
until n None = n
until n (Some u) = u.first

back_here : (ws : List ChangedUnit) (o p n q : ℕ) → InOrder o p ws → p ≤ q → IfSome (slice_get ws 0) (λ u. q < u.end)
    → back_in (places_from o p ws n) q ≡ min (q - p) (until n (slice_get ws 0) - o)
back_here [] o p n q h l b =
    let nil : plain_spans p (n - o) ≡ plain_spans p (n - o) ++ [] = sym (append-nil (plain_spans p (n - o))) in
    ap (λ ss. back_in ss q) nil
    ∙ elim (cases_lt q (p + (n - o))) [
      | inl near ↦ back_in-plain_part (n - o) p [] q l near ∙ omega arith
      | inr far ↦ back_in-plain (n - o) p [] q far ∙ omega arith
    ]
back_here (u ∷ ws) o p n q h l b =
    let s : Span = record { first = u.at; past = u.end } in
    let rest = replicate (u.past - u.first) s ++ places_from u.past u.end ws n in
    elim (cases_lt q (p + (u.first - o))) [
      | inl near ↦ back_in-plain_part (u.first - o) p rest q l near ∙ omega arith
      | inr far ↦
          let none : back_in rest q ≡ 0 = back_in-stops (u.past - u.first) s (places_from u.past u.end ws n) q (omega (arith, h.1)) b in
          back_in-plain (u.first - o) p rest q far ∙ omega (arith, none)
    ]

pub below_is : (us before behind : List ChangedUnit) (n q : ℕ) → InOrder 0 0 us → before ++ behind ≡ us → Parted (λ u. u.end) before behind q
    → octets_end 0 before + min (q - image_end 0 before) (until n (slice_get behind 0) - octets_end 0 before) ≡ back_in (places_from 0 0 us n) q
below_is us before behind n q h whole p =
    let order : InOrder 0 0 (before ++ behind) = subst (λ (vs : List ChangedUnit). InOrder 0 0 vs) (sym whole) h in
    let over = back_over before behind 0 0 n q (order-front before behind 0 0 order) p.upto in
    let here = back_here behind (octets_end 0 before) (image_end 0 before) n q (order-behind before behind 0 0 order) p.upto p.beyond in
    let is : octets_end 0 before + min (q - image_end 0 before) (until n (slice_get behind 0) - octets_end 0 before) ≡ back_in
    (places_from 0 0 (before ++ behind) n) q = omega (arith, over, here) in
    is ∙ ap (λ (vs : List ChangedUnit). back_in (places_from 0 0 vs n) q) whole

-- where the next unit begins, or else the octets end, lies behind the units before
pub until-le : (us before behind : List ChangedUnit) (n : ℕ) → InOrder 0 0 us → before ++ behind ≡ us → octets_end 0 us ≤ n
    → (octets_end 0 before ≤ until n (slice_get behind 0)) × (until n (slice_get behind 0) ≤ n)
until-le us before behind n h whole l =
    let order : InOrder 0 0 (before ++ behind) = subst (λ (vs : List ChangedUnit). InOrder 0 0 vs) (sym whole) h in
    let all : octets_end 0 (before ++ behind) ≤ n = subst (λ (vs : List ChangedUnit). octets_end 0 vs ≤ n) (sym whole) l in
    within behind (octets_end 0 before) (image_end 0 before) n (order-behind before behind 0 0 order)
    (omega (arith, all, ends-append before behind 0))
  where
    ends-append : (vs ws : List ChangedUnit) (o : ℕ) → octets_end o (vs ++ ws) ≡ octets_end (octets_end o vs) ws
    ends-append [] ws o = refl
    ends-append (v ∷ vs) ws o = ends-append vs ws v.past

    within : (ws : List ChangedUnit) (o p n : ℕ) → InOrder o p ws → octets_end o ws ≤ n → (o ≤ until n (slice_get ws 0))
        × (until n (slice_get ws 0) ≤ n)
    within [] o p n h l = (l, omega arith)
    within (u ∷ ws) o p n h l = (h.0, omega (arith, h.1, octets_end-le ws u.past u.end h.4))

-- ## The lists as they are kept

-- the lists of these octets, image and units
abbrev pub kept : List ℕ → List ℕ → List ChangedUnit → ℕ → Transcribed
kept octets image us rest = made octets image (places_from 0 0 us (length octets)) (map (λ (u : ChangedUnit). u.end) us) rest

module _ (octets image : List ℕ) (us : List ChangedUnit) (rest : ℕ) (is : IsTranscript octets image us rest) where
  pub length-kept : length (kept octets image us rest).places ≡ length octets
  length-kept = let l = length-places us 0 0 (length octets) is.order (omega (arith, is.before, is.within)) in omega (arith, l)

  pub kept_on : (t : List ℕ) → kept (octets ++ t) (image ++ t) us rest ≡ with_octets (kept octets image us rest) t
  kept_on t =
      let n = length octets in
      let at : image_end 0 us + (n - octets_end 0 us) ≡ length image = omega (arith, is.before, is.within, is.behind) in
      made_is _ _ _ _ _ _ _ _ _ _
      refl
      refl
      (ap (places_from 0 0 us) (length-append octets t)
      ∙ places_on us 0 0 n (length t) (omega (arith, is.before, is.within))
      ∙ ap (λ k. places_from 0 0 us n ++ plain_spans k (length t)) at)
      refl
      refl

module _ (octets image : List ℕ) (us : List ChangedUnit) (rest : ℕ) (is : IsTranscript octets image us rest) (t new : List ℕ) (w : ChangedUnit)
    (first : w.first ≡ rest) (past : w.past ≡ length octets + length t) (at : w.at ≡ length image - (length octets - rest))
    (end : w.end ≡ w.at + length new) where
  -- where the image of the rest begins, also with octets that follow
  begins : w.at ≡ length (image ++ t) - (length (octets ++ t) - rest)
  begins = omega (arith, at, is.within, is.before, is.behind, length-append image t, length-append octets t)

  pub kept_changed : kept (octets ++ t) (take w.at image ++ new) (us ++ w ∷ []) (length octets + length t) ≡ changed
      (with_octets (kept octets image us rest) t) new
  kept_changed =
      let n = length (octets ++ t) in
      let n_is : n ≡ w.past = length-append octets t ∙ sym past in
      let b = length (image ++ t) - (n - rest) in
      let far : w.end ≡ b + length new = omega (arith, end, begins) in
      let front : take w.at image ≡ take b (image ++ t) =
      sym (ap (λ k. take k (image ++ t)) (sym begins) ∙ take-append-le w.at image t (omega (arith, at))) in
      made_is _ _ _ _ _ _ _ _ _ _
      refl
      (ap (λ v. v ++ new) front)
      (ap (places_from 0 0 (us ++ w ∷ [])) n_is
      ∙ places_changed us 0 0 w
      ∙ ap (λ k. places_from 0 0 us k ++ replicate (w.past - k) (record { first = w.at; past = w.end })) first
      ∙ ap (λ k. places_from 0 0 us rest ++ replicate (k - rest) (record { first = w.at; past = w.end })) (sym n_is)
      ∙ ap (λ k. places_from 0 0 us rest ++ replicate (n - rest) (record { first = k; past = w.end })) begins
      ∙ ap (λ k. places_from 0 0 us rest ++ replicate (n - rest) (record { first = b; past = k })) far
      ∙ ap (λ ss. ss ++ replicate (n - rest) (record { first = b; past = b + length new }))
      (sym (places_front us 0 (length octets) rest (plain_spans (length image) (length t)) is.order is.before is.within)))
      (map-append (λ (u : ChangedUnit). u.end) us (w ∷ []) ∙ ap (λ k. map (λ (u : ChangedUnit). u.end) us ++ k ∷ []) far)
      (sym (length-append octets t))

  pub changed_transcript : rest < length octets + length t → length octets + length t < 2 ^ 30 → w.at + length new < 2 ^ 31
      → IsTranscript (octets ++ t) (take w.at image ++ new) (us ++ w ∷ []) (length octets + length t)
  changed_transcript some few short =
      let image_at : length (take w.at image ++ new) ≡ w.at + length new =
      omega (arith, length-append (take w.at image) new, length-take-le w.at image (omega (arith, at))) in
      record {
        within = omega (arith, length-append octets t);
        order = order-append us (w ∷ []) 0 0 is.order (
          omega (arith, first, is.before),
          omega (arith, first, past, some),
          omega (arith, first, at, is.within, is.before, is.behind),
          omega (arith, end),
          tt,
        );
        before = omega (arith, last_by-push (λ (u : ChangedUnit). u.past) us w 0, past);
        behind =
            omega (
              arith,
              image_at,
              length-append octets t,
              last_by-push (λ (u : ChangedUnit). u.past) us w 0,
              last_by-push (λ (u : ChangedUnit). u.end) us w 0,
              past,
              end,
            );
        few = omega (arith, few, length-append octets t);
        short = omega (arith, short, image_at);
      }
