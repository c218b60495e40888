-- The lists of a host's octets, with octets that follow.
use Rattle.std.proofs.Common.{◌≡◌, ◌+◌, ◌-◌, ℕ, true, false, List, [], ◌∷◌, ◌++◌, length, take, drop, refl, sym, ◌∙◌, ap, arith, append_assoc, inl, inr, map, replicate, flat_map, bytes_eq}
use Rattle.std.proofs.lemmas.List.{append-nil, length-append, take_at, take_all, drop_at, drop_all, map-append}
use Rattle.std.proofs.lemmas.Grind.{flat_map-append}
use Rattle.std.proofs.lemmas.Bool.{cases_Bool}
use Rattle.std.proofs.lemmas.Slice.Eq.{bytes_eq-Decides}
use Rattle.dialogue.specs.Prelude.{Meaning, IsUnit, IsRest, IsLawful, Push, Plain, Changed, Span, plain_spans, push_spans, spans_from, end_from, image_len, changed_ends, Cut, cut_at, cut, push_of, push_if, pushes_of, image_of, image}
use Rattle.dialogue.proofs.PlaceLemmas.{plain_spans-add, spans_from-append}
use Rattle.dialogue.proofs.CutLemmas.{cut_joined, end_from-map, length-push_spans}
use Rattle.dialogue.proofs.FirstUnit.{after_units, cut-first, cut-rest, cut-on}
use Rattle.dialogue.proofs.Growth.{spans-pushes_of}
use Rattle.audit_streams.specs.Inside.Transcripts.{Transcribed, transcript_of, with_octets, rest_of, rest_at, closed, changed, ended, ended_as}

abbrev pub made : List ℕ → List ℕ → List Span → List ℕ → ℕ → Transcribed
made octets image places ends rest = record { octets = octets; image = image; places = places; ends = ends; rest = rest }

pub made_is : (o o' i i' : List ℕ) (p p' : List Span) (e e' : List ℕ) (r r' : ℕ) → o ≡ o' → i ≡ i' → p ≡ p' → e ≡ e' → r ≡ r'
    → made o i p e r ≡ made o' i' p' e' r'
made_is o o' i i' p p' e e' r r' a b c d f =
    ap (λ x. made x i p e r) a ∙ ap (λ x. made o' x p e r) b ∙ ap (λ x. made o' i' x e r) c ∙ ap (λ x. made o' i' p' x r) d
    ∙ ap (λ x. made o' i' p' e' x) f

-- the lists by a cut
abbrev pub transcript_by : Meaning → Cut → List ℕ → Transcribed
transcript_by m c s =
    made s (image_of m c) (spans_from 0 (pushes_of m c c.rest)) (changed_ends 0 (pushes_of m c c.rest)) (length (flat_map (λ u. u) c.units))

pub changed_ends-append : (at : ℕ) (ps qs : List Push) → changed_ends at (ps ++ qs) ≡ changed_ends at ps ++ changed_ends (end_from at ps) qs
changed_ends-append at [] qs = refl
changed_ends-append at (Plain count ∷ ps) qs = changed_ends-append (at + count) ps qs
changed_ends-append at (Changed unit image ∷ ps) qs = ap (λ ends. (at + length image) ∷ ends) (changed_ends-append (at + length image) ps qs)

-- a last plain push ends no changed unit
pub ends_plain : (ps : List Push) (n : ℕ) → changed_ends 0 (ps ++ Plain n ∷ []) ≡ changed_ends 0 ps
ends_plain ps n = changed_ends-append 0 ps (Plain n ∷ []) ∙ append-nil _

-- no unit ends in octets that follow
pub rest_on : (m : Meaning) (c : Cut) (s t : List ℕ) → transcript_by m (cut_at c (c.rest ++ t) false) (s ++ t) ≡ with_octets (transcript_by m c s) t
rest_on m c s t =
    let images = flat_map m.image c.units in
    let front = spans_from 0 (map (push_of m) c.units) in
    let at = length images in
    let on : spans_from 0 (pushes_of m (cut_at c (c.rest ++ t) false) (c.rest ++ t)) ≡ spans_from 0 (pushes_of m c c.rest) ++ plain_spans
    (at + length c.rest) (length t) =
    spans-pushes_of m (cut_at c (c.rest ++ t) false) (c.rest ++ t)
    ∙ ap (λ n. front ++ plain_spans at n) (length-append c.rest t)
    ∙ ap (λ ss. front ++ ss) (plain_spans-add at (length c.rest) (length t))
    ∙ sym (append_assoc front (plain_spans at (length c.rest)) (plain_spans (at + length c.rest) (length t)))
    ∙ ap (λ ss. ss ++ plain_spans (at + length c.rest) (length t)) (sym (spans-pushes_of m c c.rest))
    in
    let far : length (image_of m c) ≡ at + length c.rest = length-append images c.rest in
    made_is _ _ _ _ _ _ _ _ _ _
    refl
    (sym (append_assoc images c.rest t))
    (on ∙ ap (λ n. spans_from 0 (pushes_of m c c.rest) ++ plain_spans n (length t)) (sym far))
    (ends_plain (map (push_of m) c.units) (length (c.rest ++ t)) ∙ sym (ends_plain (map (push_of m) c.units) (length c.rest)))
    refl

-- the spans of a cut whose last unit this is
unit_spans : (m : Meaning) (c : Cut) (u : List ℕ)
    → spans_from 0 (pushes_of m (cut_at c u true) []) ≡ spans_from 0 (map (push_of m) c.units) ++ push_spans (length (flat_map m.image c.units))
    (push_of m u)
unit_spans m c u =
    let front = spans_from 0 (map (push_of m) c.units) in
    let front_at : end_from 0 (map (push_of m) c.units) ≡ length (flat_map m.image c.units) = end_from-map m 0 c.units ∙ omega arith in
    spans-pushes_of m (cut_at c u true) []
    ∙ append-nil _
    ∙ ap (spans_from 0) (map-append (push_of m) c.units (u ∷ []))
    ∙ spans_from-append 0 (map (push_of m) c.units) (push_of m u ∷ [])
    ∙ ap (λ ss. front ++ ss) (append-nil _ ∙ ap (λ n. push_spans n (push_of m u)) front_at)

unit_ends : (m : Meaning) (c : Cut) (u : List ℕ)
    → changed_ends 0 (pushes_of m (cut_at c u true) []) ≡ changed_ends 0 (map (push_of m) c.units) ++ changed_ends (length (flat_map m.image c.units))
    (push_of m u ∷ [])
unit_ends m c u =
    let front_at : end_from 0 (map (push_of m) c.units) ≡ length (flat_map m.image c.units) = end_from-map m 0 c.units ∙ omega arith in
    ends_plain (map (push_of m) (c.units ++ u ∷ [])) 0
    ∙ ap (changed_ends 0) (map-append (push_of m) c.units (u ∷ []))
    ∙ changed_ends-append 0 (map (push_of m) c.units) (push_of m u ∷ [])
    ∙ ap (λ n. changed_ends 0 (map (push_of m) c.units) ++ changed_ends n (push_of m u ∷ [])) front_at

-- the units' octets, with one unit more
units_on : (us : List (List ℕ)) (u : List ℕ) → flat_map (λ v. v) (us ++ u ∷ []) ≡ flat_map (λ v. v) us ++ u
units_on us u = flat_map-append (λ v. v) us (u ∷ []) ∙ ap (λ w. flat_map (λ v. v) us ++ w) (append-nil u)

pub images_on : (m : Meaning) (us : List (List ℕ)) (u : List ℕ) → flat_map m.image (us ++ u ∷ []) ≡ flat_map m.image us ++ m.image u
images_on m us u = flat_map-append m.image us (u ∷ []) ∙ ap (λ w. flat_map m.image us ++ w) (append-nil (m.image u))

-- how many octets the spans of units are for
front_length : (m : Meaning) (us : List (List ℕ)) → length (spans_from 0 (map (push_of m) us)) ≡ length (flat_map (λ u. u) us)
front_length m us = from 0 us
  where
    from : (at : ℕ) (us : List (List ℕ)) → length (spans_from at (map (push_of m) us)) ≡ length (flat_map (λ u. u) us)
    from at [] = refl
    from at (u ∷ us) =
        omega (
          arith,
          length-append (push_spans at (push_of m u)) (spans_from (at + image_len (push_of m u)) (map (push_of m) us)),
          length-push_spans at m u,
          from (at + image_len (push_of m u)) us,
          length-append u (flat_map (λ v. v) us),
        )

-- the places of a rest with octets that follow
places_rest : (m : Meaning) (c : Cut) (s t : List ℕ)
    → (with_octets (transcript_by m c s) t).places ≡ spans_from 0 (map (push_of m) c.units) ++ plain_spans (length (flat_map m.image c.units))
    (length (c.rest ++ t))
places_rest m c s t = let u = c.rest ++ t in sym (ap (λ (l : Transcribed). l.places) (rest_on m c s t)) ∙ spans-pushes_of m (cut_at c u false) u

-- the octets, with the rest as the last unit
octets_on : (c : Cut) (s t : List ℕ) → flat_map (λ u. u) c.units ++ c.rest ≡ s → s ++ t ≡ flat_map (λ u. u) c.units ++ (c.rest ++ t)
octets_on c s t e = ap (λ v. v ++ t) (sym e) ∙ append_assoc (flat_map (λ u. u) c.units) c.rest t

-- a unit ends that goes on as it is
plain_on : (m : Meaning) (c : Cut) (s t : List ℕ) → flat_map (λ u. u) c.units ++ c.rest ≡ s → bytes_eq (m.image (c.rest ++ t)) (c.rest ++ t) ≡ true
    → transcript_by m (cut_at c (c.rest ++ t) true) (s ++ t) ≡ closed (with_octets (transcript_by m c s) t)
plain_on m c s t whole e =
    let u = c.rest ++ t in
    let images = flat_map m.image c.units in
    let at = length images in
    let front = spans_from 0 (map (push_of m) c.units) in
    let same : m.image u ≡ u = (bytes_eq-Decides (m.image u) u).0 e in
    let push : push_of m u ≡ Plain (length u) = ap (λ b. push_if b u (m.image u)) e in
    made_is _ _ _ _ _ _ _ _ _ _
    refl
    (append-nil _ ∙ images_on m c.units u ∙ ap (λ v. images ++ v) same ∙ sym (append_assoc images c.rest t))
    (unit_spans m c u ∙ ap (λ p. front ++ push_spans at p) push ∙ sym (places_rest m c s t))
    (unit_ends m c u ∙ ap (λ p. changed_ends 0 (map (push_of m) c.units) ++ changed_ends at (p ∷ [])) push ∙ append-nil _
    ∙ sym (ends_plain (map (push_of m) c.units) (length c.rest)))
    (ap length (units_on c.units u) ∙ ap length (sym (octets_on c s t whole)))

-- where the image of the rest begins
begins_at : (m : Meaning) (c : Cut) (s t : List ℕ) → flat_map (λ u. u) c.units ++ c.rest ≡ s
    → rest_at (with_octets (transcript_by m c s) t) ≡ length (flat_map m.image c.units)
begins_at m c s t whole =
    let u = c.rest ++ t in
    let units = flat_map (λ v. v) c.units in
    let images = flat_map m.image c.units in
    let octets : length (s ++ t) ≡ length units + length u = ap length (octets_on c s t whole) ∙ length-append units u in
    let image_is : (images ++ c.rest) ++ t ≡ images ++ u = append_assoc images c.rest t in
    omega (arith, octets, ap length image_is, length-append images u)

-- a unit ends that goes on as another image
changed_on : (m : Meaning) (c : Cut) (s t : List ℕ) → flat_map (λ u. u) c.units ++ c.rest ≡ s → bytes_eq (m.image (c.rest ++ t)) (c.rest ++ t) ≡ false
    → transcript_by m (cut_at c (c.rest ++ t) true) (s ++ t) ≡ changed (with_octets (transcript_by m c s) t) (m.image (c.rest ++ t))
changed_on m c s t whole e =
    let u = c.rest ++ t in
    let l = with_octets (transcript_by m c s) t in
    let units = flat_map (λ v. v) c.units in
    let images = flat_map m.image c.units in
    let at = length images in
    let front = spans_from 0 (map (push_of m) c.units) in
    let plain = plain_spans at (length u) in
    let push : push_of m u ≡ Changed (length u) (m.image u) = ap (λ b. push_if b u (m.image u)) e in
    let octets : length (s ++ t) ≡ length units + length u = ap length (octets_on c s t whole) ∙ length-append units u in
    let image_is : (images ++ c.rest) ++ t ≡ images ++ u = append_assoc images c.rest t in
    let count : length (s ++ t) - length units ≡ length u = omega (arith, octets) in
    let begins : rest_at l ≡ at = begins_at m c s t whole in
    made_is _ _ _ _ _ _ _ _ _ _
    refl
    (append-nil _ ∙ images_on m c.units u
    ∙ ap (λ v. v ++ m.image u) (sym (ap (λ v. take (rest_at l) v) image_is ∙ take_at images u (rest_at l) (sym begins))))
    (unit_spans m c u
    ∙ ap (λ p. front ++ push_spans at p) push
    ∙ ap (λ n. front ++ replicate (length u) (record { first = n; past = n + length (m.image u) })) (sym begins)
    ∙ ap (λ n. front ++ replicate n (record { first = rest_at l; past = rest_at l + length (m.image u) })) (sym count)
    ∙ ap (λ ss. ss ++ replicate (length (s ++ t) - length units) (record { first = rest_at l; past = rest_at l + length (m.image u) }))
    (sym (ap (take (length units)) (places_rest m c s t) ∙ take_at front plain (length units) (front_length m c.units))))
    (unit_ends m c u
    ∙ ap (λ p. changed_ends 0 (map (push_of m) c.units) ++ changed_ends at (p ∷ [])) push
    ∙ ap (λ n. changed_ends 0 (map (push_of m) c.units) ++ (n + length (m.image u)) ∷ []) (sym begins)
    ∙ ap (λ es. es ++ (rest_at l + length (m.image u)) ∷ []) (sym (ends_plain (map (push_of m) c.units) (length c.rest))))
    (ap length (units_on c.units u) ∙ ap length (sym (octets_on c s t whole)))

-- what was the rest, with octets that follow, in the lists
rest_is : (m : Meaning) (c : Cut) (s t : List ℕ) → flat_map (λ u. u) c.units ++ c.rest ≡ s
    → rest_of (with_octets (transcript_by m c s) t) ≡ c.rest ++ t
rest_is m c s t whole =
    ap (λ v. drop (length (flat_map (λ u. u) c.units)) v) (octets_on c s t whole)
    ∙ drop_at (flat_map (λ u. u) c.units) (c.rest ++ t) (length (flat_map (λ u. u) c.units)) refl

-- a unit ends
unit_on : (m : Meaning) (c : Cut) (s t : List ℕ) → flat_map (λ u. u) c.units ++ c.rest ≡ s
    → transcript_by m (cut_at c (c.rest ++ t) true) (s ++ t) ≡ ended m (with_octets (transcript_by m c s) t)
unit_on m c s t whole =
    let u = c.rest ++ t in
    let l = with_octets (transcript_by m c s) t in
    elim (cases_Bool (bytes_eq (m.image u) u)) [
      | inl e ↦ plain_on m c s t whole e
          ∙ sym (ap (λ v. ended_as (bytes_eq (m.image v) v) l (m.image v)) (rest_is m c s t whole) ∙ ap (λ b. ended_as b l (m.image u)) e)
      | inr e ↦ changed_on m c s t whole e
          ∙ sym (ap (λ v. ended_as (bytes_eq (m.image v) v) l (m.image v)) (rest_is m c s t whole) ∙ ap (λ b. ended_as b l (m.image u)) e)
    ]

-- the rest of the lists is that of the cut
pub rest_of_transcript : (m : Meaning) (s : List ℕ) → rest_of (transcript_of m s) ≡ (cut m s).rest
rest_of_transcript m s = ap (λ v. drop (length (flat_map (λ u. u) (cut m s).units)) v) (sym (cut_joined m s))
    ∙ drop_at (flat_map (λ u. u) (cut m s).units) (cut m s).rest (length (flat_map (λ u. u) (cut m s).units)) refl

-- where its image begins
pub begins_here : (m : Meaning) (s : List ℕ) → rest_at (transcript_of m s) ≡ length (flat_map m.image (cut m s).units)
begins_here m s =
    let c = cut m s in
    omega (arith, ap length (cut_joined m s), length-append (flat_map (λ u. u) c.units) c.rest, length-append (flat_map m.image c.units) c.rest)

pub rest_with_octets : (m : Meaning) (s t : List ℕ) → rest_of (with_octets (transcript_of m s) t) ≡ (cut m s).rest ++ t
rest_with_octets m s t = rest_is m (cut m s) s t (cut_joined m s)

-- a cut goes on by octets in which no unit ends
pub cut_rest : (m : Meaning) → IsLawful m → (s t : List ℕ) → IsRest m ((cut m s).rest ++ t)
    → cut m (s ++ t) ≡ cut_at (cut m s) ((cut m s).rest ++ t) false
cut_rest m law s t none =
    let c : Cut = cut m s in
    cut-on m law s t
    ∙ ap (after_units c.units) (cut-rest m law (c.rest ++ t) none)
    ∙ ap (λ (us : List (List ℕ)). let d : Cut = record { units = us; rest = c.rest ++ t } in d) (append-nil c.units)

-- and by those with which one ends
pub cut_unit : (m : Meaning) → IsLawful m → (s t : List ℕ) → IsUnit m ((cut m s).rest ++ t)
    → cut m (s ++ t) ≡ cut_at (cut m s) ((cut m s).rest ++ t) true
cut_unit m law s t unit =
    let c : Cut = cut m s in
    let u = c.rest ++ t in
    cut-on m law s t
    ∙ ap (after_units c.units)
    (cut-first m law u (length u) unit
    ∙ ap (λ (v : List ℕ). after_units (v ∷ []) (cut m (drop (length u) u))) (take_all (length u) u (omega arith))
    ∙ ap (λ (v : List ℕ). after_units (u ∷ []) (cut m v)) (drop_all (length u) u (omega arith)))

-- the lists of octets with others behind them, in which no unit ends
pub transcript_rest : (m : Meaning) → IsLawful m → (s t : List ℕ) → IsRest m ((cut m s).rest ++ t)
    → transcript_of m (s ++ t) ≡ with_octets (transcript_of m s) t
transcript_rest m law s t none = ap (λ (d : Cut). transcript_by m d (s ++ t)) (cut_rest m law s t none) ∙ rest_on m (cut m s) s t

-- and with which one ends
pub transcript_unit : (m : Meaning) → IsLawful m → (s t : List ℕ) → IsUnit m ((cut m s).rest ++ t)
    → transcript_of m (s ++ t) ≡ ended m (with_octets (transcript_of m s) t)
transcript_unit m law s t unit = ap (λ (d : Cut). transcript_by m d (s ++ t)) (cut_unit m law s t unit) ∙ unit_on m (cut m s) s t (cut_joined m s)
