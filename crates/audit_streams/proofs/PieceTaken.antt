-- A piece of octets more, for the lists of octets.
use Rattle.std.proofs.Common.{◌≡◌, ◌≤◌, ◌<◌, ◌+◌, ◌-◌, ℕ, Bool, true, false, List, [], ◌∷◌, ◌++◌, length, take, refl, sym, ◌∙◌, ap, subst, arith, inl, inr, ◌^◌, ◌&&◌, not, None, Some, option_map, flat_map, bytes_eq, append-nil, length-append, length-drop, length-take-le}
use Rattle.std.proofs.lemmas.Bool.{cases_Bool, true≢false}
use Rattle.std.proofs.lemmas.Slice.Eq.{bytes_eq-Decides}
use Rattle.std.proofs.Math.Seq.{take-append-add}
use Rattle.dialogue.specs.Prelude.{Meaning, IsUnit, IsRest, IsReleased, IsLawful, is_released, Cut, cut, image, image_of}
use Rattle.dialogue.proofs.CutLemmas.{cut_joined, IsRest-cut, past_rest}
use Rattle.stream_model.proofs.FactLemmas.{image_small}
use Rattle.audit_streams.specs.Inside.Transcripts.{Transcribed, transcript_of, with_octets, rest_of, rest_at, closed, ended, ended_as, IsOf}
use Rattle.audit_streams.proofs.TranscriptLemmas.{rest_of_transcript, rest_with_octets, cut_rest, cut_unit, transcript_rest, transcript_unit, begins_here, images_on}
use Rattle.audit_streams.proofs.HostLists.{image_few}

-- a rest with octets is released where it isn't held
pub some_released : (m : Meaning) (r : List ℕ) → 1 ≤ length r → is_released m r ≡ not (m.holds r)
some_released m [] l = absurd (omega arith)
some_released m (x ∷ r) l = and_true _
  where
    and_true : (b : Bool) → (b && true) ≡ b
    and_true true = refl
    and_true false = refl

released_is : (m : Meaning) (r : List ℕ) → IsRest m r → is_released m r ≡ true → IsReleased m r
released_is m [] rest e = absurd (true≢false (sym e))
released_is m (x ∷ xs) rest e =
    elim (cases_Bool (m.holds (x ∷ xs))) [
      | inl h ↦ absurd (true≢false (sym (rw h at e)))
      | inr h ↦ record { rest = rest; some = omega arith; free = h }
    ]

-- the rest of the lists
pub rest_here : (m : Meaning) (released : Bool) (l : Transcribed) → IsOf m l released → rest_of l ≡ (cut m l.octets).rest
rest_here m released l of = ap rest_of of.lists ∙ rest_of_transcript m l.octets

pub no_end : (m : Meaning) → IsLawful m → (released : Bool) (l : Transcribed) → IsOf m l released → IsRest m (rest_of l)
no_end m law released l of = subst (λ (r : List ℕ). IsRest m r) (sym (rest_here m released l of)) (IsRest-cut m law l.octets)

pub extend_short : (m : Meaning) → IsLawful m → (released : Bool) (l : Transcribed) (n : ℕ) → IsOf m l released → length l.octets + n < 2 ^ 30
    → length l.image + n < 2 ^ 31
extend_short m law released l n of few = omega (arith, few, image_few m law released l of)

of_lists : (m : Meaning) (k : Transcribed) (s : List ℕ) → k ≡ transcript_of m s → k ≡ transcript_of m k.octets
of_lists m k s e = e ∙ ap (transcript_of m) (sym (ap (λ (j : Transcribed). j.octets) e))

-- no unit ends
pub rest_goes : (m : Meaning) → IsLawful m → (released more : Bool) (l k : Transcribed) (t : List ℕ) → IsOf m l released → k ≡ with_octets l t
    → IsRest m (rest_of l ++ t) → more ≡ is_released m (rest_of l ++ t) → IsOf m k more
rest_goes m law released more l k t of e none is =
    let rest : rest_of l ≡ (cut m l.octets).rest = rest_here m released l of in
    let none_on : IsRest m ((cut m l.octets).rest ++ t) = subst (λ (r : List ℕ). IsRest m (r ++ t)) rest none in
    let now : k ≡ transcript_of m (l.octets ++ t) = e ∙ ap (λ j. with_octets j t) of.lists ∙ sym (transcript_rest m law l.octets t none_on) in
    record {
      lists = of_lists m k (l.octets ++ t) now;
      free =
          is
          ∙ ap (λ r. is_released m (r ++ t)) rest
          ∙ sym (ap (λ (j : Transcribed). is_released m (cut m j.octets).rest) now
          ∙ ap (λ (c : Cut). is_released m c.rest) (cut_rest m law l.octets t none_on));
    }

-- a unit ends
pub unit_ends : (m : Meaning) → IsLawful m → (released : Bool) (l k : Transcribed) (t : List ℕ) → IsOf m l released → IsUnit m (rest_of l ++ t)
    → k ≡ ended m (with_octets l t) → IsOf m k false
unit_ends m law released l k t of unit e =
    let rest : rest_of l ≡ (cut m l.octets).rest = rest_here m released l of in
    let unit_on : IsUnit m ((cut m l.octets).rest ++ t) = subst (λ (r : List ℕ). IsUnit m (r ++ t)) rest unit in
    let now : k ≡ transcript_of m (l.octets ++ t) = e ∙ ap (λ j. ended m (with_octets j t)) of.lists
    ∙ sym (transcript_unit m law l.octets t unit_on) in
    record {
      lists = of_lists m k (l.octets ++ t) now;
      free = sym
          (ap (λ (j : Transcribed). is_released m (cut m j.octets).rest) now
          ∙ ap (λ (c : Cut). is_released m c.rest) (cut_unit m law l.octets t unit_on));
    }

pub rest_on : (m : Meaning) (released : Bool) (l : Transcribed) (t : List ℕ) → IsOf m l released → rest_of (with_octets l t) ≡ rest_of l ++ t
rest_on m released l t of = ap (λ j. rest_of (with_octets j t)) of.lists ∙ rest_with_octets m l.octets t
    ∙ ap (λ r. r ++ t) (sym (rest_here m released l of))

-- what the rest becomes that ends as such a unit
pub ended_is : (m : Meaning) (released same : Bool) (l : Transcribed) (t u : List ℕ) → IsOf m l released → u ≡ rest_of l ++ t
    → bytes_eq (m.image u) u ≡ same → ended m (with_octets l t) ≡ ended_as same (with_octets l t) (m.image u)
ended_is m released same l t u of joined e =
    let k = with_octets l t in
    let is : rest_of k ≡ u = rest_on m released l t of ∙ sym joined in
    ap (λ v. ended_as (bytes_eq (m.image v) v) k (m.image v)) is ∙ ap (λ b. ended_as b k (m.image u)) e

pub unit_short : (m : Meaning) → IsLawful m → (released : Bool) (l : Transcribed) (t u : List ℕ) → IsOf m l released → u ≡ rest_of l ++ t → IsUnit m u
    → length l.octets + length t < 2 ^ 30 → rest_at l + length (m.image u) < 2 ^ 31
unit_short m law released l t u of joined unit few =
    let c = cut m l.octets in
    let v = c.rest ++ t in
    let is : u ≡ v = joined ∙ ap (λ r. r ++ t) (rest_here m released l of) in
    let unit_on : IsUnit m v = subst (λ (w : List ℕ). IsUnit m w) is unit in
    let begins : rest_at l ≡ length (flat_map m.image c.units) = ap rest_at of.lists ∙ begins_here m l.octets in
    let all : image m (l.octets ++ t) ≡ flat_map m.image c.units ++ m.image v = ap (image_of m) (cut_unit m law l.octets t unit_on) ∙ append-nil _
    ∙ images_on m c.units v in
    omega (
      arith,
      few,
      begins,
      ap (λ w. length (m.image w)) is,
      ap length all,
      length-append (flat_map m.image c.units) (m.image v),
      image_small m law (l.octets ++ t),
      length-append l.octets t,
    )

-- a unit has an octet, so that it goes beyond the last whole unit
pub unit_some : (m : Meaning) → IsLawful m → (released : Bool) (l : Transcribed) (t u : List ℕ) → IsOf m l released → u ≡ rest_of l ++ t → IsUnit m u
    → l.rest < length l.octets + length t
unit_some m law released l t u of joined unit =
    let c = cut m l.octets in
    omega (
      arith,
      (law.within u (length u) unit).0,
      ap length joined,
      length-append (rest_of l) t,
      length-drop l.rest l.octets,
      ap (λ (j : Transcribed). j.rest) of.lists,
      ap length (cut_joined m l.octets),
      length-append (flat_map (λ v. v) c.units) c.rest,
    )

-- a unit that ends in octets behind a rest, by where it ends in both joined
pub record EndsBehind (m : Meaning) (l : Transcribed) (t joined : List ℕ) (end count : ℕ) : Type 0 where
  pub above : length joined - length t ≤ end
  pub some : 1 ≤ count
  pub within : count ≤ length t
  pub is : take end joined ≡ rest_of l ++ take count t
  pub unit : IsUnit m (take end joined)

pub ends_behind : (m : Meaning) → IsLawful m → (released : Bool) (l : Transcribed) (t joined : List ℕ) (end : ℕ) → IsOf m l released
    → joined ≡ rest_of l ++ t → m.first_end joined ≡ Some end → EndsBehind m l t joined end (end - (length joined - length t))
ends_behind m law released l t joined end of e first =
    let r = rest_of l in
    let count = end - (length joined - length t) in
    let past : length r < end = past_rest m law r t end (no_end m law released l of) (ap m.first_end (sym e) ∙ first) in
    let within = law.within joined end first in
    let long : length joined ≡ length r + length t = ap length e ∙ length-append r t in
    let is : end ≡ length r + count = omega (arith, past, long) in
    record {
      above = omega (arith, past, long);
      some = omega (arith, past, long);
      within = omega (arith, within.1, long);
      is = ap (take end) e ∙ ap (λ n. take n (r ++ t)) is ∙ take-append-add r t count;
      unit = law.alone joined end first ∙ ap Some (sym (length-take-le end joined within.1));
    }

-- the rest of lists that is released
pub free_rest : (m : Meaning) → IsLawful m → (released : Bool) (l : Transcribed) → IsOf m l released → released ≡ true → IsReleased m (rest_of l)
free_rest m law released l of e =
    let rest : rest_of l ≡ (cut m l.octets).rest = rest_here m released l of in
    released_is m (rest_of l) (no_end m law released l of) (ap (is_released m) rest ∙ sym of.free ∙ e)

-- a released rest goes on
pub free_goes : (m : Meaning) → IsLawful m → (released : Bool) (l k : Transcribed) (t : List ℕ) → IsOf m l released → released ≡ true
    → k ≡ with_octets l t → m.first_end t ≡ None → IsOf m k released
free_goes m law released l k t of e is none =
    let free : IsReleased m (rest_of l) = free_rest m law released l of e in
    let on : IsRest m (rest_of l ++ t) = law.ends (rest_of l) t free ∙ ap (option_map (λ n. length (rest_of l) + n)) none in
    let some : 1 ≤ length (rest_of l ++ t) = omega (arith, free.some, length-append (rest_of l) t) in
    rest_goes m law released released l k t of is on (e ∙ sym (some_released m (rest_of l ++ t) some ∙ ap not (law.stays (rest_of l) t free on)))

-- or ends with octets that follow
pub free_ends : (m : Meaning) → IsLawful m → (released : Bool) (l j k : Transcribed) (t : List ℕ) (end : ℕ) → IsOf m l released → released ≡ true
    → m.first_end t ≡ Some end → j ≡ with_octets l (take end t) → k ≡ closed j → IsOf m k false
free_ends m law released l j k t end of e first is shut =
    let r = rest_of l in
    let free : IsReleased m r = free_rest m law released l of e in
    let joined : m.first_end (r ++ t) ≡ Some (length r + end) = law.ends r t free ∙ ap (option_map (λ n. length r + n)) first in
    let at : (length r + end) - (length (r ++ t) - length t) ≡ end = omega (arith, length-append r t) in
    let behind : EndsBehind m l t (r ++ t) (length r + end) end =
    subst (λ (n : ℕ). EndsBehind m l t (r ++ t) (length r + end) n) at
    (ends_behind m law released l t (r ++ t) (length r + end) of refl joined) in
    let u = r ++ take end t in
    let unit : IsUnit m u = subst (λ (v : List ℕ). IsUnit m v) behind.is behind.unit in
    let same : m.image u ≡ u = law.kept u unit (law.released r (take end t) free unit) in
    let plain : bytes_eq (m.image u) u ≡ true = (bytes_eq-Decides (m.image u) u).1 same in
    unit_ends m law released l k (take end t) of unit (shut ∙ ap closed is ∙ sym (ended_is m released true l (take end t) u of refl plain))
