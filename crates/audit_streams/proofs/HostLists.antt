-- What the lists tell of a host.
use Rattle.std.proofs.Common.{◌≡◌, ◌≤◌, ◌-◌, ◌*◌, ℕ, Bool, true, false, List, [], ◌∷◌, ◌++◌, length, refl, sym, ◌∙◌, ap, arith, inl, inr, ◌||◌, cond, None, flat_map, length-append, length-drop}
use Rattle.std.proofs.lemmas.Bool.{cases_Bool, leb-false, or_parts}
use Rattle.gate_base.specs.declared.host.Host.{Host}
use Rattle.dialogue.specs.Prelude.{Meaning, IsLawful, is_held, is_released, changed_ends, cut, image, due, due_rest, spans, pushes_of}
use Rattle.stream_model.proofs.FactLemmas.{image_small}
use Rattle.stream_model.specs.Prelude.{Sender, Segment, extent, arrival, repeats_unlike, is_data, refusal_of, segment_refusal}
use Rattle.stream_model.proofs.PassLemmas.{Passes, passes, second_false, data_is}
use Rattle.audit_streams.specs.Inside.Transcripts.{Transcribed, rest_of, IsOf}
use Rattle.audit_streams.specs.Hosts.{HeardStreams, session_of}
use Rattle.audit_streams.specs.Sending.{CanTake}
use Rattle.audit_streams.proofs.TranscriptLemmas.{rest_of_transcript}

-- how much is due of a stream
due_by : (m : Meaning) (ended : Bool) (us : List (List ℕ)) (r : List ℕ)
    → length (flat_map m.image us ++ due_rest m ended r) ≡ cond (ended || is_released m r) (length (flat_map m.image us ++ r))
    (length (flat_map m.image us ++ r) - length r)
due_by m true us r = refl
due_by m false us [] = omega arith
due_by m false us (x ∷ xs) =
    elim (cases_Bool (m.holds (x ∷ xs))) [
      | inl e ↦ rw e (omega (arith, length-append (flat_map m.image us) [], length-append (flat_map m.image us) (x ∷ xs)))
      | inr e ↦ rw e refl
    ]

pub due_len : (m : Meaning) (ended released : Bool) (l : Transcribed) → IsOf m l released
    → length (due m ended l.octets) ≡ cond (ended || released) (length l.image) (length l.image - length (rest_of l))
due_len m ended released l is =
    let rest : rest_of l ≡ (cut m l.octets).rest = ap rest_of is.lists ∙ rest_of_transcript m l.octets in
    let all : l.image ≡ image m l.octets = ap (λ (k : Transcribed). k.image) is.lists in
    rw (is.free, rest, all) (due_by m ended (cut m l.octets).units (cut m l.octets).rest)

held_by : (m : Meaning) (ended : Bool) (r : List ℕ) → cond ended [] (cond (is_held m r) r []) ≡ cond (ended || is_released m r) [] r
held_by m true r = refl
held_by m false [] = refl
held_by m false (x ∷ xs) =
    elim (cases_Bool (m.holds (x ∷ xs))) [
      | inl e ↦ rw e refl
      | inr e ↦ rw e refl
    ]

pub held_is : (m : Meaning) (ended released : Bool) (l : Transcribed) → IsOf m l released
    → cond ended [] (cond (is_held m (cut m l.octets).rest) (cut m l.octets).rest []) ≡ cond (ended || released) [] (rest_of l)
held_is m ended released l is =
    let rest : rest_of l ≡ (cut m l.octets).rest = ap rest_of is.lists ∙ rest_of_transcript m l.octets in
    rw (is.free, rest) (held_by m ended (cut m l.octets).rest)

pub image_is : (m : Meaning) (released : Bool) (l : Transcribed) → IsOf m l released → l.image ≡ image m l.octets
image_is m released l is = ap (λ (k : Transcribed). k.image) is.lists

pub spans_are : (m : Meaning) (released : Bool) (l : Transcribed) → IsOf m l released → l.places ≡ spans m l.octets
spans_are m released l is = ap (λ (k : Transcribed). k.places) is.lists

pub image_few : (m : Meaning) → IsLawful m → (released : Bool) (l : Transcribed) → IsOf m l released → 2 * length l.image ≤ 3 * length l.octets
image_few m law released l is = omega (arith, image_small m law l.octets, ap length (image_is m released l is))

pub due_open : (m : Meaning) (ended released : Bool) (l : Transcribed) → IsOf m l released → ended ≡ false → released ≡ false
    → length l.image - (length l.octets - l.rest) ≡ length (due m ended l.octets)
due_open m ended released l is e r =
    sym (due_len m ended released l is ∙ ap (λ b. cond (b || released) (length l.image) (length l.image - length (rest_of l))) e
    ∙ ap (λ b. cond b (length l.image) (length l.image - length (rest_of l))) r ∙ ap (λ n. length l.image - n) (length-drop l.rest l.octets))

pub rest_open : (m : Meaning) (ended released : Bool) (l : Transcribed) → IsOf m l released → ended ≡ false → released ≡ false
    → rest_of l ≡ cond ended [] (cond (is_held m (cut m l.octets).rest) (cut m l.octets).rest [])
rest_open m ended released l is e r =
    sym (held_is m ended released l is ∙ ap (λ b. cond (b || released) [] (rest_of l)) e ∙ ap (λ b. cond b [] (rest_of l)) r)

pub ends_are : (m : Meaning) (released : Bool) (l : Transcribed) → IsOf m l released
    → l.ends ≡ (let c = cut m l.octets in changed_ends 0 (pushes_of m c c.rest))
ends_are m released l is = ap (λ (k : Transcribed). k.ends) is.lists

-- a segment that passes
pub can_take : (f : Host) (a b : Sender) (g : Segment) → refusal_of f (extent a) (extent b) (arrival g) (repeats_unlike a g) ≡ None
    → g.flags.syn ≡ false → g.flags.reset ≡ false → CanTake a g
can_take f a b g e syn reset =
    let p : Passes f a b g = passes f a b g e in
    record { limit = leb-false _ _ (second_false (is_data (arrival g)) _ p.stream_limit (data_is g (syn, reset))) }

pub opens_alone : (f : Host) (a b : Sender) (g : Segment) → refusal_of f (extent a) (extent b) (arrival g) (repeats_unlike a g) ≡ None
    → g.flags.syn ≡ true → g.flags.reset ≡ false
opens_alone f a b g e syn =
    let p : Passes f a b g = passes f a b g e in
    (or_parts _ _ (second_false g.flags.syn _ p.syn_data syn)).1

-- a verdict, by what the fields hold and by which host sends
pub verdict_here : {C S : Type 0} (of_client : C → Meaning) (of_server : S → Meaning) (f sends : Host) (inside w : HeardStreams C S) (g : Segment)
    → f ≡ sends → inside ≡ w → segment_refusal f (session_of of_client of_server w) g ≡ None
    → segment_refusal sends (session_of of_client of_server inside) g ≡ None
verdict_here of_client of_server f sends inside w g e same v =
    ap (λ b. segment_refusal b (session_of of_client of_server inside) g) (sym e)
    ∙ ap (λ (x : HeardStreams _ _). segment_refusal f (session_of of_client of_server x) g) same ∙ v
