-- What a step makes of a frame.
use Rattle.std.proofs.Common.{◌≡◌, ℕ, Bool, true, false, ◌&&◌, not, leb, cond, List, [], ◌∷◌, ◌++◌, length, set, Option, Some, None, IsSome, is_some, refl, sym, ap, ◌∙◌, slice_get, option_and_then}
use Rattle.gate_base.specs.Prelude.{Event}
use Rattle.verdicts.specs.Prelude.{first_that_holds}
use Rattle.verdicts.specs.declared.refusal.Refusal.{Refusal}
use Rattle.verdicts.specs.declared.refusal.Refusal.TheVariants.{IpOptions, BadFragment, FragmentsFull}
use Rattle.ipv4_frames.specs.Ipv4.{has_options}
use Rattle.frag_join.specs.declared.part.Part.{Part}
use Rattle.frag_join.specs.declared.taken.Taken.TheVariants.{Plain, Held, Joined, Refused}
use Rattle.frag_join.specs.Prelude.{Fragment, name_in, is_fragment, fragment_in, octets_of, is_bad, is_complete, datagram_of, Coverage, Keeping}
use Rattle.frag_join.specs.Prelude.{State, Step, live, by_known, place_of, part_of, part_or_new, changed, event_from, fragment_tests, settled}
use Rattle.frag_join.specs.declared.joiner.TheConstants.{MOST_JOINED}
use Rattle.frag_join.specs.Prelude.{with_fragment, taken_unless, fragment_taken, fragment_step, step, known_at}
use Rattle.frag_join.specs.Inside.Kept.{known_or_nothing}
use Rattle.frag_join.proofs.PartLemmas.{get-last, remove-last, set-last}

none_holds : (a b c : Bool) (x y z : Refusal) → a ≡ false → b ≡ false → c ≡ false → first_that_holds ((a, x) ∷ (b, y) ∷ (c, z) ∷ []) ≡ None
none_holds false false false x y z p q r = refl
none_holds true b c x y z p q r = absurd cc
none_holds false true c x y z p q r = absurd cc
none_holds false false true x y z p q r = absurd cc

-- a fragment that isn't refused is taken
taken-good : {K : Type 0} (keeping : Keeping K) (parts : List (Part K)) (e : Event) (part : Part K) → has_options (octets_of e) ≡ false
    → is_bad (keeping.known part.kept) (fragment_in e) ≡ false
    → (not (is_some (place_of (name_in e) parts)) && leb MOST_JOINED (length parts)) ≡ false
    → fragment_taken keeping parts e part ≡ settled keeping parts (place_of (name_in e) parts) e (with_fragment keeping part e)
taken-good keeping parts e part options good room =
    ap (taken_unless keeping parts e part)
    (none_holds (has_options (octets_of e)) (is_bad (keeping.known part.kept) (fragment_in e))
    (not (is_some (place_of (name_in e) parts)) && leb MOST_JOINED (length parts)) IpOptions BadFragment FragmentsFull options good room)

-- the datagram is there
pub step-there : {K : Type 0} (keeping : Keeping K) (parts : List (Part K)) (e : Event) (place : ℕ) (part : Part K)
    → has_options (octets_of e) ≡ false → place_of (name_in e) parts ≡ Some place → slice_get parts place ≡ Some part
    → is_bad (keeping.known part.kept) (fragment_in e) ≡ false
    → fragment_step keeping parts e ≡ settled keeping parts (Some place) e (with_fragment keeping part e)
step-there keeping parts e place part options found there good =
    let is : part_of (name_in e) parts ≡ Some part = ap (option_and_then (slice_get parts)) found ∙ there in
    ap (λ p. fragment_taken keeping parts e (part_or_new keeping e p)) is
    ∙ taken-good keeping parts e part options good (ap (λ p. not (is_some p) && leb MOST_JOINED (length parts)) found)
    ∙ ap (λ p. settled keeping parts p e (with_fragment keeping part e)) found

-- it begins
pub step-new : {K : Type 0} (keeping : Keeping K) (parts : List (Part K)) (e : Event) → has_options (octets_of e) ≡ false
    → place_of (name_in e) parts ≡ None → is_bad (keeping.known keeping.none) (fragment_in e) ≡ false → leb MOST_JOINED (length parts) ≡ false
    → fragment_step keeping parts e ≡ settled keeping parts None e (with_fragment keeping (part_or_new keeping e None) e)
step-new keeping parts e options found good room =
    let is : part_of (name_in e) parts ≡ None = ap (option_and_then (slice_get parts)) found in
    ap (λ p. fragment_taken keeping parts e (part_or_new keeping e p)) is
    ∙ taken-good keeping parts e (part_or_new keeping e None) options good (ap (λ p. not (is_some p) && leb MOST_JOINED (length parts)) found ∙ room)
    ∙ ap (λ p. settled keeping parts p e (with_fragment keeping (part_or_new keeping e None) e)) found

-- one with options is refused
pub step-options : {K : Type 0} (keeping : Keeping K) (parts : List (Part K)) (e : Event) → has_options (octets_of e) ≡ true
    → fragment_step keeping parts e ≡ record { answer = Refused IpOptions; state = record { parts = parts; joined = None } }
step-options keeping parts e options =
    let part = part_or_new keeping e (part_of (name_in e) parts) in
    ap (λ b. taken_unless keeping parts e part
    (first_that_holds ((b, IpOptions) ∷ (is_bad (keeping.known part.kept) (fragment_in e), BadFragment)
    ∷ (not (is_some (place_of (name_in e) parts)) && leb MOST_JOINED (length parts), FragmentsFull) ∷ []))) options

-- what is known of a datagram that begins is nothing
known_of : (e : Event) (part : Option (Part Coverage)) → (part_or_new by_known e part).kept ≡ known_or_nothing part
known_of e None = refl
known_of e (Some part) = refl

-- the second of three tests is the first that holds
second_holds : (a b c : Bool) (x y z : Refusal) → a ≡ false → b ≡ true → first_that_holds ((a, x) ∷ (b, y) ∷ (c, z) ∷ []) ≡ Some y
second_holds false true c x y z p q = refl
second_holds true b c x y z p q = absurd cc
second_holds false false c x y z p q = absurd cc

-- the third of them is
pub third_holds : (a b c : Bool) (x y z : Refusal) → a ≡ false → b ≡ false → c ≡ true → first_that_holds ((a, x) ∷ (b, y) ∷ (c, z) ∷ []) ≡ Some z
third_holds false false true x y z p q r = refl
third_holds true b c x y z p q r = absurd cc
third_holds false true c x y z p q r = absurd cc
third_holds false false false x y z p q r = absurd cc

-- one that contradicts itself or what is known
pub step-bad : (parts : List (Part Coverage)) (e : Event) (place : Option ℕ) → has_options (octets_of e) ≡ false → place_of (name_in e) parts ≡ place
    → is_bad (known_at parts place) (fragment_in e) ≡ true → fragment_step by_known parts e
    ≡ record { answer = Refused BadFragment; state = record { parts = parts; joined = None } }
step-bad parts e place options found bad =
    let part = part_or_new by_known e (part_of (name_in e) parts) in
    ap (taken_unless by_known parts e part)
    (second_holds (has_options (octets_of e)) (is_bad part.kept (fragment_in e))
    (not (is_some (place_of (name_in e) parts)) && leb MOST_JOINED (length parts)) IpOptions BadFragment FragmentsFull options
    (ap (λ k. is_bad k (fragment_in e)) (known_of e (part_of (name_in e) parts)) ∙ ap (λ p. is_bad (known_at parts p) (fragment_in e)) found
    ∙ bad))

-- and one that begins where there is no room
pub step-full : (parts : List (Part Coverage)) (e : Event) (place : Option ℕ) → has_options (octets_of e) ≡ false → place_of (name_in e) parts ≡ place
    → is_bad (known_at parts place) (fragment_in e) ≡ false → place ≡ None → leb MOST_JOINED (length parts) ≡ true
    → fragment_step by_known parts e ≡ record { answer = Refused FragmentsFull; state = record { parts = parts; joined = None } }
step-full parts e place options found good none full =
    let part = part_or_new by_known e (part_of (name_in e) parts) in
    ap (taken_unless by_known parts e part)
    (third_holds (has_options (octets_of e)) (is_bad part.kept (fragment_in e))
    (not (is_some (place_of (name_in e) parts)) && leb MOST_JOINED (length parts)) IpOptions BadFragment FragmentsFull options
    (ap (λ k. is_bad k (fragment_in e)) (known_of e (part_of (name_in e) parts)) ∙ ap (λ p. is_bad (known_at parts p) (fragment_in e)) found
    ∙ good)
    (ap (λ p. not (is_some p) && leb MOST_JOINED (length parts)) (found ∙ none) ∙ full))

-- a fragment that is good for a new datagram is good for it at the end of the list
pub good-last : (parts all : List (Part Coverage)) (place : ℕ) (new : Part Coverage) (f : Fragment) → all ≡ parts ++ new ∷ [] → place ≡ length parts
    → is_bad new.kept f ≡ false → is_bad (known_at all (Some place)) f ≡ false
good-last parts all place new f all_is place_is good =
    ap (λ ps. is_bad (known_at ps (Some place)) f) all_is ∙ ap (λ i. is_bad (known_at (parts ++ new ∷ []) (Some i)) f) place_is
    ∙ ap (λ o. is_bad (known_or_nothing o) f) (get-last parts new) ∙ good

-- a new datagram at the end of the list settles as one that is none of them
pub settled-last : {K : Type 0} (keeping : Keeping K) (parts : List (Part K)) (e : Event) (new part : Part K)
    → settled keeping (parts ++ new ∷ []) (Some (length parts)) e part ≡ settled keeping parts None e part
settled-last keeping parts e new part =
    ap (λ rest. cond (is_complete (keeping.known part.kept))
    (record {
      answer = Joined;
      state = record { parts = rest; joined = Some (event_from e.side e.moment (datagram_of (keeping.known part.kept))) };
    })
    (record { answer = Held; state = record { parts = set (parts ++ new ∷ []) (length parts) part; joined = None } })) (remove-last parts new)
    ∙ ap (λ all. cond (is_complete (keeping.known part.kept))
    (record {
      answer = Joined;
      state = record { parts = parts; joined = Some (event_from e.side e.moment (datagram_of (keeping.known part.kept))) };
    })
    (record { answer = Held; state = record { parts = all; joined = None } })) (set-last parts new part)

-- one that is complete is joined
pub settled-joined : {K : Type 0} (keeping : Keeping K) (parts : List (Part K)) (place : Option ℕ) (e : Event) (part : Part K)
    → is_complete (keeping.known part.kept) ≡ true
    → settled keeping parts place e part
    ≡ record {
      answer = Joined;
      state = record { parts = changed parts place None; joined = Some (event_from e.side e.moment (datagram_of (keeping.known part.kept))) };
    }
settled-joined keeping parts place e part complete =
    ap (λ b. cond b (record {
      answer = Joined;
      state = record { parts = changed parts place None; joined = Some (event_from e.side e.moment (datagram_of (keeping.known part.kept))) };
    })
    (record { answer = Held; state = record { parts = changed parts place (Some part); joined = None } })) complete

-- and else held
pub settled-held : {K : Type 0} (keeping : Keeping K) (parts : List (Part K)) (place : Option ℕ) (e : Event) (part : Part K)
    → is_complete (keeping.known part.kept) ≡ false → settled keeping parts place e part
    ≡ record { answer = Held; state = record { parts = changed parts place (Some part); joined = None } }
settled-held keeping parts place e part incomplete =
    ap (λ b. cond b (record {
      answer = Joined;
      state = record { parts = changed parts place None; joined = Some (event_from e.side e.moment (datagram_of (keeping.known part.kept))) };
    })
    (record { answer = Held; state = record { parts = changed parts place (Some part); joined = None } })) incomplete

-- ## What is joined is there

joined_of : {K : Type 0} (b : Bool) (parts others : List (Part K)) (event : Event) → let one : Step K =
    cond b (record { answer = Joined; state = record { parts = parts; joined = Some event } })
    (record { answer = Held; state = record { parts = others; joined = None } }) in one.answer ≡ Joined → IsSome one.state.joined
joined_of true parts others event is = refl
joined_of false parts others event is = absurd cc

joined_unless : {K : Type 0} (keeping : Keeping K) (parts : List (Part K)) (e : Event) (part : Part K) (refusal : Option Refusal)
    → (taken_unless keeping parts e part refusal).answer ≡ Joined → IsSome (taken_unless keeping parts e part refusal).state.joined
joined_unless keeping parts e part (Some refusal) is = absurd cc
joined_unless keeping parts e part None is =
    let new = with_fragment keeping part e in
    let place = place_of (name_in e) parts in
    joined_of (is_complete (keeping.known new.kept)) (changed parts place None) (changed parts place (Some new))
    (event_from e.side e.moment (datagram_of (keeping.known new.kept))) is

pub joined-there : {K : Type 0} (keeping : Keeping K) (parts : List (Part K)) (e : Event) → (fragment_step keeping parts e).answer ≡ Joined
    → IsSome (fragment_step keeping parts e).state.joined
joined-there keeping parts e is =
    let part = part_or_new keeping e (part_of (name_in e) parts) in
    joined_unless keeping parts e part (first_that_holds (fragment_tests parts e (keeping.known part.kept))) is

-- ## A step after what came too long ago was dropped

-- a fragment is taken
pub step-fragment : (was now : State Coverage) (inside kept : List (Part Coverage)) (e : Event) → now ≡ record { parts = was.parts; joined = None }
    → inside ≡ now.parts → kept ≡ live e.moment inside → is_fragment e ≡ true → fragment_step by_known kept e ≡ step by_known was e
step-fragment was now inside kept e now_is inside_is kept_is is =
    let all : kept ≡ live e.moment was.parts = kept_is ∙ ap (live e.moment) (inside_is ∙ ap (λ s. s.parts) now_is) in
    ap (λ parts. fragment_step by_known parts e) all
    ∙ sym (ap (λ b. cond b (fragment_step by_known (live e.moment was.parts) e)
    (record { answer = Plain; state = record { parts = live e.moment was.parts; joined = None } })) is)

-- and any other frame is plain
pub step-plain : (was now : State Coverage) (inside kept : List (Part Coverage)) (e : Event) → now ≡ record { parts = was.parts; joined = None }
    → inside ≡ now.parts → kept ≡ live e.moment inside → is_fragment e ≡ false
    → record { answer = Plain; state = record { parts = kept; joined = None } } ≡ step by_known was e
step-plain was now inside kept e now_is inside_is kept_is is =
    let all : kept ≡ live e.moment was.parts = kept_is ∙ ap (live e.moment) (inside_is ∙ ap (λ s. s.parts) now_is) in
    ap (λ parts. record { answer = Plain; state = record { parts = parts; joined = None } }) all
    ∙ sym (ap (λ b. cond b (fragment_step by_known (live e.moment was.parts) e)
    (record { answer = Plain; state = record { parts = live e.moment was.parts; joined = None } })) is)
