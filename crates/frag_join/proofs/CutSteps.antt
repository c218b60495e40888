-- The fragments of a datagram are taken, in any order and with repeats.
use Rattle.std.proofs.Common.{◌≡◌, ◌≢◌, ℕ, ◌+◌, ◌<◌, ◌≤◌, Bool, true, false, ◌&&◌, not, leb, cond, List, [], ◌∷◌, ◌++◌, map, length, get_or, set, Option, Some, None, is_some, refl, sym, ap, ◌∙◌, arith, ◌⊎◌, inl, inr, append_assoc, slice_get, All, filter, find}
use Rattle.std.proofs.lemmas.Bool.{true≢false, cases_Bool, lt-ltb, and_parts}
use Rattle.std.proofs.lemmas.List.{append-nil, map-append}
use Rattle.std.proofs.lemmas.List.Elements.{All-nil, All-cons, All-head, All-tail, All-push}
use Rattle.std.proofs.lemmas.List.Quantifiers.{position-Some}
use Rattle.gate_base.specs.Prelude.{Event}
use Rattle.verdicts.specs.Prelude.{first_that_holds}
use Rattle.verdicts.specs.declared.refusal.Refusal.{Refusal}
use Rattle.verdicts.specs.declared.refusal.Refusal.TheVariants.{IpOptions, BadFragment, FragmentsFull}
use Rattle.gate_base.proofs.Lists.{find_passes, find_filter}
use Rattle.ipv4_frames.specs.Ipv4.{has_options}
use Rattle.frag_join.specs.declared.part.Name.{Name}
use Rattle.frag_join.specs.declared.part.Part.{Part}
use Rattle.frag_join.specs.declared.taken.Taken.TheVariants.{Plain, Held, Refused}
use Rattle.frag_join.specs.Prelude.{Fragment, is_fragment, name_in, same_name, fragment_in, octets_of, Coverage, known_by, is_bad, is_complete}
use Rattle.frag_join.specs.Prelude.{datagram_of, State, Step, by_list, by_known, state_known, step_known, is_live, live, is_of, place_of}
use Rattle.frag_join.specs.declared.joiner.TheConstants.{MOST_JOINED}
use Rattle.frag_join.specs.Prelude.{part_of, part_or_new, event_from, fragment_tests, settled, with_fragment, taken_unless, fragment_taken}
use Rattle.frag_join.specs.Prelude.{fragment_step, step_by, step, after, Original, IsCut, Brings, Arrives, cover}
use Rattle.frag_join.specs.declared.part.TheConstants.{JOIN_TIMEOUT}
use Rattle.frag_join.specs.Cuts.{is_part_of, Completes, fragments_among}
use Rattle.frag_join.proofs.NameLemmas.{name-eq, name-same}
use Rattle.frag_join.proofs.CutLemmas.{cut-good, cover-complete, cover-datagram, open-incomplete, open-less}
use Rattle.frag_join.proofs.StepLemmas.{step-there, step-new, settled-joined, settled-held, third_holds}
use Rattle.frag_join.proofs.KeptSteps.{step-known, after-known}
use Rattle.frag_join.proofs.Found.{part-find, place-there, place-none, find-last, find-set, find-changed}

abbrev Whole : Type 0
Whole = Part (List Fragment)

-- ## A frame that brings none of them

stranger_name : (name mine : Name) (part : Whole) → part.name ≡ mine → same_name mine name ≡ false → is_of name part ≡ false
stranger_name name mine part is other = ap (λ n. same_name n name) is ∙ other

new_name : (e : Event) (part : Option Whole) → ((p : Whole) → part ≡ Some p → p.name ≡ name_in e) → (part_or_new by_list e part).name ≡ name_in e
new_name e None is = refl
new_name e (Some part) is = is part refl

part_name : (e : Event) (parts : List Whole) (part : Whole) → part_of (name_in e) parts ≡ Some part → part.name ≡ name_in e
part_name e parts part found = name-eq part.name (name_in e) (find_passes (is_of (name_in e)) parts part (sym (part-find (name_in e) parts) ∙ found))

settled_miss : (name : Name) (parts : List Whole) (place : Option ℕ) (e : Event) (part d : Whole)
    → ((i : ℕ) → place ≡ Some i → (is_of name (get_or parts i d) ≡ false) × (i < length parts)) → is_of name part ≡ false → (b : Bool)
    → is_complete (known_by part.kept) ≡ b → find (is_of name) (settled by_list parts place e part).state.parts ≡ find (is_of name) parts
settled_miss name parts place e part d was is true complete =
    ap (λ (one : Step (List Fragment)). find (is_of name) one.state.parts) (settled-joined by_list parts place e part complete)
    ∙ find-changed (is_of name) parts place None d was (λ p none. absurd cc)
settled_miss name parts place e part d was is false incomplete =
    ap (λ (one : Step (List Fragment)). find (is_of name) one.state.parts) (settled-held by_list parts place e part incomplete)
    ∙ find-changed (is_of name) parts place (Some part) d was (λ p same. let e : p ≡ part = cc in ap (is_of name) e ∙ is)

unless_miss : (name : Name) (parts : List Whole) (e : Event) (part : Whole) (refusal : Option Refusal) → part.name ≡ name_in e
    → same_name (name_in e) name ≡ false → find (is_of name) (taken_unless by_list parts e part refusal).state.parts ≡ find (is_of name) parts
unless_miss name parts e part (Some refusal) is other = refl
unless_miss name parts e part None is other =
    let new = with_fragment by_list part e in
    settled_miss name parts (place_of (name_in e) parts) e new part
    (λ i at.
    let there = position-Some (is_of (name_in e)) parts i part at in
    (stranger_name name (name_in e) (get_or parts i part) (name-eq (get_or parts i part).name (name_in e) there.1) other, there.0))
    (stranger_name name (name_in e) new is other) (is_complete (known_by new.kept)) refl

fragment_miss : (name : Name) (parts : List Whole) (e : Event) → same_name (name_in e) name ≡ false
    → find (is_of name) (fragment_step by_list parts e).state.parts ≡ find (is_of name) parts
fragment_miss name parts e other =
    let part = part_or_new by_list e (part_of (name_in e) parts) in
    unless_miss name parts e part (first_that_holds (fragment_tests parts e (known_by part.kept)))
    (new_name e (part_of (name_in e) parts) (part_name e parts)) other

by_miss : (name : Name) (parts : List Whole) (e : Event) (b : Bool) → is_fragment e ≡ b → is_part_of name e ≡ false
    → find (is_of name) (step_by by_list parts e).state.parts ≡ find (is_of name) parts
by_miss name parts e true is other =
    ap (λ c. find (is_of name)
    (cond c (fragment_step by_list parts e) (record { answer = Plain; state = record { parts = parts; joined = None } })).state.parts) is
    ∙ fragment_miss name parts e (ap (λ c. c && same_name (name_in e) name) (sym is) ∙ other)
by_miss name parts e false is other =
    ap (λ c. find (is_of name)
    (cond c (fragment_step by_list parts e) (record { answer = Plain; state = record { parts = parts; joined = None } })).state.parts) is

-- ## A frame that brings one

record IsPiece (d : Original) (e : Event) : Type 0 where
  fragment : is_fragment e ≡ true
  named : name_in e ≡ d.name
  cut : IsCut d (fragment_in e)
  plain : has_options (octets_of e) ≡ false

piece : (d : Original) (since : ℕ) (e : Event) → Brings d since e → is_part_of d.name e ≡ true → IsPiece d e
piece d since e brings is =
    let parts = and_parts (is_fragment e) (same_name (name_in e) d.name) is in
    record { fragment = parts.0; named = name-eq (name_in e) d.name parts.1; cut = brings.cut is; plain = brings.plain is }

-- a part of the datagram is there, with these fragments since this moment
record HasPart (d : Original) (since : ℕ) (fragments : List Fragment) (parts : List Whole) : Type 0 where
  part : Whole
  found : find (is_of d.name) parts ≡ Some part
  kept : part.kept ≡ fragments
  moment : part.since.0 ≡ since

live_part : (d : Original) (since now : ℕ) (fragments : List Fragment) (parts : List Whole) → now < since + JOIN_TIMEOUT
    → HasPart d since fragments parts
    → HasPart d since fragments (live now parts)
live_part d since now fragments parts soon has = record {
  part = has.part;
  found = find_filter (is_of d.name) (is_live now) parts has.part has.found
      (lt-ltb now (has.part.since.0 + JOIN_TIMEOUT) (omega (arith, has.moment)));
  kept = has.kept;
  moment = has.moment;
}

step_fragment : (parts : List Whole) (e : Event) → is_fragment e ≡ true → step_by by_list parts e ≡ fragment_step by_list parts e
step_fragment parts e is =
    ap (λ b. cond b (fragment_step by_list parts e) (record { answer = Plain; state = record { parts = parts; joined = None } })) is

with_one : (fragments : List Fragment) (part : Whole) (e : Event) → part.kept ≡ fragments → (with_fragment by_list part e).kept ≡ fragments
    ++ fragment_in e ∷ []
with_one fragments part e kept = ap (λ fs. fs ++ fragment_in e ∷ []) kept

-- where a part is there
record IsAt (d : Original) (e : Event) (parts : List Whole) (part : Whole) : Type 0 where
  place : ℕ
  at : place_of d.name parts ≡ Some place
  there : slice_get parts place ≡ Some part
  settles : step_by by_list parts e ≡ settled by_list parts (Some place) e (with_fragment by_list part e)

is_at : (d : Original) (since : ℕ) (fragments : List Fragment) (parts : List Whole) (e : Event) → length d.payload ≤ 65515
    → (has : HasPart d since fragments parts) → All (IsCut d) fragments → IsPiece d e → IsAt d e parts has.part
is_at d since fragments parts e fits has cuts piece_is =
    let at = place-there parts (place_of d.name parts) has.part (part-find d.name parts ∙ has.found) in
    let good : is_bad (known_by has.part.kept) (fragment_in e) ≡ false = ap (λ fs. is_bad (known_by fs) (fragment_in e)) has.kept
    ∙ cut-good d fragments (fragment_in e) fits cuts piece_is.cut in
    record {
      place = at.0;
      at = at.1.0;
      there = at.1.1;
      settles = step_fragment parts e piece_is.fragment ∙ step-there by_list parts e at.0 has.part piece_is.plain
          (ap (λ name. place_of name parts) piece_is.named ∙ at.1.0) at.1.1 good;
    }

-- one that leaves places open is held
piece_held : (d : Original) (since : ℕ) (fragments : List Fragment) (parts : List Whole) (e : Event) → length d.payload ≤ 65515
    → HasPart d since fragments parts → All (IsCut d) fragments → IsPiece d e → All (IsCut d) (fragments ++ fragment_in e ∷ [])
    → cover d (fragments ++ fragment_in e ∷ []) ≡ false
    → HasPart d since (fragments ++ fragment_in e ∷ []) (step_by by_list parts e).state.parts
piece_held d since fragments parts e fits has cuts piece_is more open_ =
    let at = is_at d since fragments parts e fits has cuts piece_is in
    let new = with_fragment by_list has.part e in
    let kept : new.kept ≡ fragments ++ fragment_in e ∷ [] = with_one fragments has.part e has.kept in
    let one : step_by by_list parts e ≡ record { answer = Held; state = record { parts = set parts at.place new; joined = None } } =
    at.settles ∙ settled-held by_list parts (Some at.place) e new
    (ap (λ fs. is_complete (known_by fs)) kept ∙ open-incomplete d (fragments ++ fragment_in e ∷ []) more open_) in
    let first = position-Some (is_of d.name) parts at.place has.part at.at in
    record {
      part = new;
      found = ap (λ (s : Step (List Fragment)). find (is_of d.name) s.state.parts) one
          ∙ find-set (is_of d.name) parts at.place new has.part first.0 first.2 (find_passes (is_of d.name) parts has.part has.found);
      kept = kept;
      moment = has.moment;
    }

-- one that closes the last place joins them
piece_joined : (d : Original) (since : ℕ) (fragments : List Fragment) (parts : List Whole) (e : Event) → 0 < length d.payload
    → length d.payload ≤ 65515 → HasPart d since fragments parts → All (IsCut d) fragments → IsPiece d e
    → All (IsCut d) (fragments ++ fragment_in e ∷ []) → cover d (fragments ++ fragment_in e ∷ []) ≡ true
    → Completes d e (step_by by_list parts e)
piece_joined d since fragments parts e some fits has cuts piece_is more covered =
    let at = is_at d since fragments parts e fits has cuts piece_is in
    let new = with_fragment by_list has.part e in
    let all = fragments ++ fragment_in e ∷ [] in
    let kept : new.kept ≡ all = with_one fragments has.part e has.kept in
    let one = at.settles ∙ settled-joined by_list parts (Some at.place) e new
    (ap (λ fs. is_complete (known_by fs)) kept ∙ cover-complete d all some more covered) in
    record {
      answer = ap (λ (s : Step (List Fragment)). s.answer) one;
      joined = ap (λ (s : Step (List Fragment)). s.state.joined) one
          ∙ ap (λ octets. Some (event_from e.side e.moment octets))
          (ap (λ fs. datagram_of (known_by fs)) kept ∙ cover-datagram d all some more covered);
    }

-- ## The first

full_at : (parts : List Whole) (e : Event) (part : Whole) (b : Bool) → leb MOST_JOINED (length parts) ≡ b → has_options (octets_of e) ≡ false
    → place_of (name_in e) parts ≡ None → is_bad (known_by part.kept) (fragment_in e) ≡ false
    → (fragment_taken by_list parts e part).answer ≢ Refused FragmentsFull → leb MOST_JOINED (length parts) ≡ false
full_at parts e part false full plain none good answer = full
full_at parts e part true full plain none good answer =
    absurd (answer (ap (λ refusal. (taken_unless by_list parts e part refusal).answer)
    (third_holds (has_options (octets_of e)) (is_bad (known_by part.kept) (fragment_in e))
    (not (is_some (place_of (name_in e) parts)) && leb MOST_JOINED (length parts)) IpOptions BadFragment FragmentsFull plain good
    (ap (λ p. not (is_some p) && leb MOST_JOINED (length parts)) none ∙ full))))

piece_first : (d : Original) (parts : List Whole) (e : Event) → length d.payload ≤ 65515 → find (is_of d.name) parts ≡ None → IsPiece d e
    → (step_by by_list parts e).answer ≢ Refused FragmentsFull → All (IsCut d) (fragment_in e ∷ []) → cover d (fragment_in e ∷ []) ≡ false
    → HasPart d e.moment (fragment_in e ∷ []) (step_by by_list parts e).state.parts
piece_first d parts e fits none piece_is answer cuts open_ =
    let new = part_or_new by_list e None in
    let next = with_fragment by_list new e in
    let no_part : part_of (name_in e) parts ≡ None = ap (λ name. part_of name parts) piece_is.named ∙ part-find d.name parts ∙ none in
    let no_place : place_of (name_in e) parts ≡ None = place-none (is_of (name_in e)) parts no_part in
    let good : is_bad (known_by []) (fragment_in e) ≡ false = cut-good d [] (fragment_in e) fits (All-nil (IsCut d)) piece_is.cut in
    let answer_of : (fragment_taken by_list parts e new).answer ≢ Refused FragmentsFull =
    λ full. answer (ap (λ (s : Step (List Fragment)). s.answer) (step_fragment parts e piece_is.fragment)
    ∙ ap (λ part. (fragment_taken by_list parts e (part_or_new by_list e part)).answer) no_part ∙ full) in
    let room : leb MOST_JOINED (length parts) ≡ false = full_at parts e new (leb MOST_JOINED (length parts)) refl piece_is.plain no_place good
    answer_of in
    let one : step_by by_list parts e ≡ record { answer = Held; state = record { parts = parts ++ next ∷ []; joined = None } } =
    step_fragment parts e piece_is.fragment ∙ step-new by_list parts e piece_is.plain no_place good room
    ∙ settled-held by_list parts None e next (open-incomplete d (fragment_in e ∷ []) cuts open_) in
    record {
      part = next;
      found = ap (λ (s : Step (List Fragment)). find (is_of d.name) s.state.parts) one
          ∙ find-last (is_of d.name) parts next none (ap (λ name. same_name name d.name) piece_is.named ∙ name-same d.name);
      kept = refl;
      moment = refl;
    }

-- ## All that follow

among_more : (name : Name) (e : Event) (events : List Event) (b : Bool) → is_part_of name e ≡ b
    → fragments_among name (e ∷ events) ≡ cond b (fragment_in e ∷ fragments_among name events) (fragments_among name events)
among_more name e events true is = ap (λ b. map fragment_in (cond b (e ∷ filter (is_part_of name) events) (filter (is_part_of name) events))) is
among_more name e events false is = ap (λ b. map fragment_in (cond b (e ∷ filter (is_part_of name) events) (filter (is_part_of name) events))) is

push_more : (fragments : List Fragment) (f : Fragment) (more : List Fragment) → fragments ++ (f ∷ more) ≡ (fragments ++ f ∷ []) ++ more
push_more fragments f more = sym (append_assoc fragments (f ∷ []) more)

abbrev Goes : Original → ℕ → Event → List Event → Type 0
Goes d since last events = (fragments : List Fragment) (state : State (List Fragment)) → HasPart d since fragments state.parts
    → All (IsCut d) fragments → cover d (fragments ++ fragments_among d.name events) ≡ false
    → cover d ((fragments ++ fragments_among d.name events) ++ fragments_among d.name (last ∷ [])) ≡ true
    → Completes d last (step by_list (after by_list state events) last)

last_at : (d : Original) (since : ℕ) (last : Event) (fragments : List Fragment) (state : State (List Fragment)) → 0 < length d.payload
    → length d.payload ≤ 65515 → Brings d since last → HasPart d since fragments state.parts → All (IsCut d) fragments
    → cover d (fragments ++ []) ≡ false → cover d ((fragments ++ []) ++ fragments_among d.name (last ∷ [])) ≡ true
    → (is_part_of d.name last ≡ true) ⊎ (is_part_of d.name last ≡ false) → Completes d last (step by_list state last)
last_at d since last fragments state some fits brings has cuts open_ covered (inl is) =
    let piece_is = piece d since last brings is in
    let all : cover d (fragments ++ fragment_in last ∷ []) ≡ true =
    ap (λ fs. cover d (fs ++ fragment_in last ∷ [])) (sym (append-nil fragments))
    ∙ ap (λ fs. cover d ((fragments ++ []) ++ fs)) (sym (among_more d.name last [] true is)) ∙ covered in
    piece_joined d since fragments (live last.moment state.parts) last some fits (live_part d since last.moment fragments state.parts brings.soon has)
    cuts piece_is (All-push (IsCut d) fragments (fragment_in last) cuts piece_is.cut) all
last_at d since last fragments state some fits brings has cuts open_ covered (inr is) =
    absurd
    (true≢false
    (sym covered ∙ ap (λ fs. cover d ((fragments ++ []) ++ fs)) (among_more d.name last [] false is) ∙ ap (cover d) (append-nil (fragments ++ []))
    ∙ open_))

more_at : (d : Original) (since : ℕ) (last e : Event) (events : List Event) → 0 < length d.payload → length d.payload ≤ 65515 → Brings d since e
    → Goes d since last events → (is_part_of d.name e ≡ true) ⊎ (is_part_of d.name e ≡ false) → Goes d since last (e ∷ events)
more_at d since last e events some fits brings next (inl is) fragments state has cuts open_ covered =
    let piece_is = piece d since e brings is in
    let all = fragments ++ fragment_in e ∷ [] in
    let same : fragments ++ fragments_among d.name (e ∷ events) ≡ all ++ fragments_among d.name events =
    ap (λ fs. fragments ++ fs) (among_more d.name e events true is) ∙ push_more fragments (fragment_in e) (fragments_among d.name events) in
    let rest : cover d (all ++ fragments_among d.name events) ≡ false = ap (cover d) (sym same) ∙ open_ in
    let more : All (IsCut d) all = All-push (IsCut d) fragments (fragment_in e) cuts piece_is.cut in
    next all (step by_list state e).state
    (piece_held d since fragments (live e.moment state.parts) e fits (live_part d since e.moment fragments state.parts brings.soon has) cuts piece_is
    more (open-less d all (fragments_among d.name events) rest))
    more rest
    (ap (λ fs. cover d (fs ++ fragments_among d.name (last ∷ []))) (sym same) ∙ covered)
more_at d since last e events some fits brings next (inr is) fragments state has cuts open_ covered =
    let same : fragments ++ fragments_among d.name (e ∷ events) ≡ fragments ++ fragments_among d.name events =
    ap (λ fs. fragments ++ fs) (among_more d.name e events false is) in
    let there = live_part d since e.moment fragments state.parts brings.soon has in
    next fragments (step by_list state e).state
    (record {
      part = there.part;
      found = by_miss d.name (live e.moment state.parts) e (is_fragment e) refl is ∙ there.found;
      kept = there.kept;
      moment = there.moment;
    })
    cuts (ap (cover d) (sym same) ∙ open_) (ap (λ fs. cover d (fs ++ fragments_among d.name (last ∷ []))) (sym same) ∙ covered)

goes : (d : Original) (since : ℕ) (last : Event) (events : List Event) → 0 < length d.payload → length d.payload ≤ 65515 → All (Brings d since) events
    → Brings d since last → Goes d since last events
goes d since last [] some fits brings brings_last fragments state has cuts open_ covered =
    last_at d since last fragments state some fits brings_last has cuts open_ covered (cases_Bool (is_part_of d.name last))
goes d since last (e ∷ events) some fits brings brings_last fragments state has cuts open_ covered =
    more_at d since last e events some fits (All-head (Brings d since) e events brings)
    (goes d since last events some fits (All-tail (Brings d since) e events brings) brings_last) (cases_Bool (is_part_of d.name e))
    fragments state has cuts open_ covered

filter-both_at : {X : Type 0} (x : X) (all xs ys : List X) → all ≡ xs ++ ys → (b : Bool) → cond b (x ∷ all) all ≡ cond b (x ∷ xs) xs ++ ys
filter-both_at x all xs ys same true = ap (λ rest. x ∷ rest) same
filter-both_at x all xs ys same false = same

filter-both : {X : Type 0} (test : X → Bool) (xs ys : List X) → filter test (xs ++ ys) ≡ filter test xs ++ filter test ys
filter-both test [] ys = refl
filter-both test (x ∷ xs) ys = filter-both_at x (filter test (xs ++ ys)) (filter test xs) (filter test ys) (filter-both test xs ys) (test x)

among_append : (name : Name) (events others : List Event) → fragments_among name (events ++ others) ≡ fragments_among name events
    ++ fragments_among name others
among_append name events others = ap (map fragment_in) (filter-both (is_part_of name) events others)
    ∙ map-append fragment_in (filter (is_part_of name) events) (filter (is_part_of name) others)

-- in any order and with repeats: the one that closes the last place joins the datagram
pub cuts-join : (d : Original) (state : State (List Fragment)) (first last : Event) (more : List Event) → Arrives d state first more last
    → Completes d last (step by_list (after by_list state (first ∷ more)) last)
cuts-join d state first last more arrives =
    let piece_is = piece d first.moment first (All-head (Brings d first.moment) first more arrives.brought) arrives.begins in
    let f = fragment_in first in
    let some : 0 < length d.payload = omega (arith, piece_is.cut.some, piece_is.cut.within) in
    let cuts : All (IsCut d) (f ∷ []) = All-cons (IsCut d) f [] piece_is.cut (All-nil (IsCut d)) in
    let same : fragments_among d.name (first ∷ more) ≡ (f ∷ []) ++ fragments_among d.name more = among_more d.name first more true arrives.begins in
    let rest : cover d ((f ∷ []) ++ fragments_among d.name more) ≡ false = ap (cover d) (sym same) ∙ arrives.left in
    let parts = live first.moment state.parts in
    goes d first.moment last more some arrives.fits (All-tail (Brings d first.moment) first more arrives.brought) arrives.ends (f ∷ [])
    (step by_list state first).state
    (piece_first d parts first arrives.fits (sym (part-find d.name parts) ∙ arrives.none) piece_is arrives.room cuts
    (open-less d (f ∷ []) (fragments_among d.name more) rest))
    cuts rest
    (ap (λ fs. cover d (fs ++ fragments_among d.name (last ∷ []))) (sym same) ∙ ap (cover d) (sym (among_append d.name (first ∷ more) (last ∷ [])))
    ∙ arrives.covered)

-- and so it does where only what the fragments tell is kept
pub cuts-join-known : (d : Original) (state : State (List Fragment)) (first last : Event) (more : List Event) → Arrives d state first more last
    → Completes d last (step by_known (after by_known (state_known state) (first ∷ more)) last)
cuts-join-known d state first last more arrives =
    let whole = cuts-join d state first last more arrives in
    let one : step by_known (after by_known (state_known state) (first ∷ more)) last
    ≡ step_known (step by_list (after by_list state (first ∷ more)) last) =
    ap (λ s. step by_known s last) (after-known state (first ∷ more)) ∙ step-known (after by_list state (first ∷ more)) last in
    record {
      answer = ap (λ (s : Step Coverage). s.answer) one ∙ whole.answer;
      joined = ap (λ (s : Step Coverage). s.state.joined) one ∙ whole.joined;
    }
