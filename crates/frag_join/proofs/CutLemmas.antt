-- Fragments of one datagram.
use Rattle.std.proofs.Common.{◌≡◌, ℕ, ◌+◌, ◌-◌, ◌%◌, ◌<◌, ◌≤◌, Bool, true, false, ◌&&◌, ◌||◌, not, eqb, ltb, leb, cond, List, [], ◌∷◌, ◌++◌, length, get_or, Option, Some, None, is_some, unwrap_or, refl, sym, ap, ◌∙◌, arith, ◌⊎◌, inl, inr, All}
use Rattle.std.specs.Option.{option_or}
use Rattle.std.proofs.lemmas.Bool.{true≢false, cases_Bool, ltb-true, ltb-false, leb-true, eq-eqb, le-ltb, ne_eqb, and_parts, false≢true}
use Rattle.std.proofs.lemmas.List.Edits.{get_or-between}
use Rattle.std.proofs.lemmas.List.Elements.{All-head, All-tail}
use Rattle.frag_join.specs.Prelude.{table, Fragment, end_of, covers, octet_in, octet_at, reach_of, end_by, end_told, header_by, header_told, known_by}
use Rattle.frag_join.specs.Prelude.{octet_of, are_unlike, is_unlike, is_other, is_above, is_torn, ends_otherwise, is_bad, is_complete, is_covered}
use Rattle.frag_join.specs.Prelude.{whole_head, datagram_of, Original, IsCut, cover}
use Rattle.frag_join.proofs.PlaceLemmas.{length-table, is-table, none-any, all-each, each-all, same-all}
use Rattle.frag_join.proofs.FragmentLemmas.{octet-outside, octet-covered}
use Rattle.frag_join.proofs.KnownLemmas.{octet_of-known}

-- the datagram's octet, at a place that a fragment covers
abbrev IsOctet : Original → ℕ → Option ℕ → Type 0
IsOctet d place o = (o ≡ None) ⊎ (o ≡ Some (get_or d.payload place 0))

covered_at : (f : Fragment) (place : ℕ) → covers f place ≡ true → (f.start ≤ place) × (place < end_of f)
covered_at f place is =
    let parts = and_parts (leb f.start place) (ltb place (end_of f)) is in
    (leb-true f.start place parts.0, ltb-true place (end_of f) parts.1)

octet-cut_at : (d : Original) (f : Fragment) (place : ℕ) → IsCut d f → (covers f place ≡ true) ⊎ (covers f place ≡ false)
    → IsOctet d place (octet_in f place)
octet-cut_at d f place cut (inl inside) =
    let at = covered_at f place inside in
    let there : f.start + (place - f.start) ≡ place = omega (arith, at.0) in
    inr
    (octet-covered f place inside
    ∙ ap Some (ap (λ xs. get_or xs (place - f.start) 0) cut.octets ∙ get_or-between d.payload f.start (end_of f) (place - f.start) 0
    (omega (arith, at.0, at.1)) ∙ ap (λ n. get_or d.payload n 0) there))
octet-cut_at d f place cut (inr outside) = inl (octet-outside f place outside)

octet-cut : (d : Original) (f : Fragment) (place : ℕ) → IsCut d f → IsOctet d place (octet_in f place)
octet-cut d f place cut = octet-cut_at d f place cut (cases_Bool (covers f place))

or-octet : (d : Original) (place : ℕ) (one other : Option ℕ) → IsOctet d place one → IsOctet d place other → IsOctet d place (option_or one other)
or-octet d place None other one_is other_is = other_is
or-octet d place (Some x) other one_is other_is = one_is

pub octet_at-cut : (d : Original) (fragments : List Fragment) (place : ℕ) → All (IsCut d) fragments → IsOctet d place (octet_at fragments place)
octet_at-cut d [] place cuts = inl refl
octet_at-cut d (f ∷ others) place cuts =
    or-octet d place (octet_in f place) (octet_at others place) (octet-cut d f place (All-head (IsCut d) f others cuts))
    (octet_at-cut d others place (All-tail (IsCut d) f others cuts))

-- ## None of them contradicts the others

alike : (d : Original) (place : ℕ) (one other : Option ℕ) → IsOctet d place one → IsOctet d place other → are_unlike one other ≡ false
alike d place None other p q = refl
alike d place (Some x) None p q = refl
alike d place (Some x) (Some y) (inl p) q = absurd cc
alike d place (Some x) (Some y) (inr p) (inl q) = absurd cc
alike d place (Some x) (Some y) (inr p) (inr q) = let same : x ≡ y = cc in ap not (eq-eqb x y same)

reach-cut : (d : Original) (fragments : List Fragment) → All (IsCut d) fragments → reach_of fragments ≤ length d.payload
reach-cut d [] cuts = omega arith
reach-cut d (f ∷ others) cuts = omega (arith, (All-head (IsCut d) f others cuts).within, reach-cut d others (All-tail (IsCut d) f others cuts))

-- the end that they tell is the datagram's
abbrev IsEnd : Original → Option ℕ → Type 0
IsEnd d o = (o ≡ None) ⊎ (o ≡ Some (length d.payload))

last_end : (d : Original) (f : Fragment) → IsCut d f → f.more ≡ false → end_of f ≡ length d.payload
last_end d f cut last = omega (arith, cut.within, ltb-false (end_of f) (length d.payload) (sym cut.more ∙ last))

told-cut_at : (d : Original) (f : Fragment) (more : Bool) → IsCut d f → f.more ≡ more → IsEnd d (cond more None (Some (end_of f)))
told-cut_at d f true cut is = inl refl
told-cut_at d f false cut is = inr (ap Some (last_end d f cut is))

or-end : (d : Original) (one other : Option ℕ) → IsEnd d one → IsEnd d other → IsEnd d (option_or one other)
or-end d None other p q = q
or-end d (Some x) other p q = p

pub end-cut : (d : Original) (fragments : List Fragment) → All (IsCut d) fragments → IsEnd d (end_by fragments)
end-cut d [] cuts = inl refl
end-cut d (f ∷ others) cuts =
    or-end d (end_told f) (end_by others) (told-cut_at d f f.more (All-head (IsCut d) f others cuts) refl)
    (end-cut d others (All-tail (IsCut d) f others cuts))

not-above : (d : Original) (end : ℕ) (o : Option ℕ) → end ≤ length d.payload → IsEnd d o → is_above end o ≡ false
not-above d end None within is = refl
not-above d end (Some known) within (inl is) = absurd cc
not-above d end (Some known) within (inr is) = let same : known ≡ length d.payload = cc in le-ltb known end (omega arith)

not-other : (d : Original) (end : ℕ) (o : Option ℕ) → end ≡ length d.payload → IsEnd d o → is_other end o ≡ false
not-other d end None whole is = refl
not-other d end (Some known) whole (inl is) = absurd cc
not-other d end (Some known) whole (inr is) = let same : end ≡ known = cc in ap not (eq-eqb end known same)

ends-cut : (d : Original) (f : Fragment) (o : Option ℕ) (reach : ℕ) (more : Bool) → IsCut d f → f.more ≡ more → IsEnd d o → reach ≤ length d.payload
    → cond more (is_above (end_of f) o) (is_other (end_of f) o || ltb (end_of f) reach) ≡ false
ends-cut d f o reach true cut is end within = not-above d (end_of f) o cut.within end
ends-cut d f o reach false cut is end within =
    ap (λ b. b || ltb (end_of f) reach) (not-other d (end_of f) o (last_end d f cut is) end)
    ∙ le-ltb (end_of f) reach (omega (arith, last_end d f cut is))

whole_units : (more : Bool) (n : ℕ) → (more ≡ true → n ≡ 0) → (more && not (eqb n 0)) ≡ false
whole_units true n even = ap not (eq-eqb n 0 (even refl))
whole_units false n even = refl

or_none : (a b c : Bool) → a ≡ false → b ≡ false → c ≡ false → ((a || b) || c) ≡ false
or_none false false false p q r = refl
or_none true b c p q r = absurd cc
or_none false true c p q r = absurd cc
or_none false false true p q r = absurd cc

pub cut-good : (d : Original) (fragments : List Fragment) (f : Fragment) → length d.payload ≤ 65515 → All (IsCut d) fragments → IsCut d f
    → is_bad (known_by fragments) f ≡ false
cut-good d fragments f fits cuts cut =
    let k = known_by fragments in
    let reach : length k.places ≤ length d.payload =
    omega (arith, length-table (octet_at fragments) (reach_of fragments), reach-cut d fragments cuts) in
    or_none (is_torn f) (ends_otherwise k f) (is_unlike k f)
    (or_none (eqb (length f.payload) 0) (f.more && not (eqb (length f.payload % 8) 0)) (ltb 65535 (20 + end_of f))
    (ne_eqb (length f.payload) 0 (λ e. omega (arith, cut.some)))
    (whole_units f.more (length f.payload % 8) cut.even)
    (le-ltb 65535 (20 + end_of f) (omega (arith, cut.within))))
    (ends-cut d f k.known_end (length k.places) f.more cut refl (end-cut d fragments cuts) reach)
    (none-any (λ place. are_unlike (octet_of k place) (octet_in f place)) (end_of f)
    (λ place below.
    ap (λ o. are_unlike o (octet_in f place)) (octet_of-known fragments place)
    ∙ alike d place (octet_at fragments place) (octet_in f place) (octet_at-cut d fragments place cuts) (octet-cut d f place cut)))

-- ## All of them are the datagram

some_or : {X : Type 0} (one other : Option X) → is_some (option_or one other) ≡ true → (is_some one ≡ true) ⊎ (is_some other ≡ true)
some_or None other is = inr is
some_or (Some x) other is = inl refl

more_or : {X : Type 0} (one other : Option X) → is_some one ≡ true → is_some (option_or one other) ≡ true
more_or None other is = absurd cc
more_or (Some x) other is = refl

or_more : {X : Type 0} (one other : Option X) → is_some other ≡ true → is_some (option_or one other) ≡ true
or_more None other is = is
or_more (Some x) other is = refl

more_octets_at : (f : Fragment) (others more : List Fragment) (place : ℕ)
    → (is_some (octet_at others place) ≡ true → is_some (octet_at (others ++ more) place) ≡ true) → (is_some (octet_in f place) ≡ true)
    ⊎ (is_some (octet_at others place) ≡ true) → is_some (option_or (octet_in f place) (octet_at (others ++ more) place)) ≡ true
more_octets_at f others more place before (inl here) = more_or (octet_in f place) (octet_at (others ++ more) place) here
more_octets_at f others more place before (inr there) = or_more (octet_in f place) (octet_at (others ++ more) place) (before there)

more_octets : (fragments more : List Fragment) (place : ℕ) → is_some (octet_at fragments place) ≡ true → is_some (octet_at (fragments ++ more) place)
    ≡ true
more_octets [] more place is = absurd cc
more_octets (f ∷ others) more place is = more_octets_at f others more place (more_octets others more place)
    (some_or (octet_in f place) (octet_at others place) is)

cover_cases : (f : Fragment) (place : ℕ) → is_some (octet_in f place) ≡ true → (covers f place ≡ true) ⊎ (covers f place ≡ false)
    → covers f place ≡ true
cover_cases f place is (inl inside) = inside
cover_cases f place is (inr outside) = absurd (false≢true (sym (ap is_some (octet-outside f place outside)) ∙ is))

told_last : (d : Original) (f : Fragment) (more : Bool) (o : Option ℕ) → IsCut d f → f.more ≡ more → more ≡ false
    → option_or (cond more None (Some (end_of f))) o ≡ Some (length d.payload)
told_last d f true o cut is last = absurd cc
told_last d f false o cut is last = ap Some (last_end d f cut is)

or_same : (o : Option ℕ) (other : Option ℕ) (n : ℕ) → (o ≡ None) ⊎ (o ≡ Some n) → other ≡ Some n → option_or o other ≡ Some n
or_same None other n is same = same
or_same (Some x) other n (inl is) same = absurd cc
or_same (Some x) other n (inr is) same = is

-- where the last place is covered, the end is told
end_there_at : (d : Original) (f : Fragment) (others : List Fragment) (place : ℕ) → IsCut d f → place + 1 ≡ length d.payload
    → (is_some (octet_at others place) ≡ true → end_by others ≡ Some (length d.payload)) → (is_some (octet_in f place) ≡ true)
    ⊎ (is_some (octet_at others place) ≡ true) → option_or (end_told f) (end_by others) ≡ Some (length d.payload)
end_there_at d f others place cut last before (inl here) =
    let inside : covers f place ≡ true = cover_cases f place here (cases_Bool (covers f place)) in
    let at = covered_at f place inside in
    told_last d f f.more (end_by others) cut refl (cut.more ∙ le-ltb (end_of f) (length d.payload) (omega (arith, at.1)))
end_there_at d f others place cut last before (inr there) = or_same (end_told f) (end_by others) (length d.payload) (told-cut_at d f f.more cut refl)
    (before there)

end_there : (d : Original) (fragments : List Fragment) (place : ℕ) → All (IsCut d) fragments → place + 1 ≡ length d.payload
    → is_some (octet_at fragments place) ≡ true → end_by fragments ≡ Some (length d.payload)
end_there d [] place cuts last is = absurd cc
end_there d (f ∷ others) place cuts last is =
    end_there_at d f others place (All-head (IsCut d) f others cuts) last (end_there d others place (All-tail (IsCut d) f others cuts) last)
    (some_or (octet_in f place) (octet_at others place) is)

header_or : (d : Original) (f : Fragment) (starts : Bool) (o : Option (List ℕ)) → IsCut d f → (starts ≡ true)
    ⊎ (whole_head (unwrap_or o []) (20 + length d.payload) ≡ d.header) → whole_head (unwrap_or (option_or (cond starts (Some f.header) None) o) [])
    (20 + length d.payload) ≡ d.header
header_or d f true o cut is = cut.header
header_or d f false o cut (inl is) = absurd cc
header_or d f false o cut (inr is) = is

header_there_at : (d : Original) (f : Fragment) (others : List Fragment) → IsCut d f
    → (is_some (octet_at others 0) ≡ true → whole_head (unwrap_or (header_by others) []) (20 + length d.payload) ≡ d.header)
    → (is_some (octet_in f 0) ≡ true) ⊎ (is_some (octet_at others 0) ≡ true)
    → whole_head (unwrap_or (option_or (header_told f) (header_by others)) []) (20 + length d.payload) ≡ d.header
header_there_at d f others cut before (inl here) =
    let at = covered_at f 0 (cover_cases f 0 here (cases_Bool (covers f 0))) in
    header_or d f (eqb f.start 0) (header_by others) cut (inl (eq-eqb f.start 0 (omega (arith, at.0))))
header_there_at d f others cut before (inr there) = header_or d f (eqb f.start 0) (header_by others) cut (inr (before there))

-- where the first place is covered, the header is told
header_there : (d : Original) (fragments : List Fragment) → All (IsCut d) fragments → is_some (octet_at fragments 0) ≡ true
    → whole_head (unwrap_or (header_by fragments) []) (20 + length d.payload) ≡ d.header
header_there d [] cuts is = absurd cc
header_there d (f ∷ others) cuts is =
    header_there_at d f others (All-head (IsCut d) f others cuts) (header_there d others (All-tail (IsCut d) f others cuts))
    (some_or (octet_in f 0) (octet_at others 0) is)

value_of : (d : Original) (place : ℕ) (o : Option ℕ) → IsOctet d place o → is_some o ≡ true → get_or d.payload place 0 ≡ unwrap_or o 0
value_of d place None is some = absurd cc
value_of d place (Some x) (inl is) some = absurd cc
value_of d place (Some x) (inr is) some = cc

known_cover : (d : Original) (fragments : List Fragment) → is_covered (known_by fragments) (Some (length d.payload)) ≡ cover d fragments
known_cover d fragments =
    same-all (λ place. is_some (octet_of (known_by fragments) place)) (λ place. is_some (octet_at fragments place)) (length d.payload)
    (λ place below. ap is_some (octet_of-known fragments place))

end_whole : (d : Original) (fragments : List Fragment) → 0 < length d.payload → All (IsCut d) fragments → cover d fragments ≡ true
    → end_by fragments ≡ Some (length d.payload)
end_whole d fragments some cuts covered =
    end_there d fragments (length d.payload - 1) cuts (omega arith)
    (all-each (λ place. is_some (octet_at fragments place)) (length d.payload) (length d.payload - 1) covered (omega arith))

-- fragments that cover it complete it
pub cover-complete : (d : Original) (fragments : List Fragment) → 0 < length d.payload → All (IsCut d) fragments → cover d fragments ≡ true
    → is_complete (known_by fragments) ≡ true
cover-complete d fragments some cuts covered = ap (is_covered (known_by fragments)) (end_whole d fragments some cuts covered)
    ∙ known_cover d fragments ∙ covered

incomplete_at : (d : Original) (fragments : List Fragment) → IsEnd d (end_by fragments) → cover d fragments ≡ false
    → is_complete (known_by fragments) ≡ false
incomplete_at d fragments (inl none) open_ = ap (is_covered (known_by fragments)) none
incomplete_at d fragments (inr told) open_ = ap (is_covered (known_by fragments)) told ∙ known_cover d fragments ∙ open_

-- and others don't
pub open-incomplete : (d : Original) (fragments : List Fragment) → All (IsCut d) fragments → cover d fragments ≡ false
    → is_complete (known_by fragments) ≡ false
open-incomplete d fragments cuts open_ = incomplete_at d fragments (end-cut d fragments cuts) open_

-- what they tell is then the datagram
pub cover-datagram : (d : Original) (fragments : List Fragment) → 0 < length d.payload → All (IsCut d) fragments → cover d fragments ≡ true
    → datagram_of (known_by fragments) ≡ d.header ++ d.payload
cover-datagram d fragments some cuts covered =
    let each : (place : ℕ) → place < length d.payload → is_some (octet_at fragments place) ≡ true =
    λ place below. all-each (λ place. is_some (octet_at fragments place)) (length d.payload) place covered below in
    let octets : ℕ → ℕ = λ place. unwrap_or (octet_of (known_by fragments) place) 0 in
    let payload : d.payload ≡ table octets (length d.payload) =
    is-table octets d.payload (length d.payload) 0 refl
    (λ place below. value_of d place (octet_at fragments place) (octet_at-cut d fragments place cuts) (each place below)
    ∙ ap (λ o. unwrap_or o 0) (sym (octet_of-known fragments place))) in
    ap (λ o. whole_head (unwrap_or (header_by fragments) []) (20 + unwrap_or o 0) ++ table octets (unwrap_or o 0))
    (end_whole d fragments some cuts covered)
    ∙ ap (λ head. head ++ table octets (length d.payload)) (header_there d fragments cuts (each 0 some))
    ∙ ap (λ rest. d.header ++ rest) (sym payload)

-- ## Fragments more

-- what covers it covers it with others too
pub cover-more : (d : Original) (fragments others : List Fragment) → cover d fragments ≡ true → cover d (fragments ++ others) ≡ true
cover-more d fragments others covered =
    each-all (λ place. is_some (octet_at (fragments ++ others) place)) (length d.payload)
    (λ place below. more_octets fragments others place
    (all-each (λ place. is_some (octet_at fragments place)) (length d.payload) place covered below))

open_by : (d : Original) (fragments others : List Fragment) → cover d (fragments ++ others) ≡ false → (cover d fragments ≡ true)
    ⊎ (cover d fragments ≡ false) → cover d fragments ≡ false
open_by d fragments others open_ (inl covered) = absurd (true≢false (sym (cover-more d fragments others covered) ∙ open_))
open_by d fragments others open_ (inr is) = is

pub open-less : (d : Original) (fragments others : List Fragment) → cover d (fragments ++ others) ≡ false → cover d fragments ≡ false
open-less d fragments others open_ = open_by d fragments others open_ (cases_Bool (cover d fragments))
