-- A fragment is put into its place.
use Rattle.std.proofs.Common.{◌≡◌, ℕ, zero, suc, ◌+◌, ◌-◌, ◌*◌, ◌/◌, ◌%◌, ◌<◌, ◌≤◌, max, Bool, true, false, ◌&&◌, ◌||◌, not, eqb, ltb, cond, List, take, drop, replicate, length, get_or, Option, Some, None, is_some, refl, sym, ap, ◌∙◌, arith, ◌⊎◌, inl, inr}
use Rattle.std.specs.Option.{option_or}
use Rattle.std.proofs.lemmas.Bool.{cases_lt, eqb-true, not-false, ltb-false, or_parts}
use Rattle.std.proofs.lemmas.List.{get_or-drop, get_or-replicate, length-replicate}
use Rattle.gate_base.proofs.Options.{or_none}
use Rattle.frag_join.specs.Prelude.{table, count_below, Fragment, end_of, covers, octet_in, Coverage, octet_of, added, is_bad, is_torn, ends_otherwise, is_unlike, are_unlike, is_other, is_above, header_told, header_held, octet_inside, known_inside, IsWhole}
use Rattle.frag_join.specs.declared.buffer.Buffer.TheInside.{Inside}
use Rattle.frag_join.proofs.PlaceLemmas.{length-table, same-tables, any-none, count-from, count-sum, same-count}
use Rattle.frag_join.proofs.Splices.{splice, front-splice, length-splice, splice-before, splice-inside, splice-behind}
use Rattle.frag_join.proofs.FragmentLemmas.{covers-before, covers-behind, covers-inside, octet-outside, octet-covered}
use Rattle.frag_join.proofs.BufferLemmas.{octet-below, octet-past}

-- ## A fragment that isn't bad

pub record IsGood (b : Inside) (f : Fragment) : Type 0 where
  pub some : 0 < length f.payload
  pub even : f.more ≡ true → length f.payload % 8 ≡ 0
  pub fits : end_of f ≤ 65515
  pub above : f.more ≡ true → b.ended ≡ true → end_of f ≤ b.reach
  pub other : f.more ≡ false → b.ended ≡ true → end_of f ≡ b.reach
  pub below : f.more ≡ false → b.reach ≤ end_of f
  pub like : (place : ℕ) → place < end_of f → are_unlike (octet_of (known_inside b) place) (octet_in f place) ≡ false

not_zero : (n : ℕ) → eqb n 0 ≡ false → 0 < n
not_zero zero is = absurd cc
not_zero (suc n) is = omega arith

even_by : (more : Bool) (n : ℕ) → (more && not (eqb n 0)) ≡ false → more ≡ true → n ≡ 0
even_by true n is more = eqb-true n 0 (not-false (eqb n 0) is)
even_by false n is more = absurd cc

above_by : (more ended other : Bool) (end reach : ℕ) → cond more (is_above end (cond ended (Some reach) None)) other ≡ false → more ≡ true
    → ended ≡ true → end ≤ reach
above_by true true other end reach is more over = ltb-false reach end is
above_by true false other end reach is more over = absurd cc
above_by false ended other end reach is more over = absurd cc

other_by : (more ended above past : Bool) (end reach : ℕ) → cond more above (is_other end (cond ended (Some reach) None) || past) ≡ false
    → more ≡ false → ended ≡ true → end ≡ reach
other_by true ended above past end reach is more over = absurd cc
other_by false true above past end reach is more over = eqb-true end reach (not-false (eqb end reach) (or_parts _ past is).0)
other_by false false above past end reach is more over = absurd cc

below_by : (more above other : Bool) (end reach : ℕ) → cond more above (other || ltb end reach) ≡ false → more ≡ false → reach ≤ end
below_by true above other end reach is more = absurd cc
below_by false above other end reach is more = ltb-false end reach (or_parts other (ltb end reach) is).1

pub good-fragment : (b : Inside) (f : Fragment) → is_bad (known_inside b) f ≡ false → IsGood b f
good-fragment b f good =
    let k = known_inside b in
    let parts : (is_torn f || ends_otherwise k f ≡ false) × (is_unlike k f ≡ false) =
    or_parts (is_torn f || ends_otherwise k f) (is_unlike k f) good in
    let torn : (is_torn f ≡ false) × (ends_otherwise k f ≡ false) = or_parts (is_torn f) (ends_otherwise k f) parts.0 in
    let lengths = or_parts (eqb (length f.payload) 0 || f.more && not (eqb (length f.payload % 8) 0)) (ltb 65535 (20 + end_of f)) torn.0 in
    let payload = or_parts (eqb (length f.payload) 0) (f.more && not (eqb (length f.payload % 8) 0)) lengths.0 in
    let reach : length k.places ≡ b.reach = length-table (octet_inside b) b.reach in
    record {
      some = not_zero (length f.payload) payload.0;
      even = even_by f.more (length f.payload % 8) payload.1;
      fits = omega (arith, ltb-false 65535 (20 + end_of f) lengths.1);
      above = above_by f.more b.ended _ (end_of f) b.reach torn.1;
      other = other_by f.more b.ended _ _ (end_of f) b.reach torn.1;
      below = λ last. omega (arith, reach, below_by f.more _ _ (end_of f) (length k.places) torn.1 last);
      like = λ place below. any-none (λ place. are_unlike (octet_of k place) (octet_in f place)) (end_of f) place parts.1 below;
    }

-- ## The buffer after it

pub record IsPut (b : Inside) (f : Fragment) (new : Inside) : Type 0 where
  pub octets : drop 20 new.octets.items ≡ drop 20 (splice b.octets.items (20 + f.start) (20 + f.start + length f.payload) f.payload)
  pub count : length new.octets.items ≡ length b.octets.items
  pub held : new.held.items ≡ splice b.held.items (f.start / 8) ((end_of f + 7) / 8) (replicate ((end_of f + 7) / 8 - f.start / 8) true)
  pub reach : new.reach ≡ max b.reach (end_of f)
  pub fresh : new.count ≡ b.count + count_below (λ place. covers f place && not (is_some (octet_of (known_inside b) place))) (end_of f)
  pub ended : new.ended ≡ (b.ended || not f.more)
  pub header : header_held new.headed new.octets.items ≡ option_or (header_held b.headed b.octets.items) (header_told f)
  pub first : f.start ≡ 0 → new.headed ≡ true
  pub still : b.headed ≡ true → new.headed ≡ true

-- ## What is then known at a place

same_read : (held other : Bool) (x y : ℕ) → held ≡ other → x ≡ y → cond held (Some x) None ≡ cond other (Some y) None
same_read held other x y units octets = ap (λ h. cond h (Some x) None) units ∙ ap (λ n. cond other (Some n) None) octets

free_at : (b : Inside) (place : ℕ) (ended : Bool) → b.ended ≡ ended → IsWhole b → (ended ≡ true → place < b.reach) → b.reach ≤ place
    → octet_inside b place ≡ octet_of (known_inside b) place
free_at b place true is whole early past = absurd (omega (arith, early refl))
free_at b place false is whole early past =
    let even : b.reach % 8 ≡ 0 = whole.even is in
    ap (λ h. cond h (Some (get_or b.octets.items (20 + place) 0)) None) (whole.free (place / 8) (omega arith)) ∙ sym (octet-past b place past)

old_at : (b : Inside) (place : ℕ) → IsWhole b → (b.ended ≡ true → place < b.reach) → (place < b.reach) ⊎ (b.reach ≤ place)
    → octet_inside b place ≡ octet_of (known_inside b) place
old_at b place whole early (inl below) = sym (octet-below b place below)
old_at b place whole early (inr past) = free_at b place b.ended refl whole early past

octet-old : (b : Inside) (place : ℕ) → IsWhole b → (b.ended ≡ true → place < b.reach) → octet_inside b place ≡ octet_of (known_inside b) place
octet-old b place whole early = old_at b place whole early (cases_lt place b.reach)

octets-new : (b : Inside) (f : Fragment) (new : Inside) (place : ℕ) → IsPut b f new
    → get_or new.octets.items (20 + place) 0 ≡ get_or (splice b.octets.items (20 + f.start) (20 + f.start + length f.payload) f.payload)
    (20 + place) 0
octets-new b f new place put =
    sym (get_or-drop 20 new.octets.items place 0) ∙ ap (λ xs. get_or xs place 0) put.octets
    ∙ get_or-drop 20 (splice b.octets.items (20 + f.start) (20 + f.start + length f.payload) f.payload) place 0

-- at a place outside the fragment the same as before
kept-outside : (b : Inside) (f : Fragment) (new : Inside) (place : ℕ) → IsWhole b → (b.ended ≡ true → place < b.reach) → covers f place ≡ false
    → get_or new.held.items (place / 8) false ≡ get_or b.held.items (place / 8) false
    → get_or new.octets.items (20 + place) 0 ≡ get_or b.octets.items (20 + place) 0
    → octet_inside new place ≡ option_or (octet_of (known_inside b) place) (octet_in f place)
kept-outside b f new place whole early out unit octet =
    same_read _ _ _ _ unit octet ∙ octet-old b place whole early ∙ sym (or_none (octet_of (known_inside b) place))
    ∙ ap (λ o. option_or (octet_of (known_inside b) place) o) (sym (octet-outside f place out))

end-known : (more ended : Bool) (end reach : ℕ) → (more ≡ true → ended ≡ true → end ≤ reach) → (more ≡ false → ended ≡ true → end ≡ reach)
    → ended ≡ true → end ≤ reach
end-known true ended end reach above other over = above refl over
end-known false ended end reach above other over = omega (arith, other refl over)

octet-before : (b : Inside) (f : Fragment) (new : Inside) (place : ℕ) → IsWhole b → IsGood b f → f.start % 8 ≡ 0 → IsPut b f new → place < new.reach
    → place < f.start → octet_inside new place ≡ option_or (octet_of (known_inside b) place) (octet_in f place)
octet-before b f new place whole good even put inside below =
    let fits : end_of f ≤ 65515 = good.fits in
    let units : f.start / 8 ≤ length b.held.items = omega (arith, whole.units) in
    let room : 20 + f.start ≤ length b.octets.items = omega (arith, whole.octets) in
    kept-outside b f new place whole
    (λ over. omega (arith, put.reach, end-known f.more b.ended (end_of f) b.reach good.above good.other over))
    (covers-before f place below)
    (ap (λ xs. get_or xs (place / 8) false) put.held ∙ splice-before b.held.items (f.start / 8) ((end_of f + 7) / 8)
    (replicate ((end_of f + 7) / 8 - f.start / 8) true) (place / 8) false units (omega arith))
    (octets-new b f new place put ∙ splice-before b.octets.items (20 + f.start) (20 + f.start + length f.payload) f.payload (20 + place) 0 room
    (omega arith))

even_end : (more : Bool) (f : Fragment) (reach place : ℕ) → (more ≡ true → length f.payload % 8 ≡ 0) → (more ≡ false → reach ≤ end_of f)
    → f.start % 8 ≡ 0 → end_of f ≤ place → place < max reach (end_of f) → end_of f % 8 ≡ 0
even_end true f reach place even below start past inside = let payload : length f.payload % 8 ≡ 0 = even refl in omega arith
even_end false f reach place even below start past inside = let most : reach ≤ end_of f = below refl in absurd (omega arith)

octet-behind : (b : Inside) (f : Fragment) (new : Inside) (place : ℕ) → IsWhole b → IsGood b f → f.start % 8 ≡ 0 → IsPut b f new → place < new.reach
    → end_of f ≤ place → octet_inside new place ≡ option_or (octet_of (known_inside b) place) (octet_in f place)
octet-behind b f new place whole good even put inside past =
    let fits : end_of f ≤ 65515 = good.fits in
    let inside' : place < max b.reach (end_of f) = omega (arith, put.reach) in
    let end_even : end_of f % 8 ≡ 0 = even_end f.more f b.reach place good.even good.below even past inside' in
    let last : (end_of f + 7) / 8 ≤ length b.held.items = omega (arith, whole.units) in
    let count : f.start / 8 + length (replicate ((end_of f + 7) / 8 - f.start / 8) true) ≡ (end_of f + 7) / 8 =
    omega (arith, length-replicate ((end_of f + 7) / 8 - f.start / 8) true) in
    let room : 20 + f.start + length f.payload ≤ length b.octets.items = omega (arith, whole.octets) in
    kept-outside b f new place whole (λ over. omega arith) (covers-behind f place past)
    (ap (λ xs. get_or xs (place / 8) false) put.held ∙ splice-behind b.held.items (f.start / 8) ((end_of f + 7) / 8)
    (replicate ((end_of f + 7) / 8 - f.start / 8) true) (place / 8) false count last (omega arith))
    (octets-new b f new place put ∙ splice-behind b.octets.items (20 + f.start) (20 + f.start + length f.payload) f.payload (20 + place) 0 refl room
    (omega arith))

-- the same octet comes again
agree_by : (o : Option ℕ) (x : ℕ) → are_unlike o (Some x) ≡ false → Some x ≡ option_or o (Some x)
agree_by None x like = refl
agree_by (Some y) x like = ap Some (sym (eqb-true y x (not-false (eqb y x) like)))

octet-within : (b : Inside) (f : Fragment) (new : Inside) (place : ℕ) → IsWhole b → IsGood b f → f.start % 8 ≡ 0 → IsPut b f new → f.start ≤ place
    → place < end_of f → octet_inside new place ≡ option_or (octet_of (known_inside b) place) (octet_in f place)
octet-within b f new place whole good even put from below =
    let fits : end_of f ≤ 65515 = good.fits in
    let in_f = octet-covered f place (covers-inside f place from below) in
    let many : ℕ = (end_of f + 7) / 8 - f.start / 8 in
    let units : f.start / 8 ≤ length b.held.items = omega (arith, whole.units) in
    let room : 20 + f.start ≤ length b.octets.items = omega (arith, whole.octets) in
    let near : place / 8 < f.start / 8 + length (replicate ((end_of f + 7) / 8 - f.start / 8) true) =
    omega (arith, length-replicate ((end_of f + 7) / 8 - f.start / 8) true) in
    let held : get_or new.held.items (place / 8) false ≡ true =
    ap (λ xs. get_or xs (place / 8) false) put.held
    ∙ splice-inside b.held.items (f.start / 8) ((end_of f + 7) / 8) (replicate ((end_of f + 7) / 8 - f.start / 8) true) (place / 8) false units
    (omega arith) near
    ∙ get_or-replicate ((end_of f + 7) / 8 - f.start / 8) (place / 8 - f.start / 8) true false (omega arith) in
    let there : 20 + place - (20 + f.start) ≡ place - f.start = omega arith in
    let octet : get_or new.octets.items (20 + place) 0 ≡ get_or f.payload (place - f.start) 0 =
    octets-new b f new place put
    ∙ splice-inside b.octets.items (20 + f.start) (20 + f.start + length f.payload) f.payload (20 + place) 0 room (omega arith) (omega arith)
    ∙ ap (λ n. get_or f.payload n 0) there in
    let like : are_unlike (octet_of (known_inside b) place) (Some (get_or f.payload (place - f.start) 0)) ≡ false =
    ap (are_unlike (octet_of (known_inside b) place)) (sym in_f) ∙ good.like place below in
    same_read _ true _ _ held octet
    ∙ agree_by (octet_of (known_inside b) place) (get_or f.payload (place - f.start) 0) like
    ∙ ap (λ o. option_or (octet_of (known_inside b) place) o) (sym in_f)

new_at : (b : Inside) (f : Fragment) (new : Inside) (place : ℕ) → IsWhole b → IsGood b f → f.start % 8 ≡ 0 → IsPut b f new → place < new.reach
    → (place < f.start) ⊎ (f.start ≤ place) → (place < end_of f) ⊎ (end_of f ≤ place)
    → octet_inside new place ≡ option_or (octet_of (known_inside b) place) (octet_in f place)
new_at b f new place whole good even put inside (inl before) other = octet-before b f new place whole good even put inside before
new_at b f new place whole good even put inside (inr from) (inl below) = octet-within b f new place whole good even put from below
new_at b f new place whole good even put inside (inr from) (inr past) = octet-behind b f new place whole good even put inside past

pub octet-new : (b : Inside) (f : Fragment) (new : Inside) (place : ℕ) → IsWhole b → IsGood b f → f.start % 8 ≡ 0 → IsPut b f new → place < new.reach
    → octet_inside new place ≡ option_or (octet_of (known_inside b) place) (octet_in f place)
octet-new b f new place whole good even put inside = new_at b f new place whole good even put inside (cases_lt place f.start)
    (cases_lt place (end_of f))

-- ## What is then known of the datagram

known_end_new : (more ended : Bool) (end reach : ℕ) → (more ≡ true → ended ≡ true → end ≤ reach) → (more ≡ false → ended ≡ true → end ≡ reach)
    → (more ≡ false → reach ≤ end)
    → cond (ended || not more) (Some (max reach end)) None ≡ option_or (cond ended (Some reach) None) (cond more None (Some end))
known_end_new true true end reach above other below = let few : end ≤ reach = above refl refl in ap Some (omega arith)
known_end_new false true end reach above other below = let same : end ≡ reach = other refl refl in ap Some (omega arith)
known_end_new true false end reach above other below = refl
known_end_new false false end reach above other below = let most : reach ≤ end = below refl in ap Some (omega arith)

places-new : (b : Inside) (f : Fragment) (new : Inside) → IsWhole b → IsGood b f → f.start % 8 ≡ 0 → IsPut b f new
    → table (octet_inside new) new.reach ≡ table (λ place. option_or (octet_of (known_inside b) place) (octet_in f place))
    (max (length (known_inside b).places) (end_of f))
places-new b f new whole good even put =
    let size : new.reach ≡ max (length (known_inside b).places) (end_of f) = put.reach
    ∙ ap (λ n. max n (end_of f)) (sym (length-table (octet_inside b) b.reach)) in
    same-tables (octet_inside new) (λ place. option_or (octet_of (known_inside b) place) (octet_in f place)) new.reach None
    (λ place inside. octet-new b f new place whole good even put inside)
    ∙ ap (table (λ place. option_or (octet_of (known_inside b) place) (octet_in f place))) size

same_known : (one other : Coverage) → one.places ≡ other.places → one.known_end ≡ other.known_end → one.header ≡ other.header → one ≡ other
same_known one other places end header = λ i. record { places = places i; known_end = end i; header = header i }

pub known-new : (b : Inside) (f : Fragment) (new : Inside) → IsWhole b → IsGood b f → f.start % 8 ≡ 0 → IsPut b f new
    → known_inside new ≡ added (known_inside b) f
known-new b f new whole good even put =
    same_known (known_inside new) (added (known_inside b) f)
    (places-new b f new whole good even put)
    (ap (λ e. cond e (Some new.reach) None) put.ended ∙ ap (λ n. cond (b.ended || not f.more) (Some n) None) put.reach
    ∙ known_end_new f.more b.ended (end_of f) b.reach good.above good.other good.below)
    put.header

-- ## The invariant

one_more : (o : Option ℕ) (covered : Bool) (x : ℕ) → cond (is_some (option_or o (cond covered (Some x) None))) 1 0 ≡ cond (is_some o) 1 0
    + cond (covered && not (is_some o)) 1 0
one_more None true x = refl
one_more None false x = refl
one_more (Some y) true x = refl
one_more (Some y) false x = refl

-- what was held is counted still
count-old : (b : Inside) (reach : ℕ) → IsWhole b → b.reach ≤ reach → count_below (λ place. is_some (octet_of (known_inside b) place)) reach ≡ b.count
count-old b reach whole more =
    count-from (λ place. is_some (octet_of (known_inside b) place)) b.reach reach more (λ place past. ap is_some (octet-past b place past))
    ∙ same-count (λ place. is_some (octet_of (known_inside b) place)) (λ place. is_some (octet_inside b place)) b.reach
    (λ place below. ap is_some (octet-below b place below))
    ∙ sym whole.counted

-- what is new lies before the fragment's end
count-fresh : (known : Coverage) (f : Fragment) (reach : ℕ) → end_of f ≤ reach
    → count_below (λ place. covers f place && not (is_some (octet_of known place))) reach
    ≡ count_below (λ place. covers f place && not (is_some (octet_of known place))) (end_of f)
count-fresh known f reach more =
    count-from (λ place. covers f place && not (is_some (octet_of known place))) (end_of f) reach more
    (λ place past. ap (λ c. c && not (is_some (octet_of known place))) (covers-behind f place past))

count-new : (b : Inside) (f : Fragment) (new : Inside) → IsWhole b → IsGood b f → f.start % 8 ≡ 0 → IsPut b f new
    → new.count ≡ count_below (λ place. is_some (octet_inside new place)) new.reach
count-new b f new whole good even put =
    let k = known_inside b in
    let all = count-sum (λ place. is_some (octet_inside new place)) (λ place. is_some (octet_of k place))
    (λ place. covers f place && not (is_some (octet_of k place))) new.reach
    (λ place inside. ap (λ o. cond (is_some o) 1 0) (octet-new b f new place whole good even put inside)
    ∙ one_more (octet_of k place) (covers f place) (get_or f.payload (place - f.start) 0)) in
    omega (arith, put.fresh, count-old b new.reach whole (omega (arith, put.reach)), count-fresh k f new.reach (omega (arith, put.reach)), all)

free-new : (b : Inside) (f : Fragment) (new : Inside) → IsWhole b → IsGood b f → IsPut b f new → (unit : ℕ) → new.reach ≤ unit * 8
    → get_or new.held.items unit false ≡ false
free-new b f new whole good put unit past =
    let fits : end_of f ≤ 65515 = good.fits in
    let last : (end_of f + 7) / 8 ≤ length b.held.items = omega (arith, whole.units) in
    let count : f.start / 8 + length (replicate ((end_of f + 7) / 8 - f.start / 8) true) ≡ (end_of f + 7) / 8 =
    omega (arith, length-replicate ((end_of f + 7) / 8 - f.start / 8) true) in
    let end_past : end_of f ≤ unit * 8 = omega (arith, put.reach) in
    ap (λ xs. get_or xs unit false) put.held
    ∙ splice-behind b.held.items (f.start / 8) ((end_of f + 7) / 8) (replicate ((end_of f + 7) / 8 - f.start / 8) true) unit false count last
    (omega arith)
    ∙ whole.free unit (omega (arith, put.reach))

max_even_at : (m n : ℕ) → m % 8 ≡ 0 → n % 8 ≡ 0 → (m < n) ⊎ (n ≤ m) → max m n % 8 ≡ 0
max_even_at m n em en (inl less) = let e : max m n ≡ n = omega arith in ap (λ x. x % 8) e ∙ en
max_even_at m n em en (inr more) = let e : max m n ≡ m = omega arith in ap (λ x. x % 8) e ∙ em

max_even : (m n : ℕ) → m % 8 ≡ 0 → n % 8 ≡ 0 → max m n % 8 ≡ 0
max_even m n em en = max_even_at m n em en (cases_lt m n)

even_new : (more ended : Bool) (f : Fragment) (reach : ℕ) → (more ≡ true → length f.payload % 8 ≡ 0) → (ended ≡ false → reach % 8 ≡ 0)
    → f.start % 8 ≡ 0 → (ended || not more) ≡ false → max reach (end_of f) % 8 ≡ 0
even_new true false f reach payload old start is = let a : length f.payload % 8 ≡ 0 = payload refl in let c : reach % 8 ≡ 0 = old refl in
    max_even reach (end_of f) c (omega arith)
even_new false false f reach payload old start is = absurd cc
even_new more true f reach payload old start is = absurd cc

headed_at : (b : Inside) (f : Fragment) (new : Inside) → IsWhole b → IsGood b f → f.start % 8 ≡ 0 → IsPut b f new → (f.start < 1) ⊎ (1 ≤ f.start)
    → get_or new.held.items 0 false ≡ true → new.headed ≡ true
headed_at b f new whole good even put (inl first) held = put.first (omega arith)
headed_at b f new whole good even put (inr later) held =
    let fits : end_of f ≤ 65515 = good.fits in
    let units : f.start / 8 ≤ length b.held.items = omega (arith, whole.units) in
    put.still
    (whole.headed
    (sym (splice-before b.held.items (f.start / 8) ((end_of f + 7) / 8) (replicate ((end_of f + 7) / 8 - f.start / 8) true) 0 false units
    (omega arith)) ∙ ap (λ xs. get_or xs 0 false) (sym put.held) ∙ held))

pub whole-new : (b : Inside) (f : Fragment) (new : Inside) → IsWhole b → IsGood b f → f.start % 8 ≡ 0 → IsPut b f new → IsWhole new
whole-new b f new whole good even put =
    let fits : end_of f ≤ 65515 = good.fits in
    let last : (end_of f + 7) / 8 ≤ length b.held.items = omega (arith, whole.units) in
    let count : f.start / 8 + length (replicate ((end_of f + 7) / 8 - f.start / 8) true) ≡ (end_of f + 7) / 8 =
    omega (arith, length-replicate ((end_of f + 7) / 8 - f.start / 8) true) in
    record {
      octets = put.count ∙ whole.octets;
      units = ap length put.held ∙ length-splice b.held.items (f.start / 8) ((end_of f + 7) / 8) (replicate ((end_of f + 7) / 8 - f.start / 8) true)
          count last ∙ whole.units;
      fits = omega (arith, put.reach, whole.fits);
      counted = count-new b f new whole good even put;
      free = free-new b f new whole good put;
      even = λ is. ap (λ n. n % 8) put.reach ∙ even_new f.more b.ended f b.reach good.even whole.even even (sym put.ended ∙ is);
      some = λ is. omega (arith, put.reach, good.some);
      headed = headed_at b f new whole good even put (cases_lt f.start 1);
    }

-- ## By what the writes leave

pub octets-put : (old new payload : List ℕ) (start : ℕ) (f : Fragment) → start ≡ f.start → payload ≡ f.payload
    → new ≡ splice old (20 + start) (20 + start + length payload) payload
    → new ≡ splice old (20 + f.start) (20 + f.start + length f.payload) f.payload
octets-put old new payload start f first octets put =
    put ∙ ap (λ s. splice old (20 + s) (20 + s + length payload) payload) first
    ∙ ap (λ p. splice old (20 + f.start) (20 + f.start + length p) p) octets

pub units-put : (old new : List Bool) (start end : ℕ) (f : Fragment) → start ≡ f.start → end ≡ end_of f
    → new ≡ splice old (start / 8) ((end + 7) / 8) (replicate ((end + 7) / 8 - start / 8) true)
    → new ≡ splice old (f.start / 8) ((end_of f + 7) / 8) (replicate ((end_of f + 7) / 8 - f.start / 8) true)
units-put old new start end f first last put =
    put ∙ ap (λ s. splice old (s / 8) ((end + 7) / 8) (replicate ((end + 7) / 8 - s / 8) true)) first
    ∙ ap (λ e. splice old (f.start / 8) ((e + 7) / 8) (replicate ((e + 7) / 8 - f.start / 8) true)) last

pub count-put : (old new : List ℕ) (f : Fragment) → length old ≡ 65535 → end_of f ≤ 65515
    → new ≡ splice old (20 + f.start) (20 + f.start + length f.payload) f.payload → length new ≡ length old
count-put old new f size fits put = ap length put ∙ length-splice old (20 + f.start) (20 + f.start + length f.payload) f.payload refl (omega arith)

pub header-kept : (old new : List ℕ) (headed : Bool) (f : Fragment) → length old ≡ 65535 → end_of f ≤ 65515
    → new ≡ splice old (20 + f.start) (20 + f.start + length f.payload) f.payload → header_held headed new ≡ header_held headed old
header-kept old new headed f size fits put =
    ap (λ xs. cond headed (Some xs) None)
    (ap (take 20) put ∙ front-splice old 20 (20 + f.start) (20 + f.start + length f.payload) f.payload (omega arith) (omega arith))
