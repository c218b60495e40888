-- What a buffer holds.
use Rattle.std.proofs.Common.{◌≡◌, ℕ, ◌+◌, ◌/◌, ◌<◌, ◌≤◌, Bool, true, false, ◌&&◌, ◌||◌, eqb, ltb, cond, List, [], ◌++◌, take, drop, length, get_or, Some, None, is_some, unwrap_or, refl, sym, ap, ◌∙◌, arith, replicate, ◌-◌, ◌*◌, ◌⊎◌, inl, inr}
use Rattle.std.proofs.lemmas.Bool.{and_parts, cases_lt}
use Rattle.std.proofs.lemmas.List.{get_or_default, take-append-drop, take-take, drop-take, length-take-le, length-drop, get_or-take, get_or-drop, length-replicate, get_or-replicate}
use Rattle.frag_join.specs.Prelude.{table, count_below, Fragment, end_of, octet_of, is_other, is_above, ends_otherwise, is_complete, is_covered, whole_head, sealed, spelled, payload_below, octet_inside, known_inside, IsWhole}
use Rattle.frag_join.specs.declared.buffer.Buffer.TheInside.{Inside}
use Rattle.frag_join.proofs.Splices.{splice, length-splice, splice-inside, splice-behind}
use Rattle.frag_join.proofs.PlaceLemmas.{length-table, at-table, past-table, same-tables, is-table, all-counted, all-each, same-all}

-- the octet that is known at a place below the reach
pub octet-below : (b : Inside) (place : ℕ) → place < b.reach → octet_of (known_inside b) place ≡ octet_inside b place
octet-below b place below = at-table (octet_inside b) b.reach place None below

pub octet-past : (b : Inside) (place : ℕ) → b.reach ≤ place → octet_of (known_inside b) place ≡ None
octet-past b place past = past-table (octet_inside b) b.reach place None past

complete_at : (b : Inside) (ended : Bool) → b.count ≡ count_below (λ place. is_some (octet_inside b place)) b.reach
    → is_covered (known_inside b) (cond ended (Some b.reach) None) ≡ (ended && eqb b.count b.reach)
complete_at b false counted = refl
complete_at b true counted =
    same-all (λ place. is_some (octet_of (known_inside b) place)) (λ place. is_some (octet_inside b place)) b.reach
    (λ place below. ap is_some (octet-below b place below))
    ∙ all-counted (λ place. is_some (octet_inside b place)) b.reach
    ∙ ap (λ n. eqb n b.reach) (sym counted)

-- it is complete where its end is known and as many places are held as there are below it
pub complete-counted : (b : Inside) → IsWhole b → is_complete (known_inside b) ≡ (b.ended && eqb b.count b.reach)
complete-counted b whole = complete_at b b.ended whole.counted

-- ## One place is read

octet_read : (held : Bool) (x y : ℕ) → held ≡ true → x ≡ y → Some x ≡ cond held (Some y) None
octet_read true x y is same = ap Some same
octet_read false x y is same = absurd cc

none_read : (held : Bool) (y : ℕ) → held ≡ false → None ≡ cond held (Some y) None
none_read true y is = absurd cc
none_read false y is = refl

pub octet-held : (b : Inside) (place x : ℕ) (h : Bool) → IsWhole b → place < b.reach → h ≡ true → h ≡ get_or b.held.items (place / 8) h
    → x ≡ get_or b.octets.items (20 + place) x → Some x ≡ octet_of (known_inside b) place
octet-held b place x h whole below is unit octet =
    octet_read (get_or b.held.items (place / 8) false) x (get_or b.octets.items (20 + place) 0)
    (get_or_default b.held.items (place / 8) false h (omega (arith, whole.units, whole.fits)) ∙ sym unit ∙ is)
    (octet ∙ get_or_default b.octets.items (20 + place) x 0 (omega (arith, whole.octets, whole.fits)))
    ∙ sym (octet-below b place below)

pub octet-free : (b : Inside) (place : ℕ) (h : Bool) → IsWhole b → place < b.reach → h ≡ false → h ≡ get_or b.held.items (place / 8) h
    → None ≡ octet_of (known_inside b) place
octet-free b place h whole below is unit =
    none_read (get_or b.held.items (place / 8) false) (get_or b.octets.items (20 + place) 0)
    (get_or_default b.held.items (place / 8) false h (omega (arith, whole.units, whole.fits)) ∙ sym unit ∙ is)
    ∙ sym (octet-below b place below)

-- ## An end without MF

pub ends-plain : (b : Inside) (f : Fragment) (end : ℕ) (more : Bool) → more ≡ false → more ≡ f.more → end ≡ end_of f
    → is_other end (cond b.ended (Some b.reach) None) ≡ false → ltb end b.reach ≡ ends_otherwise (known_inside b) f
ends-plain b f end more last is ends known =
    ap (λ o. o || ltb end b.reach) (sym known)
    ∙ ap (λ e. is_other e (known_inside b).known_end || ltb e b.reach) ends
    ∙ ap (λ n. is_other (end_of f) (known_inside b).known_end || ltb (end_of f) n) (sym (length-table (octet_inside b) b.reach))
    ∙ ap (λ m. cond m (is_above (end_of f) (known_inside b).known_end)
    (is_other (end_of f) (known_inside b).known_end || ltb (end_of f) (length (known_inside b).places))) (sym last ∙ is)

-- ## A datagram that is complete

pub record IsAll (b : Inside) : Type 0 where
  pub ended : b.ended ≡ true
  pub headed : b.headed ≡ true
  pub each : (place : ℕ) → place < b.reach → is_some (octet_inside b place) ≡ true

unit_read : (held : Bool) (x : ℕ) → is_some (cond held (Some x) None) ≡ true → held ≡ true
unit_read true x is = refl
unit_read false x is = absurd cc

pub complete-all : (b : Inside) → IsWhole b → is_complete (known_inside b) ≡ true → IsAll b
complete-all b whole complete =
    let ended : b.ended ≡ true = (and_parts b.ended (eqb b.count b.reach) (sym (complete-counted b whole) ∙ complete)).0 in
    let covered : is_covered (known_inside b) (Some b.reach) ≡ true = sym (ap (λ e. is_covered (known_inside b) (cond e (Some b.reach) None)) ended)
    ∙ complete in
    let each : (place : ℕ) → place < b.reach → is_some (octet_inside b place) ≡ true = λ place below. ap is_some (sym (octet-below b place below))
    ∙ all-each (λ place. is_some (octet_of (known_inside b) place)) b.reach place covered below in
    record {
      ended = ended;
      headed = whole.headed (unit_read (get_or b.held.items 0 false) (get_or b.octets.items (20 + 0) 0) (each 0 (whole.some ended)));
      each = each;
    }

value_read : (held : Bool) (x : ℕ) → is_some (cond held (Some x) None) ≡ true → x ≡ unwrap_or (cond held (Some x) None) 0
value_read true x is = refl
value_read false x is = absurd cc

header_read : (headed : Bool) (xs : List ℕ) → headed ≡ true → xs ≡ unwrap_or (cond headed (Some xs) None) []
header_read true xs is = refl
header_read false xs is = absurd cc

end_read : (ended : Bool) (n : ℕ) → ended ≡ true → n ≡ unwrap_or (cond ended (Some n) None) 0
end_read true n is = refl
end_read false n is = absurd cc

front_two : (xs : List ℕ) (n : ℕ) → take (20 + n) xs ≡ take 20 xs ++ take n (drop 20 xs)
front_two xs n =
    sym (take-append-drop 20 (take (20 + n) xs)) ∙ ap (λ front. front ++ drop 20 (take (20 + n) xs)) (take-take 20 (20 + n) xs (omega arith))
    ∙ ap (λ rest. take 20 xs ++ rest) (drop-take 20 n xs)

payload_read : (b : Inside) → IsWhole b → IsAll b → take b.reach (drop 20 b.octets.items) ≡ payload_below (known_inside b) b.reach
payload_read b whole all =
    is-table (λ place. unwrap_or (octet_of (known_inside b) place) 0) (take b.reach (drop 20 b.octets.items)) b.reach 0
    (length-take-le b.reach (drop 20 b.octets.items) (omega (arith, length-drop 20 b.octets.items, whole.octets, whole.fits)))
    (λ place below.
    get_or-take b.reach (drop 20 b.octets.items) place 0 below ∙ get_or-drop 20 b.octets.items place 0
    ∙ value_read (get_or b.held.items (place / 8) false) (get_or b.octets.items (20 + place) 0) (all.each place below)
    ∙ ap (λ o. unwrap_or o 0) (sym (octet-below b place below)))

-- the octets at the front are the datagram
pub spelled-front : (b : Inside) → IsWhole b → is_complete (known_inside b) ≡ true → take (20 + b.reach) b.octets.items ≡ spelled (known_inside b)
spelled-front b whole complete =
    let all = complete-all b whole complete in
    front_two b.octets.items b.reach
    ∙ ap (λ front. front ++ take b.reach (drop 20 b.octets.items)) (header_read b.headed (take 20 b.octets.items) all.headed)
    ∙ ap (λ rest. unwrap_or (known_inside b).header [] ++ rest) (payload_read b whole all)
    ∙ ap (λ n. unwrap_or (known_inside b).header [] ++ payload_below (known_inside b) n) (end_read b.ended b.reach all.ended)

-- ## Its header is sealed

pub record IsSealed (b new : Inside) : Type 0 where
  pub held : new.held ≡ b.held
  pub reach : new.reach ≡ b.reach
  pub ended : new.ended ≡ b.ended
  pub headed : new.headed ≡ b.headed
  pub header : take 20 new.octets.items ≡ whole_head (take 20 b.octets.items) (20 + b.reach)
  pub rest : drop 20 new.octets.items ≡ drop 20 b.octets.items

octet-sealed : (b new : Inside) (place : ℕ) → IsSealed b new → octet_inside new place ≡ octet_inside b place
octet-sealed b new place is =
    ap (λ held. cond (get_or held.items (place / 8) false) (Some (get_or new.octets.items (20 + place) 0)) None) is.held
    ∙ ap (λ x. cond (get_or b.held.items (place / 8) false) (Some x) None)
    (sym (get_or-drop 20 new.octets.items place 0) ∙ ap (λ xs. get_or xs place 0) is.rest ∙ get_or-drop 20 b.octets.items place 0)

header_sealed : (new old ended : Bool) (head xs : List ℕ) (reach : ℕ) → new ≡ old → old ≡ true → ended ≡ true → head ≡ whole_head xs (20 + reach)
    → cond new (Some head) None ≡ Some (whole_head (unwrap_or (cond old (Some xs) None) []) (20 + unwrap_or (cond ended (Some reach) None) 0))
header_sealed new old ended head xs reach same headed last is =
    ap (λ n. cond n (Some head) None) (same ∙ headed) ∙ ap Some is
    ∙ ap (λ h. Some (whole_head h (20 + reach))) (header_read old xs headed)
    ∙ ap (λ n. Some (whole_head (unwrap_or (cond old (Some xs) None) []) (20 + n))) (end_read ended reach last)

pub known-sealed : (b new : Inside) → IsWhole b → is_complete (known_inside b) ≡ true → IsSealed b new → known_inside new ≡ sealed (known_inside b)
known-sealed b new whole complete is =
    let all = complete-all b whole complete in
    let places : (known_inside new).places ≡ (known_inside b).places = same-tables (octet_inside new) (octet_inside b) new.reach None
    (λ place below. octet-sealed b new place is) ∙ ap (table (octet_inside b)) is.reach in
    let known_end : (known_inside new).known_end ≡ (known_inside b).known_end = ap (λ e. cond e (Some new.reach) None) is.ended
    ∙ ap (λ n. cond b.ended (Some n) None) is.reach in
    let header : (known_inside new).header ≡ (sealed (known_inside b)).header = header_sealed new.headed b.headed b.ended (take 20 new.octets.items)
    (take 20 b.octets.items) b.reach is.headed all.headed all.ended is.header in
    λ i. record { places = places i; known_end = known_end i; header = header i }

-- ## A buffer that is cleared

-- the units below the reach are given back, and none was held behind it
free_at : (b : Inside) (held : List Bool) (to unit : ℕ) → IsWhole b → b.reach ≤ to * 8 → to ≤ length b.held.items
    → held ≡ splice b.held.items 0 to (replicate (to - 0) false) → (unit < to) ⊎ (to ≤ unit) → get_or held unit false ≡ false
free_at b held to unit whole enough within is (inl below) =
    ap (λ xs. get_or xs unit false) is
    ∙ splice-inside b.held.items 0 to (replicate (to - 0) false) unit false (omega arith) (omega arith)
    (omega (arith, length-replicate (to - 0) false))
    ∙ get_or-replicate (to - 0) (unit - 0) false false (omega arith)
free_at b held to unit whole enough within is (inr past) =
    ap (λ xs. get_or xs unit false) is ∙ splice-behind b.held.items 0 to (replicate (to - 0) false) unit false
    (omega (arith, length-replicate (to - 0) false)) within past
    ∙ whole.free unit (omega arith)

pub cleared-free : (b : Inside) (held : List Bool) (to : ℕ) → IsWhole b → b.reach ≤ to * 8 → to ≤ length b.held.items
    → held ≡ splice b.held.items 0 to (replicate (to - 0) false) → (unit : ℕ) → get_or held unit false ≡ false
cleared-free b held to whole enough within is unit = free_at b held to unit whole enough within is (cases_lt unit to)

pub cleared-length : (b : Inside) (held : List Bool) (to : ℕ) → to ≤ length b.held.items → held ≡ splice b.held.items 0 to (replicate (to - 0) false)
    → length held ≡ length b.held.items
cleared-length b held to within is = ap length is ∙ length-splice b.held.items 0 to (replicate (to - 0) false)
    (omega (arith, length-replicate (to - 0) false)) within
