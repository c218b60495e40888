-- What the bindings of a lawful table are to one another.
use Rattle.std.proofs.Common.{◌≡◌, ◌≢◌, ℕ, zero, suc, ◌<◌, Bool, true, false, ◌&&◌, ◌||◌, ◌==◌, List, [], ◌∷◌, length, map, get_or, if◌then◌else◌, Option, Some, None, option_map, option_and_then, refl, sym, ◌∙◌, ap, arith, inl, inr, find}
use Rattle.std.proofs.lemmas.Bool.{cases_Bool, cases_eq, cases_lt, and_parts, and_from, or_left, or_right, eqb-true, eq-eqb}
use Rattle.std.proofs.lemmas.List.{get_or-map, get_or_default, length-map, same_lists}
use Rattle.gate_base.specs.Prelude.{other, same_side}
use Rattle.gate_base.specs.declared.address.Addr.{Addr}
use Rattle.gate_base.specs.declared.event.Moment.{Moment}
use Rattle.gate_base.specs.declared.side.Side.{Side}
use Rattle.gate_base.proofs.Sides.{same_side-true, same_side-itself}
use Rattle.expiring_table.specs.declared.row.Row.{Row}
use Rattle.expiring_table.specs.Prelude.{row_of, with_row}
use Rattle.binding_table.specs.declared.binding.Binding.{Binding}
use Rattle.binding_table.specs.Prelude.{Bindings, extend_through, host_of, is_of_alias, is_of_host, is_through, lasting, IsLawful, collides, extended_by, filed, lasts, number_of, unless_fixed}
use Rattle.binding_table.proofs.Filed.{found_filed, replaced, with_filed}
use Rattle.binding_table.proofs.Kept.{IsSamePair, lasting_pair, lasting_same}

-- ## What is found

-- the first binding that passes, and what is seen of it
pub record Finds {X : Type 0} (view : Binding → X) (test : Binding → Bool) (entries : List Binding) (d : Binding) (seen : X) : Type 0 where
  pub place : ℕ
  pub within : place < length entries
  pub passes : test (get_or entries place d) ≡ true
  pub gives : view (get_or entries place d) ≡ seen

pub finds : {X : Type 0} (view : Binding → X) (test : Binding → Bool) (entries : List Binding) (d : Binding) (seen : X)
    → option_map view (find test entries) ≡ Some seen → Finds view test entries d seen
finds view test [] d seen h = cc
finds {X} view test (binding ∷ rest) d seen h = elim (cases_Bool (test binding)) [
  | inl passes ↦
      let same : Some (view binding) ≡ Some seen = rw passes at h in
      record { place = 0; within = omega arith; passes = passes; gives = cc }
  | inr fails ↦
      let later = finds view test rest d seen (rw fails at h) in
      record { place = suc later.place; within = let less = later.within in omega arith; passes = later.passes; gives = later.gives }
]

pub find_only : (test : Binding → Bool) (entries : List Binding) (place : ℕ) (d : Binding) → place < length entries
    → test (get_or entries place d) ≡ true → ((k : ℕ) → k < place → test (get_or entries k d) ≡ false)
    → find test entries ≡ Some (get_or entries place d)
find_only test [] place d within passes before = absurd (omega arith)
find_only test (binding ∷ rest) zero d within passes before = rw passes refl
find_only test (binding ∷ rest) (suc place) d within passes before =
    rw (before 0 (omega arith)) (find_only test rest place d (omega arith) passes (λ k less. before (suc k) (omega arith)))

-- ## Two bindings with the same host or alias are one

pub address_is : (one two : Addr) → (one.0 == two.0) ≡ true → one ≡ two
address_is one two h = let same = eqb-true one.0 two.0 h in ap (λ (n : ℕ). let a : Addr = record { 0 = n } in a) same

same_number : (m n k : ℕ) → (m == k) ≡ true → (n == k) ≡ true → (n == m) ≡ true
same_number m n k p q = eq-eqb n m (eqb-true n k q ∙ sym (eqb-true m k p))

both_collide : (s t u : Side) (hosts aliases : Bool) → same_side s u ≡ true → same_side t u ≡ true → (hosts || aliases) ≡ true
    → (same_side t s && (hosts || aliases)) ≡ true
both_collide s t u hosts aliases p q h = and_from _ _ (rw (same_side-true s u p, same_side-true t u q) (same_side-itself u)) h

same_host : (side : Side) (host : ℕ) (one two : Binding) → is_of_host side host one ≡ true → is_of_host side host two ≡ true → collides one two ≡ true
same_host side host one two p q =
    let first = and_parts (same_side one.side side) (one.host.0 == host) p in
    let second = and_parts (same_side two.side side) (two.host.0 == host) q in
    both_collide one.side two.side side (two.host.0 == one.host.0) (two.alias.0 == one.alias.0) first.0 second.0
    (or_left _ _ (same_number one.host.0 two.host.0 host first.1 second.1))

same_alias : (side : Side) (alias : ℕ) (one two : Binding) → is_of_alias side alias one ≡ true → is_of_alias side alias two ≡ true
    → collides one two ≡ true
same_alias side alias one two p q =
    let first = and_parts (same_side one.side (other side)) (one.alias.0 == alias) p in
    let second = and_parts (same_side two.side (other side)) (two.alias.0 == alias) q in
    both_collide one.side two.side (other side) (two.host.0 == one.host.0) (two.alias.0 == one.alias.0) first.0 second.0
    (or_right _ _ (same_number one.alias.0 two.alias.0 alias first.1 second.1))

-- where two that pass collide, only one passes
alone : (table : Bindings) (test : Binding → Bool) → ((one two : Binding) → test one ≡ true → test two ≡ true → collides one two ≡ true)
    → (place k : ℕ) (d : Binding) → IsLawful table → place < length table.entries → k < length table.entries → k ≢ place
    → test (get_or table.entries place d) ≡ true → test (get_or table.entries k d) ≡ false
alone table test collide place k d lawful within inside differs passes = elim (cases_Bool (test (get_or table.entries k d))) [
  | inl holds ↦ elim (cases_lt k place) [
    | inl before ↦ cc (lawful.once k place d before within, collide _ _ passes holds)
    | inr after ↦ cc (lawful.once place k d (omega arith) inside, collide _ _ holds passes)
  ]
  | inr fails ↦ fails
]

pub host_alone : (table : Bindings) (side : Side) (host place k : ℕ) (d : Binding) → IsLawful table → place < length table.entries
    → k < length table.entries → k ≢ place → is_of_host side host (get_or table.entries place d) ≡ true
    → is_of_host side host (get_or table.entries k d) ≡ false
host_alone table side host = alone table (is_of_host side host) (same_host side host)

pub alias_alone : (table : Bindings) (side : Side) (alias place k : ℕ) (d : Binding) → IsLawful table → place < length table.entries
    → k < length table.entries → k ≢ place → is_of_alias side alias (get_or table.entries place d) ≡ true
    → is_of_alias side alias (get_or table.entries k d) ≡ false
alias_alone table side alias = alone table (is_of_alias side alias) (same_alias side alias)

-- the binding of an alias is found by its host
pub host_found : (table : Bindings) (side : Side) (alias host : Addr) (d : Binding) → IsLawful table
    → (found : Finds (λ binding. binding.host) (is_of_alias side alias.0) table.entries d host) → find (is_of_host (other side) host.0) table.entries
    ≡ Some (get_or table.entries found.place d)
host_found table side alias host d lawful found =
    let binding = get_or table.entries found.place d in
    let parts = and_parts (same_side binding.side (other side)) (binding.alias.0 == alias.0) found.passes in
    let within = found.within in
    let passes : is_of_host (other side) host.0 binding ≡ true = and_from _ _ parts.0 (rw found.gives (eq-eqb host.0 host.0 refl)) in
    find_only (is_of_host (other side) host.0) table.entries found.place d within passes
    (λ k less. host_alone table (other side) host.0 found.place k d lawful within (omega arith) (omega arith) passes)

-- ## The binding through which an address crosses

pub by_alias : (table : Bindings) (side : Side) (alias host : Addr) → IsLawful table → host_of side alias table.entries ≡ Some host
    → find (is_of_host (other side) host.0) table.entries ≡ find (is_of_alias side alias.0) table.entries
by_alias table side alias host lawful known =
    let d : Binding = record { side = side; host = host; alias = alias; until = record { 0 = 0 }; fixed = false } in
    let found = finds (λ binding. binding.host) (is_of_alias side alias.0) table.entries d host known in
    let within = found.within in
    host_found table side alias host d lawful found
    ∙ sym (find_only (is_of_alias side alias.0) table.entries found.place d within found.passes
    (λ k less. alias_alone table side alias.0 found.place k d lawful within (omega arith) (omega arith) found.passes))

same_through : (from_pool : Bool) (side : Side) (address : Addr) (one two : Binding) → is_through from_pool side address one ≡ true
    → is_through from_pool side address two ≡ true → collides one two ≡ true
same_through true side address = same_alias side address.0
same_through false side address = same_host side address.0

own_host : (binding : Binding) → is_of_host binding.side binding.host.0 binding ≡ true
own_host binding = and_from _ _ (same_side-itself binding.side) (eq-eqb binding.host.0 binding.host.0 refl)

of_same_pair : (one two binding : Binding) → IsSamePair one two → is_of_host one.side one.host.0 binding ≡ is_of_host two.side two.host.0 binding
of_same_pair one two binding same = ap (λ (s : Side). is_of_host s one.host.0 binding) same.side
    ∙ ap (λ (host : Addr). is_of_host two.side host.0 binding) same.host

-- it is found by its own host
pub through_found : (table : Bindings) (from_pool : Bool) (side : Side) (address : Addr) (binding : Binding) → IsLawful table
    → find (is_through from_pool side address) table.entries ≡ Some binding → find (is_of_host binding.side binding.host.0) table.entries
    ≡ Some binding
through_found table from_pool side address binding lawful known =
    let found = finds (λ one. one) (is_through from_pool side address) table.entries binding binding (ap (option_map (λ one. one)) known) in
    let within = found.within in
    let passes : is_of_host binding.side binding.host.0 (get_or table.entries found.place binding) ≡ true = rw found.gives (own_host binding) in
    find_only (is_of_host binding.side binding.host.0) table.entries found.place binding within passes
    (λ k less. host_alone table binding.side binding.host.0 found.place k binding lawful within (omega arith) (omega arith) passes)
    ∙ ap (λ (one : Binding). Some one) found.gives

-- to put it, lasting longer, in the place of that of its host is to extend it
through_extended : (table : Bindings) (from_pool : Bool) (side : Side) (address : Addr) (until : Moment) (binding : Binding) → IsLawful table
    → find (is_through from_pool side address) table.entries ≡ Some binding → map (replaced (lasting until binding)) table.entries
    ≡ map (extend_through from_pool side address until) table.entries
through_extended table from_pool side address until binding lawful known =
    let entries = table.entries in
    let test = is_through from_pool side address in
    let later = lasting until binding in
    let pair = lasting_pair until binding in
    let extend = extend_through from_pool side address until in
    let found = finds (λ one. one) test entries binding binding (ap (option_map (λ one. one)) known) in
    let place = found.place in
    let within = found.within in
    let own : is_of_host later.side later.host.0 binding ≡ true = of_same_pair later binding binding pair ∙ own_host binding in
    let passes : test binding ≡ true = ap test (sym found.gives) ∙ found.passes in
    let here : replaced later binding ≡ extend binding = rw (own, passes) refl in
    let others : (k : ℕ) → k < length entries → k ≢ place → replaced later (get_or entries k binding) ≡ extend (get_or entries k binding) =
    λ k inside differs.
    let host = of_same_pair later binding (get_or entries k binding) pair
    ∙ host_alone table binding.side binding.host.0 place k binding lawful within inside differs (rw found.gives (own_host binding)) in
    let fails = alone table test (same_through from_pool side address) place k binding lawful within inside differs found.passes in
    rw (host, fails) refl in
    same_lists (map (replaced later) entries) (map extend entries) (length-map entries (replaced later) ∙ sym (length-map entries extend))
    (λ k d less.
    let inside : k < length entries = omega (arith, length-map entries (replaced later)) in
    get_or-map (replaced later) entries k binding d inside
    ∙ elim (cases_eq k place) [
      | inl same ↦ let is : get_or entries k binding ≡ binding = ap (λ (j : ℕ). get_or entries j binding) same ∙ found.gives in rw is here
      | inr differs ↦ others k inside differs
    ]
    ∙ sym (get_or-map extend entries k binding d inside))

-- the row of a binding is found by one of the same host
pub row_found : (entries : List Binding) (rows : List (Row Binding)) (binding one : Binding) → rows ≡ map filed entries → IsSamePair one binding
    → find (is_of_host binding.side binding.host.0) entries ≡ Some binding → row_of (filed one).key rows ≡ Some (filed binding)
row_found entries rows binding one kept pair found =
    ap (λ (s : Side). row_of (number_of s one.host.0) rows) pair.side ∙ ap (λ (host : Addr). row_of (number_of binding.side host.0) rows) pair.host
    ∙ ap (row_of (filed binding).key) kept ∙ found_filed binding.side binding.host.0 entries ∙ ap (option_map filed) found

pub rows_extended : (table : Bindings) (from_pool : Bool) (side : Side) (address : Addr) (until : Moment) (binding : Binding) (row : Row Binding)
    (rows : List (Row Binding)) → IsLawful table → find (is_through from_pool side address) table.entries ≡ Some binding
    → row ≡ filed (lasting until binding) → rows ≡ map filed table.entries
    → with_row row rows ≡ map filed (map (extend_through from_pool side address until) table.entries)
rows_extended table from_pool side address until binding row rows lawful known is kept =
    ap (λ (one : Row Binding). with_row one rows) is ∙ ap (with_row (filed (lasting until binding))) kept
    ∙ with_filed (lasting until binding) table.entries ∙ ap (map filed) (through_extended table from_pool side address until binding lawful known)

-- where it lasts already, nothing changes
pub through_same : (table : Bindings) (from_pool : Bool) (side : Side) (address : Addr) (until : Moment) (binding : Binding) → IsLawful table
    → find (is_through from_pool side address) table.entries ≡ Some binding → lasts until binding ≡ true
    → map (extend_through from_pool side address until) table.entries ≡ table.entries
through_same table from_pool side address until binding lawful known lasts =
    let entries = table.entries in
    let test = is_through from_pool side address in
    let extend = extend_through from_pool side address until in
    let found = finds (λ one. one) test entries binding binding (ap (option_map (λ one. one)) known) in
    let passes : test binding ≡ true = ap test (sym found.gives) ∙ found.passes in
    let here : extend binding ≡ binding = rw passes (lasting_same until binding lasts) in
    same_lists (map extend entries) entries (length-map entries extend) (λ k d less.
    let inside : k < length entries = omega (arith, length-map entries extend) in
    let same : extend (get_or entries k binding) ≡ get_or entries k binding = elim (cases_eq k found.place) [
      | inl at ↦ let is : get_or entries k binding ≡ binding = ap (λ (j : ℕ). get_or entries j binding) at ∙ found.gives in rw is here
      | inr differs ↦ let fails = alone table test (same_through from_pool side address) found.place k binding lawful found.within inside differs
          found.passes in rw fails refl
    ] in
    get_or-map extend entries k binding d inside ∙ same ∙ get_or_default entries k binding d inside)

-- where nothing passes, nothing changes
pub none_through : (from_pool : Bool) (side : Side) (address : Addr) (until : Moment) (entries : List Binding)
    → find (is_through from_pool side address) entries ≡ None → map (extend_through from_pool side address until) entries ≡ entries
none_through from_pool side address until [] none = refl
none_through from_pool side address until (one ∷ rest) none = elim (cases_Bool (is_through from_pool side address one)) [
  | inl passes ↦ cc (rw passes at none)
  | inr fails ↦ rw fails (ap (λ more. one ∷ more) (none_through from_pool side address until rest (rw fails at none)))
]

-- to extend by the row of the binding through which an address crosses, unless it is fixed, is to extend it
pub through_moving : (table : Bindings) (from_pool : Bool) (side : Side) (address : Addr) (until : Moment) → IsLawful table → (found : Option Binding)
    → find (is_through from_pool side address) table.entries ≡ found
    → extended_by (option_map filed (option_and_then unless_fixed found)) until table.entries ≡ map (extend_through from_pool side address until)
    table.entries
through_moving table from_pool side address until lawful None known = sym (none_through from_pool side address until table.entries known)
through_moving table from_pool side address until lawful (Some binding) known = chosen binding.fixed refl
  where
    chosen : (test : Bool) → binding.fixed ≡ test → extended_by (option_map filed (if test then None else Some binding)) until table.entries
        ≡ map (extend_through from_pool side address until) table.entries
    chosen true fixed = sym (through_same table from_pool side address until binding lawful known (rw fixed refl))
    chosen false fixed = sym
        (through_extended table false binding.side binding.host until binding lawful
        (through_found table from_pool side address binding lawful known)) ∙ through_extended table from_pool side address until binding lawful known
