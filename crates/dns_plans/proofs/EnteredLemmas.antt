-- Lists into which addresses are entered.
use Rattle.std.proofs.Common.{zero, suc, Some, ◌≡◌, ◌≤◌, ◌<◌, ◌+◌, ℕ, Bool, true, false, List, [], ◌∷◌, ◌++◌, length, take, drop, refl, sym, ◌∙◌, ap, subst, arith, inl, inr, append_assoc, map, Option, ◌==◌, ◌||◌, nat_lt}
use Rattle.std.specs.List.{list_any, slice_get, slice_index_or}
use Rattle.std.proofs.lemmas.Bool.{cases_Bool, lt-ltb}
use Rattle.std.proofs.lemmas.List.{append-nil, length-append, length-map, map-append, take-append-drop}
use Rattle.std.proofs.lemmas.List.Folds.{list_any-append}
use Rattle.std.proofs.lemmas.List.Sums.{fold-append}
use Rattle.std.proofs.lemmas.Option.{slice_get_within}
use Rattle.gate_base.specs.declared.address.Addr.{Addr}
use Rattle.dialogue.specs.Prelude.{Entry, is_of, is_listed}
use Rattle.gate_model.specs.Prelude.{enter, entered}
use Rattle.dns_plans.specs.Prelude.{beside, enter_one, entered_all}

-- entering addresses beside what they are called is entering them by it
pub entered-beside : (called : Addr → Option Addr) (es : List Entry) (names : List Addr)
    → entered_all es (beside called names) ≡ entered called es names
entered-beside called es [] = refl
entered-beside called es (name ∷ names) = entered-beside called (enter called es name) names

pub list_after : (called : Addr → Option Addr) (es entries : List Entry) (names : List Addr) → entries ≡ beside called names
    → entered_all es entries ≡ entered called es names
list_after called es entries names e = ap (entered_all es) e ∙ entered-beside called es names

pub one-more : (es : List Entry) (one : Entry) → length es ≤ length (enter_one es one)
one-more es one =
    elim (cases_Bool (is_listed es one.0.0)) [
      | inl e ↦ rw e (omega arith)
      | inr e ↦ rw e (omega (arith, length-append es (one ∷ [])))
    ]

-- no list gets shorter
pub all-more : (es named : List Entry) → length es ≤ length (entered_all es named)
all-more es [] = omega arith
all-more es (one ∷ named) = omega (arith, one-more es one, all-more (enter_one es one) named)

one_grown : (es : List Entry) (one : Entry) → (more : List Entry) × (enter_one es one ≡ es ++ more)
one_grown es one =
    elim (cases_Bool (is_listed es one.0.0)) [
      | inl e ↦ ([], rw e (sym (append-nil es)))
      | inr e ↦ (one ∷ [], rw e refl)
    ]

-- a list that grows keeps its front
pub all_grown : (es named : List Entry) → (more : List Entry) × (entered_all es named ≡ es ++ more)
all_grown es [] = ([], sym (append-nil es))
all_grown es (one ∷ named) =
    let a = one_grown es one in
    let b = all_grown (enter_one es one) named in
    (a.0 ++ b.0, b.1 ∙ ap (λ (xs : List Entry). xs ++ b.0) a.1 ∙ append_assoc es a.0 b.0)

new-more : (es : List Entry) (one : Entry) → is_listed es one.0.0 ≡ false → length (enter_one es one) ≡ length es + 1
new-more es one e = rw e (length-append es (one ∷ []) ∙ omega arith)

-- where an entry is still to be entered, there is room for it
pub room_for : (es named rest : List Entry) (one : Entry) (i : ℕ) → drop i named ≡ one ∷ rest → length (entered_all es named) ≤ 256
    → is_listed (entered_all es (take i named)) one.0.0 ≡ false → length (entered_all es (take i named)) < 256
room_for es named rest one i at few new =
    let split : entered_all es named ≡ entered_all (enter_one (entered_all es (take i named)) one) rest =
    ap (entered_all es) (sym (take-append-drop i named)) ∙ fold-append enter_one es (take i named) (drop i named)
    ∙ ap (λ (xs : List Entry). entered_all (entered_all es (take i named)) xs) at in
    omega (
      arith,
      few,
      ap length split,
      all-more (enter_one (entered_all es (take i named)) one) rest,
      new-more (entered_all es (take i named)) one new,
    )

-- an address is entered behind what is new, unless one of both lists has it
pub enters_none : (es new : List Entry) (one : Entry) → (is_listed es one.0.0 || is_listed new one.0.0) ≡ true → enter_one (es ++ new) one ≡ es ++ new
enters_none es new one e = let known : is_listed (es ++ new) one.0.0 ≡ true = list_any-append (is_of one.0.0) es new ∙ e in rw known refl

pub enters_new : (es new : List Entry) (one : Entry) → (is_listed es one.0.0 || is_listed new one.0.0) ≡ false
    → enter_one (es ++ new) one ≡ es ++ (new ++ one ∷ [])
enters_new es new one e = let known : is_listed (es ++ new) one.0.0 ≡ false = list_any-append (is_of one.0.0) es new ∙ e in
    rw known (append_assoc es new (one ∷ []))

-- what stands from a place on, and up to one
pub drop-next : {X : Type 0} (xs : List X) (i : ℕ) (d : X) → i < length xs → drop i xs ≡ slice_index_or xs i d ∷ drop (suc i) xs
drop-next [] i d l = absurd (omega (arith, l))
drop-next (x ∷ xs) zero d l = refl
drop-next (x ∷ xs) (suc i) d l = drop-next xs i d (omega (arith, l))

pub take-next : {X : Type 0} (xs : List X) (i : ℕ) (x : X) → slice_get xs i ≡ Some x → take (i + 1) xs ≡ take i xs ++ x ∷ []
take-next xs i x e = let same : i + 1 ≡ suc i = omega arith in ap (λ (n : ℕ). take n xs) same ∙ go xs i e
  where
    go : {X : Type 0} {x : X} (xs : List X) (i : ℕ) → slice_get xs i ≡ Some x → take (suc i) xs ≡ take i xs ++ x ∷ []
    go {x = x} [] i e = absurd (let l : i < 0 = slice_get_within [] i x e in omega (arith, l))
    go {X} {x} (y ∷ xs) zero e = let same : y ≡ x = (let f : Some y ≡ Some x = e in cc) in subst (λ (z : X). y ∷ [] ≡ z ∷ []) same refl
    go {X} {x} (y ∷ xs) (suc i) e = ap (λ (zs : List X). y ∷ zs) (go {x = x} xs i e)

-- a list that has too many entries with one has too many with all
pub full_with : (es named rest : List Entry) (one : Entry) (i : ℕ) → drop i named ≡ one ∷ rest
    → 256 < length (enter_one (entered_all es (take i named)) one) → nat_lt 256 (length (entered_all es named)) ≡ true
full_with es named rest one i at full =
    let split : entered_all es named ≡ entered_all (enter_one (entered_all es (take i named)) one) rest =
    ap (entered_all es) (sym (take-append-drop i named)) ∙ fold-append enter_one es (take i named) (drop i named)
    ∙ ap (λ (xs : List Entry). entered_all (entered_all es (take i named)) xs) at in
    lt-ltb 256 (length (entered_all es named)) (omega (arith, full, ap length split, all-more (enter_one (entered_all es (take i named)) one) rest))

abbrev addresses_of : List Entry → List Addr
addresses_of es = map (λ (entry : Entry). entry.0) es

abbrev is_address : ℕ → Addr → Bool
is_address number address = address.0 == number

listed-by : (es : List Entry) (number : ℕ) → is_listed es number ≡ list_any (is_address number) (addresses_of es)
listed-by [] number = refl
listed-by (e ∷ es) number =
    elim (cases_Bool (is_of number e)) [
      | inl t ↦ rw t refl
      | inr f ↦ rw f (listed-by es number)
    ]

-- which addresses a list has afterwards doesn't depend on what they are called
one_alike : (called : Addr → Option Addr) (es fs : List Entry) (one : Entry) → addresses_of es ≡ addresses_of fs
    → addresses_of (enter_one es one) ≡ addresses_of (enter called fs one.0)
one_alike called es fs one same =
    let known : is_listed fs one.0.0 ≡ is_listed es one.0.0 = listed-by fs one.0.0 ∙ ap (list_any (is_address one.0.0)) (sym same)
    ∙ sym (listed-by es one.0.0) in
    elim (cases_Bool (is_listed es one.0.0)) [
      | inl e ↦ let f : is_listed fs one.0.0 ≡ true = known ∙ e in rw (e, f) same
      | inr e ↦ let f : is_listed fs one.0.0 ≡ false = known ∙ e in
          rw (e, f) (map-append _ es (one ∷ []) ∙ ap (λ (xs : List Addr). xs ++ one.0 ∷ []) same ∙ sym (map-append _ fs ((one.0, called one.0) ∷ [])))
    ]

all_alike : (called : Addr → Option Addr) (es fs named : List Entry) → addresses_of es ≡ addresses_of fs
    → addresses_of (entered_all es named) ≡ addresses_of (entered called fs (addresses_of named))
all_alike called es fs [] same = same
all_alike called es fs (one ∷ named) same = all_alike called (enter_one es one) (enter called fs one.0) named (one_alike called es fs one same)

-- nor does how many they are
pub same_count : (called : Addr → Option Addr) (es named : List Entry) (names : List Addr) → addresses_of named ≡ names
    → length (entered_all es named) ≡ length (entered called es names)
same_count called es named names are =
    sym (length-map (entered_all es named) _)
    ∙ ap length (all_alike called es es named refl ∙ ap (λ (xs : List Addr). addresses_of (entered called es xs)) are)
    ∙ length-map (entered called es names) _
