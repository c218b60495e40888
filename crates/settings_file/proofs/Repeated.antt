-- Statics that collide have the number of a host or of an alias in common.
use Rattle.std.proofs.Common.{◌≡◌, ◌<◌, ◌+◌, ◌==◌, ℕ, nat_lt, Bool, true, false, not, ◌||◌, ◌&&◌, cond, if◌then◌else◌, List, [], ◌∷◌, ◌++◌, length, get_or, take, drop, Some, refl, sym, ◌∙◌, ap, arith, add-one, drop-cons, length-take, suc, ◌⊎◌, inl, inr, nat_cmp, is_eq}
use Rattle.std.specs.BTreeSet.{BTreeSet, contains, Updates}
use Rattle.std.specs.BTreeMap.{is_at}
use Rattle.std.specs.List.{list_any}
use Rattle.std.specs.declared.cmp.Ordering.TheVariants.{Less, Equal, Greater}
use Rattle.std.proofs.Math.Seq.{take-suc}
use Rattle.std.proofs.lemmas.Bool.Decides.{nat_tests}
use Rattle.std.proofs.lemmas.List.Folds.{list_any_more}
use Rattle.gate_base.specs.Prelude.{same_side}
use Rattle.gate_base.specs.declared.side.Side.{Side}
use Rattle.gate_base.specs.declared.side.Side.TheVariants.{Left, Right}
use Rattle.gate_settings.specs.Prelude.{collides}
use Rattle.gate_settings.specs.declared.settings.Fixed.{Fixed}
use Rattle.settings_file.specs.declared.fault.SettingsFault.TheVariants.{StaticRepeated}
use Rattle.settings_file.specs.Accepting.{first_repeated}
use Rattle.settings_file.specs.Inside.Numbers.{number_of, host_number, alias_number}

-- ## What collides

by_numbers : (s t : Side) (a b c d : ℕ)
    → (same_side s t && ((a == b) || (c == d))) ≡ ((number_of s a == number_of t b) || (number_of s c == number_of t d))
by_numbers Left Left a b c d = grind (arith, nat_tests)
by_numbers Left Right a b c d = grind (arith, nat_tests)
by_numbers Right Left a b c d = grind (arith, nat_tests)
by_numbers Right Right a b c d = grind (arith, nat_tests)

joined : (a b c d : Bool) → ((a || b) || (c || d)) ≡ ((a || c) || (b || d))
joined true b c d = refl
joined false true true d = refl
joined false true false d = refl
joined false false c d = refl

any_collides : (fixed : Fixed) (earlier : List Fixed)
    → list_any (collides fixed) earlier
    ≡ (list_any (λ e. host_number e == host_number fixed) earlier || list_any (λ e. alias_number e == alias_number fixed) earlier)
any_collides fixed [] = refl
any_collides fixed (e ∷ es) =
    ap (λ b. b || list_any (collides fixed) es) (by_numbers e.side fixed.side e.host.0 fixed.host.0 e.alias.0 fixed.alias.0)
    ∙ ap (λ b. ((host_number e == host_number fixed) || (alias_number e == alias_number fixed)) || b) (any_collides fixed es)
    ∙ joined (host_number e == host_number fixed) (alias_number e == alias_number fixed) _ _

-- ## Sets of numbers

equal_if : (less same : Bool) → (less && same) ≡ false → is_eq (cond less Less (cond same Equal Greater)) ≡ same
equal_if true true e = cc
equal_if true false e = refl
equal_if false true e = refl
equal_if false false e = refl

is_key : (key q : ℕ) → is_at (nat_cmp key) q ≡ (key == q)
is_key key q = equal_if (nat_lt key q) (key == q) (grind (arith, nat_tests))

true_or : (b c : Bool) → cond b true c ≡ (c || b)
true_or true true = refl
true_or true false = refl
true_or false true = refl
true_or false false = refl

-- the numbers of one static more
pub numbers_more : (number : Fixed → ℕ) (old new : BTreeSet ℕ) (statics : List Fixed) (i : ℕ) (d : Fixed) (key q : ℕ) → i < length statics
    → key ≡ number (get_or statics i d) → Updates nat_cmp old new key true
    → contains nat_cmp old q ≡ list_any (λ fixed. number fixed == q) (take i statics)
    → contains nat_cmp new q ≡ list_any (λ fixed. number fixed == q) (take (i + 1) statics)
numbers_more number old new statics i d key q l is h before =
    h.0 q
    ∙ true_or (is_at (nat_cmp key) q) (contains nat_cmp old q)
    ∙ ap (λ b. b || is_at (nat_cmp key) q) before
    ∙ ap (λ b. list_any (λ fixed. number fixed == q) (take i statics) || b) (is_key key q ∙ ap (λ k. k == q) is)
    ∙ sym (list_any_more (λ fixed. number fixed == q) statics i d l)

-- ## The next static

at_next : (statics : List Fixed) (i : ℕ) (d : Fixed) → i < length statics
    → first_repeated (take i statics) (drop i statics)
    ≡ (if list_any (collides (get_or statics i d)) (take i statics) then Some (StaticRepeated (i + 1)) else first_repeated (take (i + 1) statics)
    (drop (i + 1) statics))
at_next statics i d l =
    let fixed = get_or statics i d in
    let found = list_any (collides fixed) (take i statics) in
    let few : length (take i statics) ≡ i = omega (arith, length-take i statics) in
    let more : take i statics ++ fixed ∷ [] ≡ take (i + 1) statics = sym (take-suc statics i d l) ∙ ap (λ n. take n statics) (sym (add-one i)) in
    ap (first_repeated (take i statics)) (drop-cons statics i d l)
    ∙ ap (λ n. if found then Some (StaticRepeated (n + 1)) else first_repeated (take i statics ++ fixed ∷ []) (drop (suc i) statics)) few
    ∙ ap (λ xs. if found then Some (StaticRepeated (i + 1)) else first_repeated xs (drop (suc i) statics)) more
    ∙ ap (λ n. if found then Some (StaticRepeated (i + 1)) else first_repeated (take (i + 1) statics) (drop n statics)) (sym (add-one i))

-- whether an earlier static has the host's number or the alias's
abbrev pub has_host : List Fixed → ℕ → Fixed → Bool
has_host statics i fixed = list_any (λ e. host_number e == host_number fixed) (take i statics)

abbrev pub has_alias : List Fixed → ℕ → Fixed → Bool
has_alias statics i fixed = list_any (λ e. alias_number e == alias_number fixed) (take i statics)

by_test : (statics : List Fixed) (i : ℕ) (d : Fixed) (b : Bool) → i < length statics
    → (has_host statics i (get_or statics i d) || has_alias statics i (get_or statics i d)) ≡ b → first_repeated (take i statics) (drop i statics)
    ≡ (if b then Some (StaticRepeated (i + 1)) else first_repeated (take (i + 1) statics) (drop (i + 1) statics))
by_test statics i d b l is = at_next statics i d l
    ∙ ap (λ b. if b then Some (StaticRepeated (i + 1)) else first_repeated (take (i + 1) statics) (drop (i + 1) statics))
    (any_collides (get_or statics i d) (take i statics) ∙ is)

pub collides_next : (statics : List Fixed) (i : ℕ) (d : Fixed) (new_host new_alias : Bool) → i < length statics
    → new_host ≡ not (has_host statics i (get_or statics i d)) → new_alias ≡ not (has_alias statics i (get_or statics i d)) → (new_host ≡ false)
    ⊎ ((new_host ≡ true) × (new_alias ≡ false)) → first_repeated (take i statics) (drop i statics) ≡ Some (StaticRepeated (i + 1))
collides_next statics i d new_host new_alias l host alias either = by_test statics i d true l (held _ _ new_host new_alias host alias either)
  where
    held : (a b new_host new_alias : Bool) → new_host ≡ not a → new_alias ≡ not b → (new_host ≡ false) ⊎ ((new_host ≡ true) × (new_alias ≡ false))
        → (a || b) ≡ true
    held true b m n g h e = refl
    held false true m n g h e = refl
    held false false m n g h (inl e) = cc
    held false false m n g h (inr e) = (let no : n ≡ false = e.1 in cc)

pub passes_next : (statics : List Fixed) (i : ℕ) (d : Fixed) (new_host new_alias : Bool) → i < length statics
    → new_host ≡ not (has_host statics i (get_or statics i d)) → new_alias ≡ not (has_alias statics i (get_or statics i d)) → new_host ≡ true
    → new_alias ≡ true → first_repeated (take i statics) (drop i statics) ≡ first_repeated (take (i + 1) statics) (drop (i + 1) statics)
passes_next statics i d new_host new_alias l host alias first second =
    by_test statics i d false l (none _ _ new_host new_alias host alias first second)
  where
    none : (a b new_host new_alias : Bool) → new_host ≡ not a → new_alias ≡ not b → new_host ≡ true → new_alias ≡ true → (a || b) ≡ false
    none false false m n g h e f = refl
    none false true m n g h e f = cc
    none true b m n g h e f = cc
