-- Prefixes that are read arc by arc.
use Rattle.std.proofs.Common.{◌≡◌, ℕ, suc, ◌+◌, ◌-◌, ◌*◌, ◌<◌, ◌≤◌, ◌^◌, Bool, true, false, length, nat_le, ◌&&◌, ◌||◌, ◌==◌, List, [], ◌∷◌}
use Rattle.std.proofs.Common.{◌++◌, get_or, Option, Some, None, option_map, Result, Ok, Err, IfOk, refl, ◌∙◌, sym, arith, append_assoc, le-leb}
use Rattle.std.proofs.lemmas.Bool.Decides.{nat_tests}
use Rattle.std.proofs.lemmas.List.Elements.{All-from_get_or}
use Rattle.std.proofs.lemmas.List.Sums.{list_all-from_AllPass}
use Rattle.std.proofs.lemmas.Option.{same_Some}
use Rattle.std.specs.List.{list_all}
use Rattle.gate_base.specs.Prelude.{◌>>=◌, cut_at, is_prefix}
use Rattle.gate_base.specs.declared.rule.TheConstants.{GREATEST_ARC}
use Rattle.gate_base.specs.Address.{number_of}
use Rattle.settings_file.specs.Prefixes.{arc_behind, arc_text, arcs_by, arcs_text}

-- ## An arc, digit by digit

pub no_digits : (number : ℕ) (xs : List ℕ) → length xs ≡ 0 → arc_behind number xs ≡ Some number
unfolding arc_behind
no_digits number [] e = refl
no_digits number (x ∷ xs) e = absurd (omega (arith, e))

pub other_octet : (number x : ℕ) (xs : List ℕ) → number_of (x ∷ []) ≡ None → arc_behind number (x ∷ xs) ≡ None
unfolding arc_behind number_of
other_octet number x xs e = rw e refl

pub above : (number x digit : ℕ) (xs : List ℕ) → number_of (x ∷ []) ≡ Some digit → GREATEST_ARC < 10 * number + digit
    → arc_behind number (x ∷ xs) ≡ None
unfolding arc_behind number_of
above number x digit xs e more = let no : nat_le (10 * number + digit) GREATEST_ARC ≡ false = grind (arith, nat_tests) in rw e (rw no refl)

pub one_digit : (number x digit : ℕ) (xs : List ℕ) → number_of (x ∷ []) ≡ Some digit → 10 * number + digit ≤ GREATEST_ARC
    → arc_behind number (x ∷ xs) ≡ arc_behind (10 * number + digit) xs
unfolding arc_behind number_of
one_digit number x digit xs e fits = let yes : nat_le (10 * number + digit) GREATEST_ARC ≡ true = grind (arith, nat_tests) in rw e (rw yes refl)

-- ## Arc by arc

-- arcs with those of a text behind them
abbrev pub behind : List ℕ → Option (List ℕ) → Option (List ℕ)
behind arcs more = option_map (λ more. arcs ++ more) more

-- arcs with the one of a text behind them
abbrev pub with_one : List ℕ → Option ℕ → Option (List ℕ)
with_one arcs arc = option_map (λ arc. arcs ++ arc ∷ []) arc

pub behind-none : (more : Option (List ℕ)) → behind [] more ≡ more
behind-none None = refl
behind-none (Some more) = refl

one_less : (i : ℕ) (rest : List ℕ) → i < 64 → arcs_text (64 - i) rest ≡ arcs_by (arcs_text (63 - i)) rest (cut_at 46 rest)
unfolding arcs_text
one_less i rest within = let e : 64 - i ≡ suc (63 - i) = omega arith in rw e refl

next : (arc : Option ℕ) (more : Option (List ℕ)) (arcs longer : List ℕ) → Some longer ≡ with_one arcs arc
    → behind longer more ≡ behind arcs (arc >>= (λ arc. more >>= (λ more. Some (arc ∷ more))))
next None more arcs longer h = cc
next (Some arc) None arcs longer h = refl
next (Some arc) (Some more) arcs longer h =
    let e : longer ≡ arcs ++ arc ∷ [] = same_Some _ _ h in
    rw (e, append_assoc) refl

none : (arc : Option ℕ) (more : Option (List ℕ)) (arcs : List ℕ) → None ≡ with_one arcs arc
    → None ≡ behind arcs (arc >>= (λ arc. more >>= (λ more. Some (arc ∷ more))))
none None more arcs h = refl
none (Some arc) more arcs h = cc

last : (arc : Option ℕ) (arcs : List ℕ) → with_one arcs arc ≡ behind arcs (arc >>= (λ arc. Some (arc ∷ [])))
last None arcs = refl
last (Some arc) arcs = refl

pub arcs-next : (i : ℕ) (arcs rest first others longer : List ℕ) → i < 64 → Some (first, others) ≡ cut_at 46 rest
    → Some longer ≡ with_one arcs (arc_text first) → behind longer (arcs_text (64 - (i + 1)) others) ≡ behind arcs (arcs_text (64 - i) rest)
arcs-next i arcs rest first others longer within parts one =
    let e : 64 - (i + 1) ≡ 63 - i = omega arith in
    rw (e, one_less i rest within, sym parts) (next (arc_text first) (arcs_text (63 - i) others) arcs longer one)

pub arcs-none : (i : ℕ) (arcs rest first others : List ℕ) → i < 64 → Some (first, others) ≡ cut_at 46 rest → None ≡ with_one arcs (arc_text first)
    → None ≡ behind arcs (arcs_text (64 - i) rest)
arcs-none i arcs rest first others within parts one =
    rw (one_less i rest within, sym parts) (none (arc_text first) (arcs_text (63 - i) others) arcs one)

pub arcs-last : (i : ℕ) (arcs rest : List ℕ) → i < 64 → None ≡ cut_at 46 rest → with_one arcs (arc_text rest) ≡ behind arcs (arcs_text (64 - i) rest)
arcs-last i arcs rest within parts = rw (one_less i rest within, sym parts) (last (arc_text rest) arcs)

pub arcs-end : (more : ℕ) (arcs rest : List ℕ) → more ≡ 0 → None ≡ behind arcs (arcs_text more rest)
unfolding arcs_text
arcs-end more arcs rest none = rw none refl

-- where a function read something, it is what another equation says
pub if_read : {A B E : Type 0} (view : A → B) (result : Result (Option A) E) (one all : Option B) → IfOk result (λ r. option_map view r ≡ one)
    → one ≡ all → IfOk result (λ r. option_map view r ≡ all)
if_read view (Ok r) one all h e = h ∙ e
if_read view (Err e) one all h is = tt

-- ## A prefix

pub are_arcs : (arcs : List ℕ) → ((k : ℕ) → get_or arcs k 0 < 2 ^ 32) → list_all (λ arc. nat_le arc GREATEST_ARC) arcs ≡ true
are_arcs arcs small =
    list_all-from_AllPass (λ arc. nat_le arc GREATEST_ARC) arcs
    (All-from_get_or (λ arc. nat_le arc GREATEST_ARC ≡ true) arcs 0 (λ k within. let below = small k in grind (arith, nat_tests)))

and_true : (test : Bool) → test ≡ (test && true)
and_true true = refl
and_true false = refl

abbrev can_begin : ℕ → ℕ → Bool
can_begin first second = (nat_le first 1 && nat_le second 39) || (first == 2 && nat_le second 4_294_967_215)

pub prefix_is : (arcs : List ℕ) → 2 ≤ length arcs → length arcs ≤ 64 → ((k : ℕ) → get_or arcs k 0 < 2 ^ 32)
    → can_begin (get_or arcs 0 0) (get_or arcs 1 0) ≡ is_prefix arcs
prefix_is arcs some few small =
    rw (le-leb 2 (length arcs) some, le-leb (length arcs) 64 few, are_arcs arcs small) (and_true (can_begin (get_or arcs 0 0) (get_or arcs 1 0)))
