-- The line that octets go on with.
use Rattle.std.proofs.Common.{◌≡◌, ◌<◌, ◌≤◌, ◌+◌, ◌-◌, ◌*◌, ◌^◌, ℕ, zero, suc, Bool, true, false, cond, ◌&&◌, ◌==◌, nat_lt, nat_le, List, [], ◌∷◌, ◌++◌, length, min, take, drop, get_or, refl, sym, ap, ◌∙◌, arith, append-nil, length-drop, decimal, take_at, drop_at}
use Rattle.std.specs.Char.{digit_value, is_ascii_digit}
use Rattle.std.specs.Str.Parse.{AllDigits, digits_value_after}
use Rattle.std.proofs.lemmas.Bool.{and_parts, and_from, false≢true, true≢false, eq-eqb, eqb-true, lt-ltb, le-leb, leb-true}
use Rattle.std.proofs.lemmas.Fmt.{decimal_is_IsNumeral, decimal_digit, first_decimal}
use Rattle.std.proofs.lemmas.List.Sums.{common_prefix_len-le}
use Rattle.std.proofs.lemmas.Str.{digit_value_digit}
use Rattle.std.proofs.lemmas.Str.Parse.{digit_from_value}
use Rattle.gate_report.proofs.LineEnds.{cut}
use Rattle.gate_report.specs.Lines.{line_octets, front_octets}
use Rattle.gate_settings.specs.declared.settings.ReportForm.{ReportForm}
use Rattle.file_audit.specs.declared.line.Extent.{Extent}
use Rattle.file_audit.specs.declared.line.LineHead.{LineHead}
use Rattle.file_audit.specs.Inside.Lines.{agreed, agreement, number_after, line_with}

-- ## How far octets agree

abbrev pub same : ℕ → ℕ → Bool
same x y = x == y

agreed_step : (b : Bool) (n m : ℕ) → b ≡ true → n ≡ m → cond b (1 + n) 0 ≡ 1 + m
agreed_step true n m e f = ap (λ (k : ℕ). 1 + k) f
agreed_step false n m e f = absurd (false≢true e)

pub agreed_whole : (xs ys : List ℕ) → agreed xs (xs ++ ys) ≡ length xs
agreed_whole [] ys = refl
agreed_whole (x ∷ xs) ys = let all = agreed_step (same x x) (agreed xs (xs ++ ys)) (length xs) (eq-eqb x x refl) (agreed_whole xs ys) in
    omega (arith, all)

agreed_until : (front : List ℕ) (x y : ℕ) (xs ys : List ℕ) → same x y ≡ false → agreed (front ++ x ∷ xs) (front ++ y ∷ ys) ≡ length front
agreed_until [] x y xs ys e = ap (λ (b : Bool). cond b (1 + agreed xs ys) 0) e
agreed_until (z ∷ front) x y xs ys e =
    let all = agreed_step (same z z) (agreed (front ++ x ∷ xs) (front ++ y ∷ ys)) (length front) (eq-eqb z z refl) (agreed_until front x y xs ys e) in
    omega (arith, all)

-- nothing agrees behind the shorter one
pub agreed_end : (xs ys : List ℕ) (n : ℕ) → n ≡ min (length xs) (length ys) → agreed (drop n xs) (drop n ys) ≡ 0
agreed_end xs ys n e = let bound = common_prefix_len-le same (drop n xs) (drop n ys) in
    omega (arith, bound.0, bound.1, length-drop n xs, length-drop n ys, e)

-- octets that agree with all of a line begin with it
pub begins : (xs ys : List ℕ) → agreed xs ys ≡ length xs → (rest : List ℕ) × (ys ≡ xs ++ rest)
begins [] ys e = (ys, refl)
begins (x ∷ xs) [] e = let none : 0 ≡ length (x ∷ xs) = e in absurd (omega (arith, none))
begins (x ∷ xs) (y ∷ ys) e = by_test (same x y) refl e (λ h. begins xs ys h)
  where
    by_test : (b : Bool) → same x y ≡ b → cond (same x y) (1 + agreed xs ys) 0 ≡ length (x ∷ xs)
        → (agreed xs ys ≡ length xs → (rest : List ℕ) × (ys ≡ xs ++ rest)) → (rest : List ℕ) × (y ∷ ys ≡ x ∷ xs ++ rest)
    by_test true f all on =
        let more : cond true (1 + agreed xs ys) 0 ≡ length (x ∷ xs) = ap (λ (b : Bool). cond b (1 + agreed xs ys) 0) (sym f) ∙ all in
        let others = on (omega (arith, more)) in
        (others.0, ap (λ (z : ℕ). z ∷ ys) (sym (eqb-true x y f)) ∙ ap (λ (zs : List ℕ). x ∷ zs) others.1)
    by_test false f all on =
        let none : cond false (1 + agreed xs ys) 0 ≡ length (x ∷ xs) = ap (λ (b : Bool). cond b (1 + agreed xs ys) 0) (sym f) ∙ all in
        absurd (omega (arith, none))

-- ## The number in front of octets

grows_on : (n : ℕ) (ds : List ℕ) → n ≤ digits_value_after 10 n ds
grows_on n [] = omega arith
grows_on n (d ∷ ds) = omega (arith, grows_on (n * 10 + digit_value d) ds)

no_digit : (c : ℕ) → 10 ≤ digit_value c → is_ascii_digit c ≡ false
no_digit c h = by_test (is_ascii_digit c) refl
  where
    by_test : (b : Bool) → is_ascii_digit c ≡ b → b ≡ false
    by_test false e = refl
    by_test true e =
        let both = and_parts (nat_le 48 c) (nat_le c 57) e in
        let value = digit_value_digit c (leb-true 48 c both.0, leb-true c 57 both.1) in
        absurd (omega (arith, h, value, leb-true c 57 both.1))

a_digit : (c : ℕ) → digit_value c < 10 → is_ascii_digit c ≡ true
a_digit c h = let range = digit_from_value c h in and_from (nat_le 48 c) (nat_le c 57) (le-leb 48 c range.0) (le-leb c 57 range.1)

number_is : (n : ℕ) (ds : List ℕ) (mark : ℕ) (q : List ℕ) → AllDigits 10 ds → 10 ≤ digit_value mark → digits_value_after 10 n ds < 2 ^ 32
    → number_after n (ds ++ mark ∷ q) ≡ digits_value_after 10 n ds
number_is n [] mark q h none small = ap (λ (b : Bool). cond (b && nat_lt n (2 ^ 32)) (number_after (10 * n + (mark - 48)) q) n) (no_digit mark none)
number_is n (d ∷ ds) mark q h none small =
    let range = digit_from_value d h.0 in
    let value = digit_value_digit d range in
    let next : n * 10 + digit_value d ≡ 10 * n + (d - 48) = omega (arith, value, range.0) in
    let below : n < 2 ^ 32 = omega (arith, grows_on (n * 10 + digit_value d) ds, small) in
    let goes : (is_ascii_digit d && nat_lt n (2 ^ 32)) ≡ true =
    and_from (is_ascii_digit d) (nat_lt n (2 ^ 32)) (a_digit d h.0) (lt-ltb n (2 ^ 32) below) in
    ap (λ (b : Bool). cond b (number_after (10 * n + (d - 48)) (ds ++ mark ∷ q)) n) goes
    ∙ ap (λ (k : ℕ). number_after k (ds ++ mark ∷ q)) (sym next) ∙ number_is (n * 10 + digit_value d) ds mark q h.1 none small

-- ## The line of a frame

unlike : (x y : ℕ) → x < y → same x y ≡ false
unlike x y less = by_test (same x y) refl
  where
    by_test : (b : Bool) → same x y ≡ b → b ≡ false
    by_test false e = refl
    by_test true e = let equal = eqb-true x y e in absurd (omega (arith, less, equal))

-- the line that tells no frames agrees up to a number that isn't 0
apart : (front ds : List ℕ) (mark : ℕ) (xs ys : List ℕ) → 48 < get_or ds 0 0
    → agreed (front ++ 48 ∷ mark ∷ xs) (front ++ (ds ++ mark ∷ ys)) ≡ length front
apart front [] mark xs ys first = let none : 48 < 0 = first in absurd (omega (arith, none))
apart front (d ∷ ds) mark xs ys first = agreed_until front 48 d (mark ∷ xs) (ds ++ mark ∷ ys) (unlike 48 d first)

-- so the number that stands there is that of the line with which the octets go on
pub told : (form : ReportForm) (h : LineHead) (m : ℕ) (octets rest : List ℕ) → m < 2 ^ 32 → octets ≡ line_octets form (line_with h m) ++ rest
    → (agreed (line_octets form (line_with h 0)) octets ≡ length (line_octets form (line_with h 0)) → ⊥)
    → number_after 0 (drop (agreed (line_octets form (line_with h 0)) octets) octets) ≡ m
told form h zero octets rest small e other =
    absurd (other (ap (agreed (line_octets form (line_with h 0))) e ∙ agreed_whole (line_octets form (line_with h 0)) rest))
told form h (suc k) octets rest small e other =
    let m : ℕ = suc k in
    let c = cut form h.number h.side h.moment.0 h.verdict in
    let front = front_octets form h.number h.side h.moment.0 h.verdict in
    let none = line_octets form (line_with h 0) in
    let number = decimal_is_IsNumeral m (omega (arith, small)) in
    let there : octets ≡ front ++ (decimal m ++ c.mark ∷ c.behind rest) = e ∙ c.line m rest in
    let zero_line : none ≡ front ++ (48 ∷ c.mark ∷ c.behind []) = sym (append-nil none) ∙ c.line 0 []
    ∙ ap (λ (ds : List ℕ). front ++ (ds ++ c.mark ∷ c.behind [])) (decimal_digit 0 (omega arith)) in
    let extent : agreed none octets ≡ length front =
    ap (λ (xs : List ℕ). agreed xs octets) zero_line ∙ ap (agreed (front ++ (48 ∷ c.mark ∷ c.behind []))) there
    ∙ apart front (decimal m) c.mark (c.behind []) (c.behind rest) (first_decimal m (omega arith) (omega (arith, small))) in
    ap (λ (n : ℕ). number_after 0 (drop n octets)) extent ∙ ap (λ (xs : List ℕ). number_after 0 (drop (length front) xs)) there
    ∙ ap (number_after 0) (drop_at front (decimal m ++ c.mark ∷ c.behind rest) (length front) refl)
    ∙ number_is 0 (decimal m) c.mark (c.behind rest) number.0.1 c.none (omega (arith, number.1, small)) ∙ number.1

-- ## What is found

pub whole : (found : Extent) (line octets : List ℕ) → found ≡ agreement line octets → found.whole ≡ true → (found.count ≡ length line)
    × (take found.count octets ≡ line)
whole found line octets e w =
    let count : found.count ≡ agreed line octets = ap (λ (x : Extent). x.count) e in
    let all : agreed line octets ≡ length line = eqb-true (agreed line octets) (length line) (sym (ap (λ (x : Extent). x.whole) e) ∙ w) in
    let rest = begins line octets all in
    (count ∙ all, ap (take found.count) rest.1 ∙ take_at line rest.0 found.count (sym (count ∙ all)))

pub not_whole : (found : Extent) (line octets : List ℕ) → found ≡ agreement line octets → found.whole ≡ false → agreed line octets ≡ length line → ⊥
not_whole found line octets e w all = true≢false (sym (eq-eqb (agreed line octets) (length line) all) ∙ sym (ap (λ (x : Extent). x.whole) e) ∙ w)

-- octets that go on with a line agree with all of it
pub not_other : (found : Extent) (line octets rest : List ℕ) → found ≡ agreement line octets → found.whole ≡ false → octets ≡ line ++ rest → ⊥
not_other found line octets rest e w goes = not_whole found line octets e w (ap (agreed line) goes ∙ agreed_whole line rest)
