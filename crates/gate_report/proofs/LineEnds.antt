-- An event's line tells how many frames went out, and where it ends.
use Rattle.std.proofs.Common.{◌≡◌, ◌≤◌, ◌<◌, ◌^◌, ℕ, List, [], ◌∷◌, ◌++◌, refl, sym, ◌∙◌, ap, subst, arith, append_assoc, codes, decimal}
use Rattle.std.specs.Char.{digit_value}
use Rattle.std.specs.Str.Parse.{AllDigits}
use Rattle.std.proofs.lemmas.Fmt.{decimal_is_IsNumeral, decimal_injective}
use Rattle.std.proofs.lemmas.List.{append_cancel_left}
use Rattle.verdicts.specs.declared.verdict.Verdict.{Verdict}
use Rattle.gate_base.specs.declared.side.Side.{Side}
use Rattle.gate_base.specs.Prelude.{name_of}
use Rattle.verdicts.specs.Prelude.{verdict_name}
use Rattle.gate_settings.specs.declared.settings.ReportForm.{ReportForm}
use Rattle.gate_settings.specs.declared.settings.ReportForm.TheVariants.{Text, Json}
use Rattle.gate_report.specs.Lines.{text_front, event_text, json_front, event_json, line_octets, front_octets, event_line}

-- what stands in front of a mark that is no digit
record IsSplit (xs ys r q : List ℕ) : Type 0 where
  front : xs ≡ ys
  rest : r ≡ q

mark_is_no_digit : (x mark : ℕ) → digit_value x < 10 → 10 ≤ digit_value mark → mark ≡ x → ⊥
mark_is_no_digit x mark digit none e = let f : digit_value mark < 10 = subst (λ n. digit_value n < 10) (sym e) digit in omega (arith, f, none)

split : (mark : ℕ) (xs ys r q : List ℕ) → 10 ≤ digit_value mark → AllDigits 10 xs → AllDigits 10 ys → xs ++ mark ∷ r ≡ ys ++ mark ∷ q
    → IsSplit xs ys r q
split mark [] [] r q none h k e = record { front = refl; rest = cc }
split mark [] (y ∷ ys) r q none h k e = absurd (mark_is_no_digit y mark k.0 none cc)
split mark (x ∷ xs) [] r q none h k e = absurd (mark_is_no_digit x mark h.0 none (let f : x ≡ mark = cc in sym f))
split mark (x ∷ xs) (y ∷ ys) r q none h k e =
    let first : x ≡ y = cc in
    let rest = split mark xs ys r q none h.1 k.1 cc in
    record { front = ap (λ (z : ℕ). z ∷ xs) first ∙ ap (λ (zs : List ℕ). y ∷ zs) rest.front; rest = rest.rest }

all_digits : (n : ℕ) → n < 2 ^ 32 → AllDigits 10 (decimal n)
all_digits n small = (decimal_is_IsNumeral n (omega (arith, small))).0.1

-- the number and what follows it
pub record IsSame (n m : ℕ) (r q : List ℕ) : Type 0 where
  pub number : n ≡ m
  pub rest : r ≡ q

numbers_same : (front : List ℕ) (mark n m : ℕ) (r q : List ℕ) → 10 ≤ digit_value mark → n < 2 ^ 32 → m < 2 ^ 32
    → front ++ (decimal n ++ mark ∷ r) ≡ front ++ (decimal m ++ mark ∷ q) → IsSame n m r q
numbers_same front mark n m r q none small little e =
    let apart =
    split mark (decimal n) (decimal m) r q none (all_digits n small) (all_digits m little)
    (append_cancel_left front (decimal n ++ mark ∷ r) (decimal m ++ mark ∷ q) e) in
    record { number = decimal_injective n m (omega (arith, small)) (omega (arith, little)) apart.front; rest = apart.rest }

-- in text the number stands in front of the line's end
text_grouped : (front n : List ℕ) (mark : ℕ) (r : List ℕ) → (front ++ n ++ mark ∷ []) ++ r ≡ front ++ (n ++ mark ∷ r)
text_grouped front n mark r = append_assoc (front ++ n) (mark ∷ []) r ∙ append_assoc front n (mark ∷ r)

text_is : (number : ℕ) (side : Side) (moment : ℕ) (v : Verdict) (n : ℕ) (r : List ℕ) → event_text number side moment v n ++ r
    ≡ text_front number side moment v ++ (decimal n ++ 10 ∷ r)
unfolding event_text
text_is number side moment v n r = text_grouped (text_front number side moment v) (decimal n) 10 r

-- in JSON it stands in front of a comma
json_grouped : (a n c m e s g v h r : List ℕ)
    → (a ++ n ++ c ++ m ++ e ++ s ++ g ++ v ++ h) ++ r ≡ a ++ (n ++ (c ++ (m ++ (e ++ (s ++ (g ++ (v ++ (h ++ r))))))))
json_grouped a n c m e s g v h r = simp append_assoc

-- what stands behind the comma
abbrev behind_number : Side → ℕ → Verdict → List ℕ → List ℕ
behind_number side moment v r =
    codes "\"moment\":"
    ++ (decimal moment ++ (codes ",\"side\":\"" ++ (name_of side ++ (codes "\",\"verdict\":\"" ++ (verdict_name v ++ (codes "\"}\n" ++ r))))))

json_is : (number : ℕ) (side : Side) (moment : ℕ) (v : Verdict) (n : ℕ) (r : List ℕ) → event_json number side moment v n ++ r
    ≡ json_front number ++ (decimal n ++ 44 ∷ behind_number side moment v r)
unfolding event_json
json_is number side moment v n r =
    json_grouped (json_front number) (decimal n) (codes ",\"moment\":") (decimal moment)
    (codes ",\"side\":\"") (name_of side) (codes "\",\"verdict\":\"") (verdict_name v) (codes "\"}\n") r

behind_same : (side : Side) (moment : ℕ) (v : Verdict) (r q : List ℕ) → behind_number side moment v r ≡ behind_number side moment v q → r ≡ q
behind_same side moment v r q e =
    append_cancel_left (codes "\"}\n") r q
    (append_cancel_left (verdict_name v) (codes "\"}\n" ++ r) (codes "\"}\n" ++ q)
    (append_cancel_left (codes "\",\"verdict\":\"") (verdict_name v ++ (codes "\"}\n" ++ r)) (verdict_name v ++ (codes "\"}\n" ++ q))
    (append_cancel_left (name_of side)
    (codes "\",\"verdict\":\""
    ++ (verdict_name v ++ (codes "\"}\n" ++ r))) (codes "\",\"verdict\":\"" ++ (verdict_name v ++ (codes "\"}\n" ++ q)))
    (append_cancel_left (codes ",\"side\":\"") (name_of side ++ (codes "\",\"verdict\":\"" ++ (verdict_name v ++ (codes "\"}\n" ++ r))))
    (name_of side ++ (codes "\",\"verdict\":\"" ++ (verdict_name v ++ (codes "\"}\n" ++ q))))
    (append_cancel_left (decimal moment)
    (codes ",\"side\":\"" ++ (name_of side ++ (codes "\",\"verdict\":\"" ++ (verdict_name v ++ (codes "\"}\n" ++ r)))))
    (codes ",\"side\":\"" ++ (name_of side ++ (codes "\",\"verdict\":\"" ++ (verdict_name v ++ (codes "\"}\n" ++ q)))))
    (append_cancel_left (codes "\"moment\":")
    (decimal moment ++ (codes ",\"side\":\"" ++ (name_of side ++ (codes "\",\"verdict\":\"" ++ (verdict_name v ++ (codes "\"}\n" ++ r))))))
    (decimal moment ++ (codes ",\"side\":\"" ++ (name_of side ++ (codes "\",\"verdict\":\"" ++ (verdict_name v ++ (codes "\"}\n" ++ q))))))
    e))))))

-- the line of an event, cut in front of that number and behind it
pub record Cut (form : ReportForm) (number : ℕ) (side : Side) (moment : ℕ) (v : Verdict) : Type 0 where
  pub mark : ℕ
  pub none : 10 ≤ digit_value mark
  pub behind : List ℕ → List ℕ
  pub line : (n : ℕ) (r : List ℕ)
      → line_octets form (event_line number side moment v n) ++ r ≡ front_octets form number side moment v ++ (decimal n ++ mark ∷ behind r)
  pub apart : (r q : List ℕ) → behind r ≡ behind q → r ≡ q

pub cut : (form : ReportForm) (number : ℕ) (side : Side) (moment : ℕ) (v : Verdict) → Cut form number side moment v
cut Text number side moment v = record { mark = 10; none = omega arith; behind = λ r. r; line = text_is number side moment v; apart = λ r q e. e }
cut Json number side moment v =
    record {
      mark = 44;
      none = omega arith;
      behind = behind_number side moment v;
      line = json_is number side moment v;
      apart =
          behind_same side moment v;
    }

pub line_same : (form : ReportForm) (number : ℕ) (side : Side) (moment : ℕ) (v : Verdict) (n m : ℕ) (r q : List ℕ) → n < 2 ^ 32 → m < 2 ^ 32
    → line_octets form (event_line number side moment v n) ++ r ≡ line_octets form (event_line number side moment v m) ++ q → IsSame n m r q
line_same form number side moment v n m r q small little e =
    let c = cut form number side moment v in
    let found =
    numbers_same (front_octets form number side moment v) c.mark n m (c.behind r) (c.behind q) c.none small little
    (sym (c.line n r) ∙ e ∙ c.line m q) in
    record { number = found.number; rest = c.apart r q found.rest }
