-- The places that a fragment covers.
use Rattle.std.proofs.Common.{◌≡◌, ℕ, ◌+◌, ◌-◌, ◌<◌, ◌≤◌, Bool, true, false, ◌&&◌, not, ltb, cond, List, ◌++◌, take, drop, length, get_or, Option, Some, None, is_some, refl, sym, ap, ◌∙◌, arith, take_at, drop_at}
use Rattle.std.specs.Option.{option_or}
use Rattle.std.proofs.lemmas.Bool.{lt-ltb, le-ltb, le-leb, lt-leb, eq-eqb}
use Rattle.frag_join.specs.Prelude.{any_below, count_below, Fragment, end_of, covers, octet_in, Coverage, octet_of, are_unlike, header_told, header_held}
use Rattle.frag_join.proofs.PlaceLemmas.{none-any, none-count}

pub covers-before : (f : Fragment) (place : ℕ) → place < f.start → covers f place ≡ false
covers-before f place below = ap (λ b. b && ltb place (end_of f)) (lt-leb f.start place below)

pub covers-behind : (f : Fragment) (place : ℕ) → end_of f ≤ place → covers f place ≡ false
covers-behind f place past = ap (λ b. b && ltb place (end_of f)) (le-leb f.start place (omega arith)) ∙ le-ltb place (end_of f) past

pub covers-inside : (f : Fragment) (place : ℕ) → f.start ≤ place → place < end_of f → covers f place ≡ true
covers-inside f place from below = ap (λ b. b && ltb place (end_of f)) (le-leb f.start place from) ∙ lt-ltb place (end_of f) below

pub octet-outside : (f : Fragment) (place : ℕ) → covers f place ≡ false → octet_in f place ≡ None
octet-outside f place out = ap (λ b. cond b (Some (get_or f.payload (place - f.start) 0)) None) out

pub octet-covered : (f : Fragment) (place : ℕ) → covers f place ≡ true → octet_in f place ≡ Some (get_or f.payload (place - f.start) 0)
octet-covered f place out = ap (λ b. cond b (Some (get_or f.payload (place - f.start) 0)) None) out

unlike-none : (o : Option ℕ) → are_unlike o None ≡ false
unlike-none None = refl
unlike-none (Some x) = refl

-- no place before the fragment is unlike, or new
pub unlike-before : (known : Coverage) (f : Fragment) (start : ℕ) → start ≡ f.start
    → any_below (λ place. are_unlike (octet_of known place) (octet_in f place)) start ≡ false
unlike-before known f start is =
    none-any (λ place. are_unlike (octet_of known place) (octet_in f place)) start
    (λ place below. ap (are_unlike (octet_of known place)) (octet-outside f place (covers-before f place (omega arith)))
    ∙ unlike-none (octet_of known place))

pub fresh-before : (known : Coverage) (f : Fragment) (start : ℕ) → start ≡ f.start
    → count_below (λ place. covers f place && not (is_some (octet_of known place))) start ≡ 0
fresh-before known f start is =
    none-count (λ place. covers f place && not (is_some (octet_of known place))) start
    (λ place below. ap (λ c. c && not (is_some (octet_of known place))) (covers-before f place (omega arith)))

-- ## Its header is put at the front

pub header-put : (headed : Bool) (old new header : List ℕ) (f : Fragment) → headed ≡ false → f.start ≡ 0 → header ≡ f.header → length header ≡ 20
    → new ≡ header ++ drop (0 + length header) old → Some (take 20 new) ≡ option_or (header_held headed old) (header_told f)
header-put headed old new header f none first is long put =
    ap Some (ap (take 20) put ∙ take_at header (drop (0 + length header) old) 20 long ∙ is)
    ∙ sym (ap (λ h. option_or (cond h (Some (take 20 old)) None) (header_told f)) none
    ∙ ap (λ b. cond b (Some f.header) None) (eq-eqb f.start 0 first))

pub header-rest : (old new header : List ℕ) → length header ≡ 20 → new ≡ header ++ drop (0 + length header) old → drop 20 new ≡ drop 20 old
header-rest old new header long put =
    let count : 0 + length header ≡ 20 = omega arith in
    ap (drop 20) put ∙ drop_at header (drop (0 + length header) old) 20 long ∙ ap (λ n. drop n old) count

pub front-put : (old new header : List ℕ) → length header ≡ 20 → new ≡ header ++ drop (0 + length header) old → take 20 new ≡ header
front-put old new header long put = ap (take 20) put ∙ take_at header (drop (0 + length header) old) 20 long
