-- What a list of fragments tells.
use Rattle.std.proofs.Common.{◌≡◌, ℕ, ◌<◌, ◌≤◌, max, List, [], ◌∷◌, ◌++◌, length, Option, Some, None, refl, sym, ap, ◌∙◌, arith, ◌⊎◌, inl, inr}
use Rattle.std.specs.Option.{option_or}
use Rattle.std.proofs.lemmas.Bool.{cases_lt}
use Rattle.gate_base.proofs.Options.{or_none}
use Rattle.frag_join.specs.Prelude.{table, Fragment, end_of, octet_in, octet_at, reach_of, end_by, end_told, header_by, header_told, known_by, octet_of, added}
use Rattle.frag_join.proofs.PlaceLemmas.{length-table, at-table, past-table, same-tables}
use Rattle.frag_join.proofs.FragmentLemmas.{covers-behind, octet-outside}

or-or : {X : Type 0} (a b c : Option X) → option_or a (option_or b c) ≡ option_or (option_or a b) c
or-or None b c = refl
or-or (Some x) b c = refl

-- ## One fragment more

pub octet_at-push : (fragments : List Fragment) (f : Fragment) (place : ℕ)
    → octet_at (fragments ++ f ∷ []) place ≡ option_or (octet_at fragments place) (octet_in f place)
octet_at-push [] f place = or_none (octet_in f place)
octet_at-push (g ∷ others) f place =
    ap (option_or (octet_in g place)) (octet_at-push others f place) ∙ or-or (octet_in g place) (octet_at others place) (octet_in f place)

reach_of-push : (fragments : List Fragment) (f : Fragment) → reach_of (fragments ++ f ∷ []) ≡ max (reach_of fragments) (end_of f)
reach_of-push [] f = omega arith
reach_of-push (g ∷ others) f = omega (arith, reach_of-push others f)

pub end_by-push : (fragments : List Fragment) (f : Fragment) → end_by (fragments ++ f ∷ []) ≡ option_or (end_by fragments) (end_told f)
end_by-push [] f = or_none (end_told f)
end_by-push (g ∷ others) f = ap (option_or (end_told g)) (end_by-push others f) ∙ or-or (end_told g) (end_by others) (end_told f)

header_by-push : (fragments : List Fragment) (f : Fragment) → header_by (fragments ++ f ∷ []) ≡ option_or (header_by fragments) (header_told f)
header_by-push [] f = or_none (header_told f)
header_by-push (g ∷ others) f = ap (option_or (header_told g)) (header_by-push others f) ∙ or-or (header_told g) (header_by others) (header_told f)

past-reach : (fragments : List Fragment) (place : ℕ) → reach_of fragments ≤ place → octet_at fragments place ≡ None
past-reach [] place past = refl
past-reach (g ∷ others) place past =
    ap (λ o. option_or o (octet_at others place)) (octet-outside g place (covers-behind g place (omega arith)))
    ∙ past-reach others place (omega arith)

known_at_place : (fragments : List Fragment) (place : ℕ) → (place < reach_of fragments) ⊎ (reach_of fragments ≤ place)
    → octet_of (known_by fragments) place ≡ octet_at fragments place
known_at_place fragments place (inl below) = at-table (octet_at fragments) (reach_of fragments) place None below
known_at_place fragments place (inr past) = past-table (octet_at fragments) (reach_of fragments) place None past
    ∙ sym (past-reach fragments place past)

-- the octet that is known at a place is that of the fragments
pub octet_of-known : (fragments : List Fragment) (place : ℕ) → octet_of (known_by fragments) place ≡ octet_at fragments place
octet_of-known fragments place = known_at_place fragments place (cases_lt place (reach_of fragments))

-- what they tell with one more is determined by what they tell without it
pub known-push : (fragments : List Fragment) (f : Fragment) → known_by (fragments ++ f ∷ []) ≡ added (known_by fragments) f
known-push fragments f =
    let at : ℕ → Option ℕ = λ place. option_or (octet_of (known_by fragments) place) (octet_in f place) in
    let places : table (octet_at (fragments ++ f ∷ [])) (reach_of (fragments ++ f ∷ []))
    ≡ table at (max (length (known_by fragments).places) (end_of f)) =
    same-tables (octet_at (fragments ++ f ∷ [])) at (reach_of (fragments ++ f ∷ [])) None
    (λ place below. octet_at-push fragments f place ∙ ap (λ o. option_or o (octet_in f place)) (sym (octet_of-known fragments place)))
    ∙ ap (table at) (reach_of-push fragments f ∙ ap (λ n. max n (end_of f)) (sym (length-table (octet_at fragments) (reach_of fragments)))) in
    λ i. record { places = places i; known_end = end_by-push fragments f i; header = header_by-push fragments f i }
