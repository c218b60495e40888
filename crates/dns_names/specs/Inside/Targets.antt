-- The entries of the suffixes that were written.
use Rattle.std.specs.Prelude.{◌≡◌, ℕ, ◌<◌, List, [], ◌∷◌, ◌++◌, Option, Some, None, cond}
use Rattle.std.specs.Str.{bytes_eq}
use Rattle.std.specs.List.{AllByRecursion}
use Rattle.dns_names.specs.declared.suffix.Suffix.{Suffix}
use Rattle.dns_names.specs.Inside.Ends.{key}
use Rattle.dns_names.specs.Spelling.{Start}
use Rattle.dns_names.specs.Inside.Writers.{place_in, starts_in}

-- no entry, or one
abbrev pub one_at_most : Option (Suffix × ℕ) → List (Suffix × ℕ)
one_at_most None = []
one_at_most (Some entry) = entry ∷ []

-- what stands behind each first label has a place below an end
abbrev pub AreBelow : ℕ → List (Suffix × ℕ) → Type 0
AreBelow end entries = AllByRecursion (λ e. e.0.behind < end) entries

-- and a place above another one
abbrev pub AreAbove : ℕ → List (Suffix × ℕ) → Type 0
AreAbove start entries = AllByRecursion (λ e. start < e.0.behind) entries

-- entries in the order of the places behind their first labels, no two of which are the same
abbrev pub Rises : List (Suffix × ℕ) → Type 0
Rises [] = Unit
Rises (e ∷ es) = AreAbove e.0.behind es × Rises es

-- a start lies below a place
abbrev pub IsBelow : ℕ → Start → Type 0
IsBelow place s = s.place < place

-- a suffix that wasn't there came in with a place: it is found there, and its start comes last if the place is the highest
pub record Enters (s : Suffix) (place : ℕ) (old new : List (Suffix × ℕ)) : Type 0 where
  pub places : place_in old (key s) ≡ None → (k : List ℕ) → place_in new k ≡ cond (bytes_eq (key s) k) (Some place) (place_in old k)
  pub starts : place_in old (key s) ≡ None → AllByRecursion (IsBelow place) (starts_in old)
      → starts_in new ≡ starts_in old ++ record { place = place; octets = s.octets.now } ∷ []
