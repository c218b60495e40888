-- What a writer keeps: a map from suffixes to the places at which they stand.
use Rattle.std.specs.Prelude.{◌≡◌, ℕ, ◌<◌, ◌≤◌, nat_lt, Bool, true, false, cond, if◌then◌else◌, List, [], ◌∷◌, ◌++◌, length, Option, Some, None}
use Rattle.std.specs.Ordering.{nat_cmp}
use Rattle.std.specs.BTreeMap.{is_at}
use Rattle.std.specs.Map.{lookup}
use Rattle.std.specs.List.{AllByRecursion}
use Rattle.std.specs.Str.{bytes_eq}
use Rattle.std.specs.Cmp.Lexicographic.{slice_cmp}
use Rattle.dns_names.specs.Inside.Octets.{behind}
use Rattle.dns_names.specs.Spelling.{Start, Added, found, with_start}
use Rattle.dns_names.specs.Inside.Ends.{key, key_of}
use Rattle.dns_names.specs.declared.suffix.Suffix.{Suffix}
use Rattle.dns_names.specs.declared.TheConstants.{POINTED}

-- a start among others that stand in the order of their places
abbrev pub put_start : Start → List Start → List Start
put_start s [] = s ∷ []
put_start s (t ∷ ts) = if nat_lt s.place t.place then s ∷ t ∷ ts else t ∷ put_start s ts

-- the label starts that a map holds, in the order of their places
abbrev pub starts_in : List (Suffix × ℕ) → List Start
starts_in [] = []
starts_in (e ∷ es) = put_start (record { place = e.1; octets = e.0.octets.now }) (starts_in es)

-- the place that a map holds for a key
abbrev pub place_in : List (Suffix × ℕ) → List ℕ → Option ℕ
place_in entries k = lookup (is_at (λ s. slice_cmp nat_cmp k (key s))) entries

-- octets and label starts stand behind those that stood
abbrev pub GrewBy : List Start → List ℕ → List Start → List ℕ → Type 0
GrewBy known old starts new = (more : Added) × (new ≡ old ++ more.octets) × (starts ≡ known ++ more.starts)

-- it can be pointed to, and lies below an end
abbrev pub IsNear : ℕ → Start → Type 0
IsNear limit s = (s.place < limit) × (s.place < POINTED)

-- what stands for the place of octets in keys: of none 65,535, and of others the lowest of these starts that has them
abbrev pub after_in : List Start → List ℕ → Option ℕ
after_in known [] = Some 65535
after_in known (x ∷ xs) = found known (x ∷ xs)

-- with octets whose rest stands at one of these starts, or is none, a map finds what its starts find
abbrev pub FindsBy : List Start → List (Suffix × ℕ) → Type 0
FindsBy known entries = (octets : List ℕ) (after : ℕ) → 1 ≤ length octets → after_in known (behind octets) ≡ Some after
    → place_in entries (key_of after octets) ≡ found (starts_in entries) octets

-- no two octets are found at one place
abbrev pub HaveOwnPlaces : List Start → Type 0
HaveOwnPlaces starts = (a b : List ℕ) (place : ℕ) → found starts a ≡ Some place → found starts b ≡ Some place → a ≡ b

-- the map finds what its starts find, and they lie below an end
pub record IsIndex (entries : List (Suffix × ℕ)) (limit : ℕ) : Type 0 where
  pub finds : FindsBy (starts_in entries) entries
  pub near : AllByRecursion (IsNear limit) (starts_in entries)
  pub own : HaveOwnPlaces (starts_in entries)

-- as long as an end can be pointed to, no key says that a rest stands there, or behind it
abbrev pub IsFresh : List (Suffix × ℕ) → ℕ → Type 0
IsFresh entries limit = limit < POINTED → (octets : List ℕ) (after : ℕ) → limit ≤ after → after < 65535
    → place_in entries (key_of after octets) ≡ None

-- what is written from an end on is to stand there: with it among the starts, the map finds what its starts find
pub record IsPending (entries : List (Suffix × ℕ)) (rest : List ℕ) (limit : ℕ) : Type 0 where
  pub finds : FindsBy (starts_in entries ++ with_start limit rest []) entries
  pub near : AllByRecursion (IsNear limit) (starts_in entries)
  pub own : HaveOwnPlaces (starts_in entries)
  pub fresh : limit < POINTED → (octets : List ℕ) (after : ℕ) → limit < after → after < 65535 → place_in entries (key_of after octets) ≡ None

-- what stands for the place of the rest of a name: its end's, where that is reached, and else the next one, or 65,534
abbrev pub key_at : Bool → ℕ → Option ℕ → ℕ
key_at true place None = 65535
key_at true place (Some end) = end
key_at false place end = if nat_lt place POINTED then place else 65534

-- a map remembers that a suffix with a key stands at a place, where a pointer can lead there
pub record Remembers (key octets : List ℕ) (place : ℕ) (old new : List (Suffix × ℕ)) : Type 0 where
  pub near : place < POINTED → place_in old key ≡ None → (k : List ℕ) → place_in new k ≡ cond (bytes_eq key k) (Some place) (place_in old k)
  pub starts : place < POINTED → place_in old key ≡ None → AllByRecursion (IsNear place) (starts_in old)
      → starts_in new ≡ starts_in old ++ record { place = place; octets = octets } ∷ []
  pub far : POINTED ≤ place → new ≡ old
