-- The longest suffix of a name that was written already.
use Rattle.std.specs.Prelude.{◌≡◌, ◌⊎◌, ℕ, zero, suc, ◌<◌, ◌≤◌, nat_lt, if◌then◌else◌, List, [], ◌∷◌, length, Option, Some, None}
use Rattle.dns_names.specs.Inside.Octets.{behind}
use Rattle.dns_names.specs.declared.ending.Edge.{Edge}
use Rattle.dns_names.specs.Spelling.{Start, found, pointer}
use Rattle.dns_names.specs.declared.TheConstants.{POINTED}

-- octets without so many labels at the front
abbrev pub skipped : ℕ → List ℕ → List ℕ
skipped zero octets = octets
skipped (suc n) octets = skipped n (behind octets)

-- a label start has these octets
abbrev pub IsKept : List Start → List ℕ → Type 0
IsKept starts octets = (place : ℕ) × (found starts octets ≡ Some place)

-- nothing is left, or a label start has it
abbrev pub Ends : List Start → List ℕ → Type 0
Ends starts octets = (octets ≡ []) ⊎ IsKept starts octets

-- Where octets are kept, those behind their first label are kept too. The edge may be an exception: it starts below POINTED, and its
-- next label at POINTED or above, where no pointer leads.
pub record IsClosed (starts : List Start) (edge : List ℕ) (limit : ℕ) : Type 0 where
  pub closed : (octets : List ℕ) → IsKept starts octets → (octets ≡ edge) ⊎ Ends starts (behind octets)
  pub kept : Ends starts edge
  pub near : limit < POINTED → edge ≡ []

-- nothing is left, or what is left stands at this place
abbrev pub EndsAt : List Start → List ℕ → Option ℕ → Type 0
EndsAt starts octets None = octets ≡ []
EndsAt starts octets (Some place) = (1 ≤ length octets) × (found starts octets ≡ Some place)

-- Nothing that is left behind fewer labels is kept. What is left behind so many stands at this place. Without a place nothing is left,
-- perhaps already behind fewer labels.
pub record IsLongest (starts : List Start) (name : List ℕ) (count : ℕ) (place : Option ℕ) : Type 0 where
  pub new : (n : ℕ) → n < count → (skipped n name ≡ []) ⊎ (found starts (skipped n name) ≡ None)
  pub some : (n : ℕ) → n < count → skipped n name ≡ [] → place ≡ None
  pub ends : EndsAt starts (skipped count name) place

-- the edge stands at its place, or there is none
abbrev pub IsEdge : List Start → Edge → Type 0
IsEdge starts edge = (edge.octets.now ≡ []) ⊎ (found starts edge.octets.now ≡ Some edge.place)

-- the edge after the label that begins these octets was written from a place to an end
abbrev pub edge_by : List ℕ → List ℕ → ℕ → ℕ → List ℕ
edge_by edge octets place end = if nat_lt place POINTED then if nat_lt end POINTED then edge else octets else edge

-- what ends a name
abbrev pub ending : Option ℕ → List ℕ
ending None = 0 ∷ []
ending (Some place) = pointer place
