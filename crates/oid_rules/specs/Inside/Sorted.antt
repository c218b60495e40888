-- What only proofs and private contracts need beside `Sorted`.
use Rattle.std.specs.Prelude.{◌≡◌, ℕ, ◌+◌, ◌<◌, ◌≤◌, ◌==◌, Bool, true, false, nat_lt, if◌then◌else◌, List, [], ◌∷◌, length, slice_index_or, Option, Some, None, IfSome, IsSome, IsTrue, All, ◌⊎◌}
use Rattle.std.specs.List.Sorted.{IsPermutation}
use Rattle.gate_base.specs.declared.address.Addr.{Addr}
use Rattle.gate_base.specs.declared.rule.OidRule.{OidRule}
use Rattle.oid_rules.specs.declared.sorted.Compared.TheVariants.{Before, Begins}
use Rattle.oid_rules.specs.declared.sorted.Numbered.{Numbered}
use Rattle.gate_base.specs.Prelude.{is_rule}
use Rattle.oid_rules.specs.Sorted.{compared, before}

-- ## Rules with their places in the list

-- the rules of a list from a place on
abbrev pub numbered : ℕ → List OidRule → List Numbered
numbered place [] = []
numbered place (rule ∷ rules) = record { number = place; rule = rule } ∷ numbered (place + 1) rules

-- the rule at a place
abbrev pub rule_at : List Numbered → ℕ → Numbered
rule_at sorted place = slice_index_or sorted place (record { number = 0; rule = record { prefix = []; skip = 0 } })

-- arcs begin with those of the rule at a place
abbrev pub BeginsAt : List Numbered → List ℕ → ℕ → Type 0
BeginsAt sorted arcs place = compared arcs (rule_at sorted place).rule.prefix ≡ Begins

-- the last of so many rules that arcs begin with
abbrev pub IsLast : ℕ → List Numbered → List ℕ → Option ℕ → Type 0
IsLast count sorted arcs None = (k : ℕ) → k < count → BeginsAt sorted arcs k → ⊥
IsLast count sorted arcs (Some place) = (place < count) × BeginsAt sorted arcs place × ((k : ℕ) → place < k → k < count → BeginsAt sorted arcs k → ⊥)

-- no rule comes before an earlier one
abbrev pub InOrder : List Numbered → Type 0
InOrder sorted = (i j : ℕ) → i ≤ j → j < length sorted → compared (rule_at sorted j).rule.prefix (rule_at sorted i).rule.prefix ≡ Before → ⊥

abbrev pub AllRules : List Numbered → Type 0
AllRules sorted = All (λ one. IsTrue (is_rule one.rule)) sorted

-- for each rule the last one before it that its arcs begin with
abbrev pub AreOuter : List Numbered → List (Option ℕ) → Type 0
AreOuter sorted outer = (k : ℕ) → k < length outer → IsLast k sorted (rule_at sorted k).rule.prefix (slice_index_or outer k None)

-- the rules of a list in order
pub record AreSorted (rules : List OidRule) (sorted : List Numbered) : Type 0 where
  pub moved : IsPermutation (numbered 0 rules) sorted
  pub order : InOrder sorted
  pub all : AllRules sorted

-- ## Halving

-- arcs don't come before the rules below one place and come before those from another one on, and whether they begin with the last one below
pub record Halves (count low high : ℕ) (sorted : List Numbered) (arcs : List ℕ) (begins : Bool) : Type 0 where
  pub below : (k : ℕ) → k < low → compared arcs (rule_at sorted k).rule.prefix ≡ Before → ⊥
  pub above : (k : ℕ) → high ≤ k → k < count → compared arcs (rule_at sorted k).rule.prefix ≡ Before
  pub last : (k : ℕ) → k + 1 ≡ low → begins ≡ true → BeginsAt sorted arcs k
  pub other : (k : ℕ) → k + 1 ≡ low → begins ≡ false → BeginsAt sorted arcs k → ⊥

-- ## The first one that names an address

-- what a rule names in an identifier that begins with its arcs
abbrev pub IsFound : (OidRule → Option ℕ) → List Numbered → Option (ℕ × Addr) → Type 0
IsFound address sorted None = Unit {0}
IsFound address sorted (Some found) = (found.0 < length sorted) × (address (rule_at sorted found.0).rule ≡ Some found.1.0)

-- what is found stands no later in the list than a place
abbrev pub IsEarly : List Numbered → Option (ℕ × Addr) → ℕ → Type 0
IsEarly sorted None number = ⊥
IsEarly sorted (Some found) number = (rule_at sorted found.0).number ≤ number

-- ## What is tried

-- the earlier one in the list of two rules
abbrev pub earlier_of : List Numbered → ℕ → ℕ → ℕ
earlier_of sorted place other = if nat_lt (rule_at sorted other).number (rule_at sorted place).number then other else place

abbrev pub before_at : List Numbered → ℕ → ℕ
before_at sorted place = before (rule_at sorted place).rule

-- rules with one more, which takes the place of those whose addresses stand where its own does, or of which one stands for it
abbrev pub with_rule : List Numbered → List ℕ → ℕ → List ℕ
with_rule sorted [] one = one ∷ []
with_rule sorted (place ∷ rest) one = if before_at sorted place == before_at sorted one then with_rule sorted rest
    (earlier_of sorted one place) else place ∷ with_rule sorted rest one

-- a rule stands for another one: its address stands at the same place, and it comes no later in the list
pub record StandsFor (sorted : List Numbered) (place other : ℕ) : Type 0 where
  pub same : before_at sorted place ≡ before_at sorted other
  pub early : (rule_at sorted place).number ≤ (rule_at sorted other).number

abbrev pub OneStandsFor : List Numbered → List ℕ → ℕ → Type 0
OneStandsFor sorted [] other = ⊥
OneStandsFor sorted (place ∷ rest) other = StandsFor sorted place other ⊎ OneStandsFor sorted rest other

abbrev pub AreWithin : List Numbered → List ℕ → Type 0
AreWithin sorted places = All (λ place. place < length sorted) places

-- what is tried if an identifier begins with the rule at a place: it begins with each of these, and one stands for each that it begins with
pub record IsTried (sorted : List Numbered) (at : ℕ) (tried : List ℕ) : Type 0 where
  pub within : AreWithin sorted tried
  pub begun : (arcs : List ℕ) → BeginsAt sorted arcs at → All (BeginsAt sorted arcs) tried
  pub every : (k : ℕ) → k ≤ at → BeginsAt sorted (rule_at sorted at).rule.prefix k → OneStandsFor sorted tried k

abbrev pub AreTried : List Numbered → List (List ℕ) → Type 0
AreTried sorted tried = (k : ℕ) → k < length tried → IsTried sorted k (slice_index_or tried k [])

-- a place behind those that are still to be looked at
abbrev pub IsDone : Option ℕ → ℕ → Type 0
IsDone None place = Unit {0}
IsDone (Some last) place = last < place

-- arcs begin with the rule that was found, which is the first of those that they begin with and that name an address
pub record IsFirst (address : OidRule → Option ℕ) (sorted : List Numbered) (arcs : List ℕ) (best : Option (ℕ × Addr)) : Type 0 where
  pub found : IfSome best (λ p. BeginsAt sorted arcs p.0)
  pub first : (k : ℕ) → k < length sorted → BeginsAt sorted arcs k → IsSome (address (rule_at sorted k).rule)
      → IsEarly sorted best (rule_at sorted k).number
