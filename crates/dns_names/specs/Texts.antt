-- Whatever is written, piece by piece.
use Rattle.std.specs.Prelude.{◌≡◌, ℕ, ◌≤◌, ◌++◌, List, [], ◌∷◌, length, Some}
use Rattle.std.specs.List.{AllByRecursion}
use Rattle.dns_names.specs.Names.{NameAt, IsName}
use Rattle.dns_names.specs.Spelling.{Text, found, put_octets, put_name}

-- what is written at a time: octets or a name
pub data Item : Type 0 where
  Octets : (octets : List ℕ) → Item
  Name : (labels : List (List ℕ)) → Item

-- its names are names
abbrev pub IsItem : Item → Type 0
IsItem (Octets octets) = Unit {0}
IsItem (Name labels) = IsName labels

-- a text with an item behind it
abbrev pub put_item : Text → Item → Text
put_item text (Octets octets) = put_octets text octets
put_item text (Name labels) = put_name text labels

-- a text with items behind it
abbrev pub put_items : Text → List Item → Text
put_items text [] = text
put_items text (item ∷ items) = put_items (put_item text item) items

-- nothing is written yet
abbrev pub nothing : Text
nothing = record { octets = []; starts = [] }

-- what items write
abbrev pub written : List Item → Text
written items = put_items nothing items

-- A name reads back from where it was written, whatever was written before it and whatever follows it.
abbrev pub NamesReadBack : Type 0
NamesReadBack =
    (before : List Item) (labels : List (List ℕ)) (rest : List ℕ) → AllByRecursion IsItem before → IsName labels
    → let text = written before in
    let after = put_name text labels in
    NameAt (after.octets ++ rest) (length text.octets) labels (length after.octets)

-- Of the label starts with some octets, the one that is found is the lowest.
abbrev pub FoundIsLowest : Type 0
FoundIsLowest =
    (items : List Item) (octets : List ℕ) (place : ℕ)
    → let starts = Text.starts (written items) in
    found starts octets ≡ Some place → AllByRecursion (λ s. s.octets ≡ octets → place ≤ s.place) starts
