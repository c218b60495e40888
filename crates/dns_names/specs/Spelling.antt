-- How names are written: label by label, until a suffix stands already (RFC 1035, 4.1.4).
use Rattle.std.specs.Prelude.{◌≡◌, ℕ, ◌+◌, ◌/◌, ◌%◌, if◌then◌else◌, nat_lt, List, [], ◌∷◌, ◌++◌, length, Option, Some, None}
use Rattle.std.specs.Str.{bytes_eq}
use Rattle.gate_base.specs.Prelude.{with_u16}
use Rattle.dns_names.specs.Names.{spelled}
use Rattle.dns_names.specs.declared.TheConstants.{POINTED}

-- a label start that was written, with the labels from there on, written out
pub record Start : Type 0 where
  pub place : ℕ
  pub octets : List ℕ

-- The first of the starts with these octets. The starts stand in the order of their places, so that it is the lowest.
abbrev pub found : List Start → List ℕ → Option ℕ
found [] octets = None
found (s ∷ starts) octets = if bytes_eq s.octets octets then Some s.place else found starts octets

-- the pointer to a place below POINTED
abbrev pub pointer : ℕ → List ℕ
pointer place = (192 + place / 256) ∷ place % 256 ∷ []

-- what a name adds: its octets and its label starts
pub record Added : Type 0 where
  pub octets : List ℕ
  pub starts : List Start

-- only starts below POINTED can be pointed to
abbrev pub with_start : ℕ → List ℕ → List Start → List Start
with_start place octets starts = if nat_lt place POINTED then record { place = place; octets = octets } ∷ starts else starts

-- A name whose suffixes stand at a place already or nowhere: a pointer to it, or a label and the rest.
abbrev pub spell_by : Option ℕ → ℕ → List ℕ → List ℕ → Added → Added
spell_by (Some to) place label octets rest = record { octets = pointer to; starts = [] }
spell_by None place label octets rest = record { octets = length label ∷ (label ++ rest.octets); starts = with_start place octets rest.starts }

-- The name with these labels at a place, where the label starts before it are known: label by label, until a suffix of at
-- least one label stands already with equal octets. Then the pointer to the first such start ends it.
unfoldable pub spell : List Start → ℕ → List (List ℕ) → Added
spell starts place [] = record { octets = 0 ∷ []; starts = [] }
spell starts place (label ∷ labels) = spell_by (found starts (spelled (label ∷ labels))) place label (spelled (label ∷ labels))
    (spell starts (place + 1 + length label) labels)

-- Octets that were written, and the label starts in them.
pub record Text : Type 0 where
  pub octets : List ℕ
  pub starts : List Start

-- other octets behind a text
abbrev pub put_octets : Text → List ℕ → Text
put_octets text octets = record { octets = text.octets ++ octets; starts = text.starts }

-- what a name adds, behind a text
abbrev pub add : Text → Added → Text
add text added = record { octets = text.octets ++ added.octets; starts = text.starts ++ added.starts }

-- a text that begins with another one: octets and label starts stand behind those
abbrev pub BeginsWith : Text → Text → Type 0
BeginsWith front text = (more : Added) × (text ≡ add front more)

-- a name behind a text
abbrev pub put_name : Text → List (List ℕ) → Text
put_name text labels = add text (spell text.starts (length text.octets) labels)

-- a text with a number of 16 bits over two octets of it
abbrev pub with_number : Text → ℕ → ℕ → Text
with_number text place n = record { octets = with_u16 place n text.octets; starts = text.starts }
