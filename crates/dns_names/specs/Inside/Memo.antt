-- What was read from the places of a message on, and the trail to such a place.
use Rattle.std.specs.Prelude.{◌≡◌, ℕ, ◌+◌, ◌-◌, ◌<◌, ◌≤◌, ◌⊎◌, List, [], ◌∷◌, ◌++◌, length, reverse, take, drop, slice_index_or}
use Rattle.dns_names.specs.Names.{Piece, Root, Label, Pointer, Nothing, piece_at, Stands, NameAt, IsName, spelled}
use Rattle.dns_names.specs.declared.known.Known.{Known}
use Rattle.dns_names.specs.declared.memo.Memo.{Memo}
use Rattle.dns_names.specs.declared.TheConstants.{LONGEST_MESSAGE}

-- the octets of the labels, among those that were kept
abbrev pub octets_of : List ℕ → Known → List ℕ
octets_of kept k = take k.count (drop k.from kept)

-- what is known at the place of a piece, by what is known behind it, where the kept octets of both end here
abbrev pub known_by : Piece → ℕ → ℕ → Known → Known
known_by Root place end k = k
known_by (Label octets) place end k = record {
  from = end - (k.count + 1 + length octets);
  start = k.start;
  after = k.after;
  label = place;
  count = k.count + 1 + length octets;
}
known_by (Pointer to) place end k = record { from = k.from; start = to + 1; after = place + 2; label = k.label; count = k.count }
known_by Nothing place end k = k

-- These labels stand at the place, in names that start so high, and in no others, and their octets are kept.
pub record Says (message kept : List ℕ) (place : ℕ) (k : Known) (labels : List (List ℕ)) : Type 0 where
  pub octets_are : octets_of kept k ≡ spelled labels
  pub within : k.from + k.count ≤ length kept
  pub stands : (start : ℕ) → k.start ≤ start → Stands message start place labels k.after
  pub only : (start : ℕ) (ls : List (List ℕ)) (after : ℕ) → Stands message start place ls after → k.start ≤ start

-- labels stand at the place as it is known
abbrev pub Knows : List ℕ → List ℕ → ℕ → Known → Type 0
Knows message kept place k = (labels : List (List ℕ)) × Says message kept place k labels

-- nothing is known
abbrev pub unknown : Known
unknown = record { from = 0; start = 0; after = 0; label = 0; count = 0 }

-- what a table says of a place
abbrev pub known_there : List Known → ℕ → Known
known_there known place = slice_index_or known place unknown

-- what a table says of places is known
pub record AreKnown (message kept : List ℕ) (known : List Known) : Type 0 where
  pub each : (place : ℕ) → place < length known → 1 ≤ (known_there known place).after → Knows message kept place (known_there known place)

-- what is kept of a message: places that are in it, and what is known of them
pub record IsMemo (message : List ℕ) (memo : Memo) : Type 0 where
  pub places : length memo.known.items ≤ length message
  pub few : length message ≤ LONGEST_MESSAGE
  pub known : AreKnown message memo.kept.items memo.known.items

-- how a trail goes on from a place: behind a label, or where a pointer leads
abbrev pub Step : List ℕ → ℕ → ℕ → List ℕ → ℕ → ℕ → List ℕ → Type 0
Step message from at before start place octets =
    ((l : List ℕ) × (piece_at message at ≡ Label l) × (start ≡ from) × (place ≡ at + 1 + length l) × (octets ≡ before ++ length l ∷ l))
    ⊎ ((to : ℕ) × (piece_at message at ≡ Pointer to) × (to < from) × (start ≡ to) × (place ≡ to) × (octets ≡ before))

-- The trail from a place over these, the last first: where it is then, in a name with this start, and the octets of its labels.
abbrev pub Trail : List ℕ → ℕ → List ℕ → ℕ → ℕ → List ℕ → Type 0
Trail message first [] start place octets = (start ≡ first) × (place ≡ first) × (octets ≡ [])
Trail message first (at ∷ path) start place octets = (from : ℕ) × (before : List ℕ) × Trail message first path from at before
    × Step message from at before start place octets

-- The trail over these places leads to where a name is known that may end the one that begins at its first place.
-- The octets of the labels on the trail are kept behind those that were kept before.
pub record Joins (message kept new : List ℕ) (first : ℕ) (path : List ℕ) (k : Known) : Type 0 where
  pub start : ℕ
  pub place : ℕ
  pub octets : List ℕ
  pub trail : Trail message first (reverse path) start place octets
  pub added : new ≡ kept ++ octets
  pub knows : Knows message kept place k
  pub low : k.start ≤ start
  pub short : length octets + k.count ≤ 254

-- The same, where the octets of the whole name end what is kept, if a label is on the trail.
pub record Leads (message kept : List ℕ) (first : ℕ) (path : List ℕ) (k : Known) : Type 0 where
  pub start : ℕ
  pub place : ℕ
  pub octets : List ℕ
  pub trail : Trail message first (reverse path) start place octets
  pub labels : List (List ℕ)
  pub says : Says message kept place k labels
  pub low : k.start ≤ start
  pub short : length octets + k.count ≤ 254
  pub ends : 1 ≤ length octets → (base : List ℕ) × (kept ≡ base ++ (octets ++ spelled labels))

-- a name stands at the place as it is known
pub record Here (message kept : List ℕ) (place : ℕ) (k : Known) : Type 0 where
  pub labels : List (List ℕ)
  pub name : NameAt message place labels k.after
  pub octets_are : octets_of kept k ≡ spelled labels
  pub within : k.from + k.count ≤ length kept
  pub is_name : IsName labels
