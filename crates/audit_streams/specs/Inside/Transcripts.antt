-- One host's stream, written out as whole lists: its octets, their image, the image places of each octet, and where the images of changed units end.
use Rattle.std.specs.Prelude.{◌≡◌, ◌≤◌, ◌<◌, ◌+◌, ◌-◌, ◌^◌, ℕ, Bool, true, false, List, [], ◌∷◌, ◌++◌, length, take, drop, replicate}
use Rattle.std.specs.List.{flat_map}
use Rattle.std.specs.Str.{bytes_eq}
use Rattle.dialogue.specs.Prelude.{Meaning, is_released, Span, plain_spans, changed_ends, cut, image, spans, pushes_of}
use Rattle.audit_streams.specs.declared.transcript.Places.{Places}
use Rattle.audit_streams.specs.declared.transcript.ChangedUnit.{ChangedUnit}
use Rattle.stream_model.specs.declared.refusals.TheConstants.{STREAM_LIMIT}

-- these lists, and where the rest after the last whole unit begins
pub record Transcribed : Type 0 where
  pub octets : List ℕ
  pub image : List ℕ
  pub places : List Span
  pub ends : List ℕ
  pub rest : ℕ

-- the image places of an octet
abbrev pub span_of : Places → Span
span_of p = record { first = p.first; past = p.past }

-- The image places of the octets from `octet` to before `past`, where the image of the first begins at `place`. An octet of a changed unit has all places of the unit's image. Each other octet has one place, behind those of the octet before.
abbrev pub places_from : ℕ → ℕ → List ChangedUnit → ℕ → List Span
places_from octet place [] past = plain_spans place (past - octet)
places_from octet place (u ∷ us) past =
    plain_spans place (u.first - octet) ++ (replicate (u.past - u.first) (record { first = u.at; past = u.end }) ++ places_from u.past u.end us past)

-- this number of the last unit, or `least` if there is none
abbrev pub last_by : (ChangedUnit → ℕ) → ℕ → List ChangedUnit → ℕ
last_by number least [] = least
last_by number least (u ∷ us) = last_by number (number u) us

-- units follow one another from this octet on, whose image begins at this place
abbrev pub InOrder : ℕ → ℕ → List ChangedUnit → Type 0
InOrder octet place [] = Unit {0}
InOrder octet place (u ∷ us) = (octet ≤ u.first) × (u.first < u.past) × (u.at + octet ≡ place + u.first) × (u.at ≤ u.end) × InOrder u.past u.end us

-- the lists of these octets
abbrev pub transcript_of : Meaning → List ℕ → Transcribed
transcript_of m s = let c = cut m s in record {
  octets = s;
  image = image m s;
  places = spans m s;
  ends = changed_ends 0 (pushes_of m c c.rest);
  rest = length (flat_map (λ u. u) c.units);
}

-- the changed units are in order, all before the rest, what follows the last of them stands as it is, and neither list is too long
pub record IsTranscript (octets image : List ℕ) (units : List ChangedUnit) (rest : ℕ) : Type 0 where
  pub within : rest ≤ length octets
  pub order : InOrder 0 0 units
  pub before : last_by (λ u. u.past) 0 units ≤ rest
  pub behind : last_by (λ u. u.end) 0 units + length octets ≡ length image + last_by (λ u. u.past) 0 units
  pub few : length octets < STREAM_LIMIT
  pub short : length image < 2 ^ 31

-- the octets of the rest
abbrev pub rest_of : Transcribed → List ℕ
rest_of l = drop l.rest l.octets

-- with octets that follow, which go on as they are
abbrev pub with_octets : Transcribed → List ℕ → Transcribed
with_octets l t = record {
  octets = l.octets ++ t;
  image = l.image ++ t;
  places = l.places ++ plain_spans (length l.image) (length t);
  ends = l.ends;
  rest = l.rest;
}

-- the rest is a unit that goes on as it is
abbrev pub closed : Transcribed → Transcribed
closed l = record l { rest = length l.octets }

-- where the image of the rest begins
abbrev pub rest_at : Transcribed → ℕ
rest_at l = length l.image - (length l.octets - l.rest)

-- the rest is a unit with this image
abbrev pub changed : Transcribed → List ℕ → Transcribed
changed l image = record {
  octets = l.octets;
  image = take (rest_at l) l.image ++ image;
  places = take l.rest l.places ++ replicate (length l.octets - l.rest) (record { first = rest_at l; past = rest_at l + length image });
  ends = l.ends ++ (rest_at l + length image) ∷ [];
  rest = length l.octets;
}

-- the lists are those of their octets, and it is known whether the rest is released
pub record IsOf (m : Meaning) (l : Transcribed) (released : Bool) : Type 0 where
  pub lists : l ≡ transcript_of m l.octets
  pub free : released ≡ is_released m (cut m l.octets).rest

-- a unit has another image, this one
pub record IsOther (m : Meaning) (unit image : List ℕ) : Type 0 where
  pub is : image ≡ m.image unit
  pub other : bytes_eq (m.image unit) unit ≡ false

-- the rest is a unit that goes on as it is, or as another image
abbrev pub ended_as : Bool → Transcribed → List ℕ → Transcribed
ended_as true l image = closed l
ended_as false l image = changed l image

-- the rest is a unit
abbrev pub ended : Meaning → Transcribed → Transcribed
ended m l = ended_as (bytes_eq (m.image (rest_of l)) (rest_of l)) l (m.image (rest_of l))
