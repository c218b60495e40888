-- An object identifier with the image of an address in its place (RFC 2962, 4.2).
use Rattle.std.specs.Prelude.{ℕ, zero, suc, ◌+◌, ◌-◌, ◌/◌, ◌%◌, nat_lt, if◌then◌else◌, List, [], ◌∷◌, ◌++◌, take, drop, Option, Some, option_map, unwrap_or}
use Rattle.std.specs.List.{flat_map}
use Rattle.byteorder.specs.Endian.{big_bytes}
use Rattle.gate_base.specs.Prelude.{◌>>=◌}
use Rattle.gate_base.specs.declared.rule.OidRule.{OidRule}
use Rattle.snmp_oids.specs.declared.identifier.Change.{Change}
use Rattle.snmp_oids.specs.Arcs.{named_in}

-- how many octets so many sub-identifiers take, or fewer of them that fill octets
unfoldable pub place_behind : ℕ → List ℕ → ℕ
place_behind zero octets = 0
place_behind (suc count) [] = 0
place_behind (suc count) (octet ∷ more) = 1 + (if nat_lt octet 128 then place_behind count more else place_behind (suc count) more)

-- an arc of at most 255 in the fewest octets (X.690, 8.19.2)
abbrev pub arc_octets : ℕ → List ℕ
arc_octets arc = if nat_lt arc 128 then arc ∷ [] else (128 + arc / 128) ∷ arc % 128 ∷ []

-- the four arcs of an address
abbrev pub address_octets : ℕ → List ℕ
address_octets address = flat_map arc_octets (big_bytes 4 address)

-- the four sub-identifiers behind so many arcs, of which the first two share one
abbrev pub change_at : ℕ → ℕ → List ℕ → Change
change_at before address content = let start = place_behind (before - 1) content in
    record { start = start; end = start + place_behind 4 (drop start content); address = record { 0 = address } }

-- what is to change: the address that the rules name, if it has an image
abbrev pub change_of : (ℕ → Option ℕ) → List OidRule → List ℕ → Option Change
change_of image rules content = do
  found ← named_in rules content
  address ← image found.1
  Some (change_at found.0 address content)

abbrev pub changed : List ℕ → Change → List ℕ
changed content change = take change.start content ++ address_octets change.address.0 ++ drop change.end content

-- the content, with the image of the address that the rules name in its place, if it has one
abbrev pub identifier_renamed : (ℕ → Option ℕ) → List OidRule → List ℕ → List ℕ
identifier_renamed image rules content = unwrap_or (option_map (changed content) (change_of image rules content)) content
