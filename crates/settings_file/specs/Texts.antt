-- What the texts of the settings stand for.
use Rattle.std.specs.Prelude.{ℕ, ◌+◌, ◌-◌, ◌*◌, ◌%◌, ◌^◌, Bool, true, false, ◌&&◌, ◌==◌, nat_le, if◌then◌else◌, List, [], ◌∷◌, length, slice_index, Option, Some, None, codes}
use Rattle.std.specs.Str.{bytes_eq}
use Rattle.gate_base.specs.Prelude.{◌>>=◌, quad, number_of, cut_at, is_unicast_number}
use Rattle.gate_base.specs.declared.address.Addr.{Addr}
use Rattle.gate_base.specs.declared.side.Link.{Link}
use Rattle.gate_base.specs.declared.side.Link.TheVariants.{Ethernet, Raw}
use Rattle.gate_base.specs.declared.side.Side.{Side}
use Rattle.gate_base.specs.declared.side.Side.TheVariants.{Left, Right}
use Rattle.gate_settings.specs.declared.settings.Block.{Block}
use Rattle.gate_settings.specs.declared.settings.ReportForm.{ReportForm}
use Rattle.gate_settings.specs.declared.settings.ReportForm.TheVariants.{Text, Json}

-- the form of a report: "json" or "text"
unfoldable pub report_text : List ℕ → Option ReportForm
report_text text = if bytes_eq text (codes "json") then Some Json else if bytes_eq text (codes "text") then Some Text else None

-- whether fragments are joined: "join" or "refuse"
unfoldable pub join_text : List ℕ → Option Bool
join_text text = if bytes_eq text (codes "join") then Some true else if bytes_eq text (codes "refuse") then Some false else None

-- what frames are: "raw" or "ethernet"
unfoldable pub link_text : List ℕ → Option Link
link_text text = if bytes_eq text (codes "raw") then Some Raw else if bytes_eq text (codes "ethernet") then Some Ethernet else None

-- a realm: "left" or "right"
unfoldable pub side_text : List ℕ → Option Side
side_text text = if bytes_eq text (codes "left") then Some Left else if bytes_eq text (codes "right") then Some Right else None

-- the address of a host: four numbers joined by dots, and unicast
unfoldable pub address_text : List ℕ → Option Addr
address_text text = do
  number ← quad text
  if is_unicast_number number then Some (record { 0 = number }) else None

-- a block: four numbers joined by dots, a slash (47), and a number from 0 to 32, past which the bits are zero
unfoldable pub block_text : List ℕ → Option Block
block_text text = do
  (base, bits) ← cut_at 47 text
  base ← quad base
  bits ← number_of bits
  if nat_le bits 32 && base % 2 ^ (32 - bits) == 0 then Some (record { base = record { 0 = base }; bits = bits }) else None

-- a hexadecimal digit
abbrev pub hex_digit : ℕ → Option ℕ
hex_digit octet =
    if nat_le 48 octet && nat_le octet 57 then Some (octet - 48)
    else if nat_le 65 octet && nat_le octet 70 then Some (octet - 65 + 10)
    else if nat_le 97 octet && nat_le octet 102 then Some (octet - 97 + 10)
    else None

-- the pair of digits at a place
unfoldable pub hex_pair : List ℕ → ℕ → Option ℕ
hex_pair text place = do
  high ← hex_digit (slice_index text place)
  low ← hex_digit (slice_index text (place + 1))
  Some (16 * high + low)

-- a colon (58) behind each pair of digits but the last
abbrev pub has_colons : List ℕ → Bool
has_colons text =
    (((slice_index text 2 == 58 && slice_index text 5 == 58) && slice_index text 8 == 58) && slice_index text 11 == 58) && slice_index text 14 == 58

-- the numbers of six pairs of digits
abbrev pub six_pairs : List ℕ → Option (List ℕ)
six_pairs text = do
  a ← hex_pair text 0
  b ← hex_pair text 3
  c ← hex_pair text 6
  d ← hex_pair text 9
  e ← hex_pair text 12
  f ← hex_pair text 15
  Some (a ∷ b ∷ c ∷ d ∷ e ∷ f ∷ [])

-- a MAC address: six pairs of hexadecimal digits, joined by colons
unfoldable pub mac_text : List ℕ → Option (List ℕ)
mac_text text = if length text == 17 && has_colons text then six_pairs text else None
