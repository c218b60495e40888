-- What fragments tell of their datagram: which of its octets, where it ends, and its header (RFC 791, 3.2).
use Rattle.std.specs.Prelude.{ℕ, ◌+◌, ◌*◌, ◌/◌, ◌%◌, ◌^◌, Bool, false, not, ◌&&◌, ◌||◌, ◌==◌, nat_lt, if◌then◌else◌, max, List, [], ◌∷◌, ◌++◌, length, slice_index_or, Option, Some, None, unwrap_or, is_some}
use Rattle.std.specs.Option.{option_or}
use Rattle.gate_base.specs.Prelude.{u16_at, with_u16}
use Rattle.gate_base.specs.declared.protocol.TheConstants.{LONGEST_DATAGRAM}
use Rattle.inet_sum.specs.Sum.{checksum}
use Rattle.frag_join.specs.Places.{table, any_below, all_below}
use Rattle.frag_join.specs.Fragments.{Fragment, end_of, octet_in}

-- the octet at each place, if a fragment covers it, up to the greatest place that is covered; the place behind the datagram's last octet, which a
-- fragment without MF tells; and the header of the fragment that starts it
pub record Coverage : Type 0 where
  pub places : List (Option ℕ)
  pub known_end : Option ℕ
  pub header : Option (List ℕ)

-- ## By a list of fragments, in the order in which they were taken

-- the octet at a place, by the first that covers it
abbrev pub octet_at : List Fragment → ℕ → Option ℕ
octet_at [] place = None
octet_at (f ∷ others) place = option_or (octet_in f place) (octet_at others place)

-- the place behind the greatest that is covered
abbrev pub reach_of : List Fragment → ℕ
reach_of [] = 0
reach_of (f ∷ others) = max (end_of f) (reach_of others)

-- the end of a fragment without MF is the datagram's
abbrev pub end_told : Fragment → Option ℕ
end_told f = if f.more then None else Some (end_of f)

abbrev pub end_by : List Fragment → Option ℕ
end_by [] = None
end_by (f ∷ others) = option_or (end_told f) (end_by others)

-- the header of a fragment with offset 0 is the datagram's
abbrev pub header_told : Fragment → Option (List ℕ)
header_told f = if f.start == 0 then Some f.header else None

abbrev pub header_by : List Fragment → Option (List ℕ)
header_by [] = None
header_by (f ∷ others) = option_or (header_told f) (header_by others)

-- what they tell together
abbrev pub known_by : List Fragment → Coverage
known_by fragments = record {
  places = table (octet_at fragments) (reach_of fragments);
  known_end = end_by fragments;
  header = header_by fragments;
}

-- ## Step by step

abbrev pub nothing : Coverage
nothing = record { places = []; known_end = None; header = None }

-- the octet that is known at a place
abbrev pub octet_of : Coverage → ℕ → Option ℕ
octet_of known place = slice_index_or known.places place None

-- one fragment more
abbrev pub added : Coverage → Fragment → Coverage
added known f = record {
  places = table (λ place. option_or (octet_of known place) (octet_in f place)) (max (length known.places) (end_of f));
  known_end = option_or known.known_end (end_told f);
  header = option_or known.header (header_told f);
}

-- ## A fragment that contradicts itself or what is known

abbrev pub are_unlike : Option ℕ → Option ℕ → Bool
are_unlike (Some octet) (Some other) = not (octet == other)
are_unlike (Some octet) None = false
are_unlike None other = false

-- an octet differs from the one that is known at its place
abbrev pub is_unlike : Coverage → Fragment → Bool
is_unlike known f = any_below (λ place. are_unlike (octet_of known place) (octet_in f place)) (end_of f)

abbrev pub is_other : ℕ → Option ℕ → Bool
is_other place None = false
is_other place (Some end) = not (place == end)

abbrev pub is_above : ℕ → Option ℕ → Bool
is_above place None = false
is_above place (Some end) = nat_lt end place

-- its payload is empty; or MF is set and its payload is no multiple of 8; or header, start and payload are above 65,535 octets together
abbrev pub is_torn : Fragment → Bool
is_torn f = (length f.payload == 0 || f.more && not (length f.payload % 8 == 0)) || nat_lt LONGEST_DATAGRAM (20 + end_of f)

-- with MF its end is above the known end; or without MF its end isn't the known end, or is at or below a place that is covered
abbrev pub ends_otherwise : Coverage → Fragment → Bool
ends_otherwise known f = if f.more then is_above (end_of f) known.known_end else is_other (end_of f) known.known_end
    || nat_lt (end_of f) (length known.places)

-- it contradicts itself or what is known
abbrev pub is_bad : Coverage → Fragment → Bool
is_bad known f = (is_torn f || ends_otherwise known f) || is_unlike known f

-- ## The datagram

-- each place below an end is covered
abbrev pub is_covered : Coverage → Option ℕ → Bool
is_covered known None = false
is_covered known (Some end) = all_below (λ place. is_some (octet_of known place)) end

-- a fragment without MF is there, and every place below its end is covered
abbrev pub is_complete : Coverage → Bool
is_complete known = is_covered known known.known_end

-- a header with this total length, neither MF nor an offset, and a checksum of 0; the flag that forbids to cut it stays
abbrev pub cleared_head : List ℕ → ℕ → List ℕ
cleared_head header total = with_u16 10 0 (with_u16 6 (u16_at 6 header / 2 ^ 14 * 2 ^ 14) (with_u16 2 total header))

-- the same with its right checksum
abbrev pub whole_head : List ℕ → ℕ → List ℕ
whole_head header total = let head = cleared_head header total in with_u16 10 (checksum head) head

-- the octets that are known below an end
abbrev pub payload_below : Coverage → ℕ → List ℕ
payload_below known end = table (λ place. unwrap_or (octet_of known place) 0) end

-- the header becomes that of the whole datagram
abbrev pub sealed : Coverage → Coverage
sealed known = record known { header = Some (whole_head (unwrap_or known.header []) (20 + unwrap_or known.known_end 0)) }

-- the header, and the payload behind it
abbrev pub spelled : Coverage → List ℕ
spelled known = unwrap_or known.header [] ++ payload_below known (unwrap_or known.known_end 0)

-- the datagram, once it is complete: the header with neither MF nor an offset, and at each place the octet of a fragment that covers it
abbrev pub datagram_of : Coverage → List ℕ
datagram_of known = spelled (sealed known)
