-- What a joiner keeps.
use Rattle.std.specs.Prelude.{◌≡◌, ℕ, ◌*◌, ◌%◌, ◌<◌, ◌≤◌, true, false, if◌then◌else◌, length, slice_index_or, Option, Some, None, is_some}
use Rattle.gate_base.specs.declared.protocol.TheConstants.{LONGEST_DATAGRAM}
use Rattle.frag_join.specs.Places.{table, count_below}
use Rattle.frag_join.specs.Coverage.{Coverage}
use Rattle.frag_join.specs.Inside.Held.{octet_held, header_held}
use Rattle.frag_join.specs.declared.buffer.Buffer.TheInside.{Inside}

-- the octet at a place
abbrev pub octet_inside : Inside → ℕ → Option ℕ
octet_inside b = octet_held b.held.items b.octets.items

-- what is known by a buffer
abbrev pub known_inside : Inside → Coverage
known_inside b = record {
  places = table (octet_inside b) b.reach;
  known_end = if b.ended then Some b.reach else None;
  header = header_held b.headed b.octets.items;
}

-- there is room for the longest datagram; the held octets are counted; no unit is held at or behind the reach, which lies between two units unless
-- it is the end; and where the first unit is held, the header is there
pub record IsWhole (b : Inside) : Type 0 where
  pub octets : length b.octets.items ≡ LONGEST_DATAGRAM
  pub units : length b.held.items ≡ 8190
  pub fits : b.reach ≤ 65515
  pub counted : b.count ≡ count_below (λ place. is_some (octet_inside b place)) b.reach
  pub free : (unit : ℕ) → b.reach ≤ unit * 8 → slice_index_or b.held.items unit false ≡ false
  pub even : b.ended ≡ false → b.reach % 8 ≡ 0
  pub some : b.ended ≡ true → 0 < b.reach
  pub headed : slice_index_or b.held.items 0 false ≡ true → b.headed ≡ true
