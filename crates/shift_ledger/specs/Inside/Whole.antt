-- A ledger as what it keeps.
use Rattle.std.specs.Prelude.{◌-◌, map}
use Rattle.std.specs.VecDeque.{deque_capacity, deque_len}
use Rattle.shift_ledger.specs.declared.ledger.ChangedUnit.{ChangedUnit}
use Rattle.shift_ledger.specs.declared.ledger.Ledger.TheInside.{Inside}
use Rattle.shift_ledger.specs.Kept.{Kept, KeptUnit}
use Rattle.shift_ledger.specs.Inside.Order.{AreInOrder}

-- a changed unit with its image as a list
abbrev pub unit_of : ChangedUnit → KeptUnit
unit_of u = record { start = u.start; unit = u.unit; at = u.at; image = u.image.items }

-- what the fields keep
abbrev pub kept_of : Inside → Kept
kept_of l = record {
  octets_in = l.octets_in;
  octets_out = l.octets_out;
  changed = map unit_of l.changed.items;
  spare = deque_capacity l.changed
      - deque_len l.changed;
}

-- the changed units lie one behind the other among what was pushed
abbrev pub IsInOrder : Inside → Type 0
IsInOrder l = AreInOrder 0 0 (map unit_of l.changed.items) l.octets_in l.octets_out
