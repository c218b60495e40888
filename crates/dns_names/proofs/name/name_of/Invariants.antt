use Rattle.std.proofs.Common.{◌+◌, ◌-◌, ◌≤◌, ◌++◌, vec_len, take, drop}
use Rattle.dns_names.proofs.Walking.{Reads}
use Rattle.dns_names.proofs.name.name_of.Given as goal

-- what was copied, and the labels that aren't copied yet
abbrev pub invariant-pieces : goal.invariant-pieces
invariant-pieces l = record {
  order : l.from ≤ l.at;
  reads : Reads l.message l.place l.start l.at (l.octets.items ++ take (l.at - l.from) (drop l.from l.message)) l.after;
}

abbrev pub decreases-pieces : goal.decreases-pieces
decreases-pieces l = l.start + (254 - (vec_len l.octets + (l.at - l.from)))
