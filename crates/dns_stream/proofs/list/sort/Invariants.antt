use Rattle.std.proofs.Common.{◌≤◌, take, vec_capacity}
use Rattle.dns_stream.specs.Prelude.{AreOneList}
use Rattle.dns_stream.proofs.list.sort.Given as goal

abbrev pub invariant-loop-entry : goal.invariant-loop-entry
invariant-loop-entry l = (256 ≤ vec_capacity l.sorted) × AreOneList (take l.entry-index l.entries) l.sorted.items
