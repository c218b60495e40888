use Rattle.std.proofs.Common.{rules}
use Rattle.resegment.proofs.Boxes.{ends_count}
use Rattle.resegment.proofs.datagrams.Datagrams.len.Goals as goal

pub returns-clause-count : goal.returns-clause-count
returns-clause-count c = rw (← c.self.view_is, c.len.ensures, ends_count 0 c.self.inside.octets.items c.self.inside.ends.items) (search rules)
