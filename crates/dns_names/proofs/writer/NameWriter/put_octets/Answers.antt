use Rattle.std.proofs.Common.{◌≤◌, length, rules}
use Rattle.dns_names.proofs.Kept.{IsIndex-later}
use Rattle.dns_names.proofs.Pending.{edges-later}
use Rattle.dns_names.proofs.writer.NameWriter.put_octets.Goals as goal

pub invariant_of-self-2 : goal.invariant_of-self-2
invariant_of-self-2 c =
    let le : length c.self.inside.octets.items ≤ length c.extend_from_slice.new.self.items = search rules in
    let is = c.self.invariant in
    (IsIndex-later _ _ _ is.0 le, is.1, edges-later c.self.inside.places c.self.inside.edge _ _ le is.2)
