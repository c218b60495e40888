use Rattle.std.proofs.Common.{◌≡◌, ◌≤◌, ◌++◌, arith, drop, length, length-append, length-take-le, rules, take}
use Rattle.dns_names.proofs.Kept.{IsIndex-later}
use Rattle.dns_names.proofs.Pending.{edges-later}
use Rattle.dns_names.proofs.writer.NameWriter.set_number.Goals as goal

pub invariant_of-self : goal.invariant_of-self
invariant_of-self c =
    let is = c.self.invariant in
    let old = c.self.inside.octets.items in
    let all = c.put_u16.new.octets ++ drop (length c.put_u16.new.octets) old in
    let same : length c.put_u16.new.octets ≡ length old = search rules in
    let whole : c.self.inside.octets.len ≤ length all =
    omega (arith, c.self.inside.octets.ok.0, same, length-append c.put_u16.new.octets (drop (length c.put_u16.new.octets) old)) in
    let le : length old ≤ length (take c.self.inside.octets.len all) =
    omega (arith, c.self.inside.octets.ok.0, length-take-le c.self.inside.octets.len all whole) in
    (IsIndex-later _ _ _ is.0 le, is.1, edges-later c.self.inside.places c.self.inside.edge _ _ le is.2)
