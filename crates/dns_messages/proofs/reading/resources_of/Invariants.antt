use Rattle.std.proofs.Common.{◌≡◌, ◌-◌}
use Rattle.dns_messages.specs.Reading.{resources_at}
use Rattle.dns_messages.proofs.Loop.{with_front}
use Rattle.dns_messages.proofs.reading.resources_of.Given as goal

abbrev pub invariant-loop : goal.invariant-loop
invariant-loop l = (with_front l.resources.items (resources_at (l.count - l.counter) l.fn.reader l.at) ≡ resources_at l.count l.fn.reader l.place)
    × (l.reader ≡ l.fn.reader)
