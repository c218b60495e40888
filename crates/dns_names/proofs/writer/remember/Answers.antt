use Rattle.std.proofs.Common.{arith}
use Rattle.dns_names.specs.Inside.Ends.{key_of}
use Rattle.dns_names.proofs.Placing.{remembers}
use Rattle.dns_names.proofs.writer.remember.Goals as goal

pub returns-in_ok-insert-clause-remembers : goal.returns-in_ok-insert-clause-remembers
returns-in_ok-insert-clause-remembers c =
    remembers c.new.result (key_of c.args.behind c.args.octets.now) c.args.octets.now c.args.place c.args.places.now c.insert.new.self
    c.new.ensures.key c.new.ensures.octets (omega arith) c.in_ok-insert.ensures.enters
