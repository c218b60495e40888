use Rattle.std.proofs.Common.{◌==◌, drop, length, min, option_map, ap, sym, ◌∙◌}
use Rattle.std.specs.Io.Buffered.{reader_buffer, reader_capacity, reader_inner}
use Rattle.file_desk.specs.Gathering.{ahead}
use Rattle.file_desk.specs.Inside.Gathering.{unread}
use Rattle.file_desk.proofs.Unread.{dropped_all, remaining_is}
use Rattle.file_desk.proofs.place.Place.skip.Goals as goal

pub returns-in-Input-clause-unread : goal.returns-in-Input-clause-unread
returns-in-Input-clause-unread g c =
    let remaining = g.F.Read.remaining in
    let reader = c.in-Input.reader in
    remaining_is remaining reader c.consume.new.self (drop c.args.count (reader_buffer reader)) c.consume.ensures.buffer c.consume.ensures.inner
    c.consume.ensures.capacity
    ∙ dropped_all (reader_capacity reader == 0) (reader_buffer reader) c.args.count (remaining (reader_inner reader))
    ∙ ap (λ p. option_map (drop (min c.args.count (length (ahead p)))) (unread remaining p)) (sym c.in-Input.is)
