use Rattle.std.proofs.Common.{length}
use Rattle.std.specs.Option.{option_len}
use Rattle.byteorder.specs.Endian.{big_bytes}
use Rattle.dns_messages.specs.Writing.{put}
use Rattle.dns_messages.proofs.Wrote.{six_wrote}
use Rattle.dns_messages.proofs.writing.put_header.Goals as goal

pub returns-clause-text : goal.returns-clause-text
returns-clause-text c =
    let m = c.args.message.now in
    six_wrote c.args.writer.now c.put_u16.new.writer c.put_u16-2.new.writer c.put_u16-3.new.writer c.put_u16-4.new.writer c.put_u16-5.new.writer
    c.put_u16-6.new.writer
    (put (big_bytes 2 m.id)) (put (big_bytes 2 m.flags)) (put (big_bytes 2 (option_len m.question))) (put (big_bytes 2 (length m.answers)))
    (put (big_bytes 2 (length m.authority))) (put (big_bytes 2 (length m.additional)))
    c.in_ok-put_u16.ensures c.in_ok-put_u16-2.ensures
    (rw c.asked.ensures at c.in_ok-put_u16-3.ensures)
    (rw c.items.ensures at c.in_ok-put_u16-4.ensures)
    (rw c.items-2.ensures at c.in_ok-put_u16-5.ensures)
    (rw c.items-3.ensures at c.in_ok-put_u16-6.ensures)
