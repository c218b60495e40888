use Rattle.std.proofs.Common.{◌≡◌, ◌+◌, ◌≤◌, length, take, subst, sym, arith, length-take-le}
use Rattle.gate_desk.specs.Outside.{Takes}
use Rattle.pcap_files.specs.Prelude.{Packet}
use Rattle.pcap_files.proofs.Steps.{same_reading}
use Rattle.pcap_files.proofs.reader.CaptureReader.advance.Goals as goal

pub returns-in-Ok-Some-clause-first : goal.returns-in-Ok-Some-clause-first
returns-in-Ok-Some-clause-first g c = rw (← c.self.view_is) (λ none.
    let h = c.in-Ok-Some.head in
    let got = rw c.in-Ok-Some.field-0-is at c.in-Ok-Some.ensures.takes in
    let p : Packet = record { stamp = h.stamp; whole = h.whole; octets = take h.kept c.read_record.new.buffer } in
    let size : length c.read_record.new.buffer ≡ c.self.inside.buffer.len = omega (arith, c.read_record.auto.buffer, c.deref_mut.ensures.len) in
    let fits : h.kept ≤ c.self.inside.buffer.len = omega (arith, got.0.kept, c.self.inside.buffer.ok.0, c.self.invariant) in
    let is : h.kept ≡ length (take h.kept c.read_record.new.buffer) = sym (length-take-le h.kept c.read_record.new.buffer (omega arith)) in (
      p,
      record { stamp = got.0.early; octets = omega (arith, is, got.0.kept) },
      omega (arith, is, got.0.ends),
      same_reading _ _ _ h.kept _ _ _ _ c.read_record.new.buffer _ size fits,
      subst (λ k. Takes c.self.inside.slot (16 + k) (g.D.Desk.outside c.args.desk.now) (g.D.Desk.outside c.read_record.new.desk)) is got.1,
      got.2,
    ))
