use Rattle.std.proofs.Common.{◌≡◌, ◌≤◌, ◌+◌, ◌-◌, ℕ, ◌++◌, take, drop, length, arith, sym, ap, ◌∙◌, length-take, length-drop, length-take-le}
use borrow.Rule.Slice.PartMut.{put_mid, mid_of}
use Rattle.gate_desk.proofs.Laws.{buffer_on}
use Rattle.file_audit.proofs.ReportAhead.{fills}
use Rattle.file_audit.proofs.ahead.Ahead.fill.Goals as goal

pub returns-in-Ok-clause-ok : goal.returns-in-Ok-clause-ok
returns-in-Ok-clause-ok g c =
    let room = c.self.inside.room in
    let count = c.self.inside.count in
    let n = c.in-Ok.n in
    let buffer = c.read_full.new.buffer in
    let size : length room ≡ 256 = c.self.told in
    let bound : count ≤ 256 = c.self.invariant in
    let mid : length (mid_of count (256 - count) room) ≡ 256 - count =
    omega (arith, size, bound, length-take (256 - count) (drop count room), length-drop count room) in
    let few : n ≤ length buffer = omega (arith, c.in-Ok.ensures.fits, c.read_full.auto.buffer) in
    let is : take (count + n) (put_mid count (256 - count) room buffer) ≡ take count room ++ take n buffer =
    ap (λ (k : ℕ). take (count + n) (put_mid count (k - count) room buffer)) (sym size)
    ∙ buffer_on room buffer count n (omega (arith, size, bound)) few in
    rw (← c.self.view_is)
    (fills (take count room) (take n buffer) (take (count + n) (put_mid count (256 - count) room buffer)) n (length (mid_of count (256 - count) room))
    (g.D.Desk.outside c.args.desk.now) (g.D.Desk.outside c.read_full.new.desk)
    is (length-take-le n buffer few) (omega (
      arith,
      mid,
      bound,
      length-take-le count room (omega (
        arith,
        size,
        bound,
      )),
    )) c.in-Ok.ensures.ok c.in-Ok.ensures.octets)
