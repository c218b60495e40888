use Rattle.std.proofs.Common.{◌≡◌, ◌+◌, ◌≤◌, ◌<◌, Ok, length, take, drop, subst, refl, sym, arith, IfSome}
use Rattle.std.proofs.lemmas.List.{take-append-le, length-take-le}
use Rattle.gate_desk.specs.Outside.{told_at, Takes}
use Rattle.gate_desk.proofs.Laws.{takes_on, moved, failed_later}
use Rattle.pcap_files.specs.Inside.Heads.{TakesHead}
use Rattle.pcap_files.specs.Prelude.{next_at, Came}
use Rattle.pcap_files.proofs.Steps.{no_body, torn_body, whole_body, all_left_behind}
use Rattle.pcap_files.proofs.record.read_in_parts.Goals as goal

pub returns-in-Err-clause-takes : goal.returns-in-Err-clause-takes
returns-in-Err-clause-takes g c =
    let old = g.D.Desk.outside c.args.desk.now in
    let told = told_at old.left c.args.slot in
    let h = c.in-Some.fields in
    let head = subst (λ o. TakesHead (Ok o) c.args.form c.args.place c.args.slot old (g.D.Desk.outside c.read_head.new.desk)) c.in-Some.is
    c.in_ok-fields.ensures.takes in
    let fits : h.kept ≤ length c.args.buffer.now = omega (arith, head.0.kept) in
    let few : c.in-Err.ensures.err.0 < h.kept = omega (arith, c.in-Err.ensures.err.1, length-take-le h.kept c.args.buffer.now fits) in (
      refl,
      failed_later c.args.slot old (g.D.Desk.outside c.read_head.new.desk) (g.D.Desk.outside c.read_full.new.desk) head.1.faults
          c.in-Err.ensures.cause,
      record {
        count = 16 + c.in-Err.ensures.err.0;
        takes = takes_on c.args.slot _ _ _ _ _ head.1 c.in-Err.ensures.err.2;
        near = omega (arith, head.0.ends, few);
        none = no_body c.args.form c.args.place _ h.stamp h.kept h.whole told few head.2;
      },
    )

pub returns-then-count-fields-clause-takes : goal.returns-then-count-fields-clause-takes
returns-then-count-fields-clause-takes g c =
    let old = g.D.Desk.outside c.args.desk.now in
    let mid = g.D.Desk.outside c.read_head.new.desk in
    let told = told_at old.left c.args.slot in
    let h = c.in-Some.fields in
    let head = subst (λ o. TakesHead (Ok o) c.args.form c.args.place c.args.slot old mid) c.in-Some.is c.in_ok-fields.ensures.takes in
    let fits : h.kept ≤ length c.args.buffer.now = omega (arith, head.0.kept) in
    let size = length-take-le h.kept c.args.buffer.now fits in
    let body = moved c.args.slot 16 old mid (λ all. take c.in-Ok.count c.read_full.new.buffer ≡ take h.kept all) head.1
    (subst (λ k. IfSome (told_at mid.left c.args.slot) (λ all. take c.in-Ok.count c.read_full.new.buffer ≡ take k all)) size
    c.in-Ok.ensures.octets) in
    let room : c.in-Ok.count ≤ length c.read_full.new.buffer = omega (arith, c.in-Ok.ensures.fits, c.read_full.auto.buffer) in (
      refl,
      record {
        count = 16 + c.in-Ok.count;
        takes = takes_on c.args.slot _ _ _ _ _ head.1 c.in-Ok.ensures.ok;
        near = omega (arith, head.0.ends, c.if-count-fields.true);
        exact =
            all_left_behind h.kept c.in-Ok.count c.read_full.new.buffer told c.if-count-fields.true room head.3 body;
      },
      torn_body c.args.form c.args.place c.in-Ok.count h.stamp h.kept h.whole c.read_full.new.buffer told c.if-count-fields.true room head.2 body,
    )

pub returns-clause-takes : goal.returns-clause-takes
returns-clause-takes g c =
    let old = g.D.Desk.outside c.args.desk.now in
    let mid = g.D.Desk.outside c.read_head.new.desk in
    let told = told_at old.left c.args.slot in
    let h = c.in-Some.fields in
    let head = subst (λ o. TakesHead (Ok o) c.args.form c.args.place c.args.slot old mid) c.in-Some.is c.in_ok-fields.ensures.takes in
    let fits : h.kept ≤ length c.args.buffer.now = omega (arith, head.0.kept) in
    let size = length-take-le h.kept c.args.buffer.now fits in
    let body = moved c.args.slot 16 old mid (λ all. take c.in-Ok.count c.read_full.new.buffer ≡ take h.kept all) head.1
    (subst (λ k. IfSome (told_at mid.left c.args.slot) (λ all. take c.in-Ok.count c.read_full.new.buffer ≡ take k all)) size
    c.in-Ok.ensures.octets) in
    let all_of : h.kept ≡ c.in-Ok.count = omega (arith, c.in-Ok.ensures.fits, size, c.if-count-fields.false) in
    let room : c.in-Ok.count ≤ length c.read_full.new.buffer = omega (arith, c.in-Ok.ensures.fits, c.read_full.auto.buffer) in
    let there = whole_body c.args.form c.args.place c.in-Ok.count h.stamp h.kept h.whole c.read_full.new.buffer told all_of room head.2 body in
    let same = take-append-le h.kept c.read_full.new.buffer (drop h.kept c.args.buffer.now) (omega arith) in (
      head.0,
      subst (λ n. Takes c.args.slot (16 + n) old (g.D.Desk.outside c.read_full.new.desk)) (sym all_of)
          (takes_on c.args.slot _ _ _ _ _ head.1 c.in-Ok.ensures.ok),
      subst (λ xs. IfSome told (λ all. next_at c.args.form c.args.place all ≡ Came (record { stamp = h.stamp; whole = h.whole; octets = xs })))
          (sym same) there,
    )
