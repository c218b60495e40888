use Rattle.std.proofs.Common.{◌≡◌, take, length, subst, refl, arith, IfSome}
use Rattle.gate_desk.specs.Outside.{told_at}
use Rattle.pcap_files.specs.Prelude.{Broken, body_of}
use Rattle.pcap_files.proofs.Steps.{ended, torn_head, by_the_head, all_left, enough_left, some_is}
use Rattle.pcap_files.proofs.record.read_head.Goals as goal

pub returns-then-n-eq0-clause-takes : goal.returns-then-n-eq0-clause-takes
returns-then-n-eq0-clause-takes g c =
    let e : c.in-Ok.n ≡ 0 = c.if-n-eq0.true in
    let told = told_at (g.D.Desk.outside c.args.desk.now).left c.args.slot in (
      rw e at c.in-Ok.ensures.ok,
      ended c.args.form c.args.place told
          (subst (λ n. IfSome told (λ all. take n c.read_full.new.buffer ≡ take 16 all)) e c.in-Ok.ensures.octets),
    )

pub returns-then-n-lt-RECORD_HEAD-clause-takes : goal.returns-then-n-lt-RECORD_HEAD-clause-takes
returns-then-n-lt-RECORD_HEAD-clause-takes g c =
    let told = told_at (g.D.Desk.outside c.args.desk.now).left c.args.slot in (
      refl,
      record {
        count = c.in-Ok.n;
        takes = c.in-Ok.ensures.ok;
        near = omega (arith, c.requires.small);
        exact = all_left c.in-Ok.n c.read_full.new.buffer told (omega arith) (omega arith) c.in-Ok.ensures.octets;
      },
      torn_head c.args.form c.args.place c.in-Ok.n c.read_full.new.buffer told (omega arith) (omega arith) (omega arith) c.in-Ok.ensures.octets,
    )

pub returns-in-Ok-fields_of-clause-takes : goal.returns-in-Ok-fields_of-clause-takes
returns-in-Ok-fields_of-clause-takes g c =
    let told = told_at (g.D.Desk.outside c.args.desk.now).left c.args.slot in
    let h = c.in-Ok-fields_of.fields in
    let e : c.in-Ok.n ≡ 16 = omega (arith, c.in-Ok.ensures.fits) in (
      c.in-Ok-fields_of.ensures.0,
      rw e at c.in-Ok.ensures.ok,
      by_the_head c.args.form c.args.place c.in-Ok.n c.read_full.new.buffer (body_of h.stamp h.whole h.kept) told (omega arith)
          (omega arith) c.in-Ok.ensures.octets c.in-Ok-fields_of.ensures.1,
      enough_left c.in-Ok.n c.read_full.new.buffer told (omega arith) (omega arith) c.in-Ok.ensures.octets,
    )

pub returns-in-Err-fields_of-clause-takes : goal.returns-in-Err-fields_of-clause-takes
returns-in-Err-fields_of-clause-takes g c =
    let told = told_at (g.D.Desk.outside c.args.desk.now).left c.args.slot in (
      refl,
      record {
        count = c.in-Ok.n;
        takes = c.in-Ok.ensures.ok;
        near = omega (arith, c.in-Ok.ensures.fits, c.requires.small);
        exact = some_is told (λ octets. omega (arith, c.in-Ok.ensures.fits, c.in-Err-fields_of.ensures.0 (length octets)));
      },
      by_the_head c.args.form c.args.place c.in-Ok.n c.read_full.new.buffer (λ rest. Broken c.in-Err-fields_of.fault) told (omega arith)
          (omega arith) c.in-Ok.ensures.octets c.in-Err-fields_of.ensures.1,
    )
