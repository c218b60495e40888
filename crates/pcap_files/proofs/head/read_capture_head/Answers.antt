use Rattle.std.proofs.Common.{◌≡◌, refl, arith}
use Rattle.gate_desk.specs.Outside.{told_at}
use Rattle.pcap_files.specs.Prelude.{Good, Bad}
use Rattle.pcap_files.proofs.Steps.{no_capture_head, by_capture_head}
use Rattle.pcap_files.proofs.head.read_capture_head.Goals as goal

pub returns-then-n-lt-HEAD-clause-takes : goal.returns-then-n-lt-HEAD-clause-takes
returns-then-n-lt-HEAD-clause-takes g c = (
  refl,
  (c.in-Ok.n, omega (arith, c.in-Ok.ensures.fits), c.in-Ok.ensures.ok),
  no_capture_head c.in-Ok.n c.read_full.new.buffer
      (told_at (g.D.Desk.outside c.args.desk.now).left c.args.slot) (omega arith) (omega arith) c.in-Ok.ensures.octets,
)

pub returns-in-Ok-form-clause-takes : goal.returns-in-Ok-form-clause-takes
returns-in-Ok-form-clause-takes g c =
    let told = told_at (g.D.Desk.outside c.args.desk.now).left c.args.slot in
    let e : c.in-Ok.n ≡ 24 = omega (arith, c.in-Ok.ensures.fits) in (
      rw e at c.in-Ok.ensures.ok,
      by_capture_head c.in-Ok.n c.read_full.new.buffer (Good c.in-Ok-form.form) told (omega arith)
          (omega arith) c.in-Ok.ensures.octets c.in-Ok-form.ensures,
    )

pub returns-in-Err-form-clause-takes : goal.returns-in-Err-form-clause-takes
returns-in-Err-form-clause-takes g c =
    let told = told_at (g.D.Desk.outside c.args.desk.now).left c.args.slot in (
      refl,
      (c.in-Ok.n, omega (arith, c.in-Ok.ensures.fits), c.in-Ok.ensures.ok),
      by_capture_head c.in-Ok.n c.read_full.new.buffer
          (Bad c.in-Err-form.fault) told (omega arith) (omega arith) c.in-Ok.ensures.octets c.in-Err-form.ensures,
    )
