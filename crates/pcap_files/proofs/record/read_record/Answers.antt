use Rattle.std.proofs.lemmas.Option.{IfSome_then}
use Rattle.gate_desk.specs.Outside.{told_at}
use Rattle.pcap_files.proofs.record.read_record.Goals as goal

pub returns-in-Some-clause-takes : goal.returns-in-Some-clause-takes
returns-in-Some-clause-takes g c = (
  c.in-Some.ensures.fits,
  c.skip.ensures.takes,
  IfSome_then (told_at (g.D.Desk.outside c.args.desk.now).left c.args.slot) c.ahead.ensures.octets (λ all begins. c.in-Some.ensures.next all begins),
)
