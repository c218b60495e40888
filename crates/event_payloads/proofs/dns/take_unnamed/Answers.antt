use Rattle.event_payloads.specs.Prelude.{header_uses, plain_rules}
use Rattle.twice_translate.specs.Renamed.{datagram_of}
use Rattle.gate_model.specs.declared.timeouts.TheConstants.{UDP_TIMEOUT}
use Rattle.event_payloads.proofs.DnsTaken.{nothing_named, rebuilt_same}
use Rattle.event_payloads.proofs.HeadersOnly.{udp_taken, over_table}
use Rattle.event_payloads.proofs.dns.take_unnamed.Goals as goal

pub returns : goal.returns
returns c = record {
  taken = λ live same w some none.
      let d = datagram_of c.args.octets.now in
      let way = c.args.way.now in
      let r = c.take_plain.result in
      nothing_named plain_rules live way.side d r c.take_plain.new.table c.take_plain.new.outbox some none
      (λ source destination. rebuilt_same c.args.octets.now source destination c.requires.can c.requires.protocol c.type_inv.octets)
      (udp_taken plain_rules live way.side d way r c.take_plain.new.table c.take_plain.new.outbox w c.take_plain.ensures.refusal
      (over_table r (header_uses way UDP_TIMEOUT) c.args.table.now live.table c.take_plain.new.table same c.take_plain.ensures.table)
      c.take_plain.ensures.out);
}
