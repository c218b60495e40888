use Rattle.std.proofs.Common.{◌≡◌, ◌∙◌, true, sym, arith}
use Rattle.twice_translate.specs.Renamed.{datagram_of}
use Rattle.event_payloads.proofs.DnsTaken.{short_payload}
use Rattle.event_payloads.specs.Prelude.{plain_rules}
use Rattle.event_payloads.proofs.SnmpTaken.{good_is, message_empty, taken_by_rules, taken_basic, no_items}
use Rattle.event_payloads.proofs.snmp.take_snmp.Goals as goal

pub returns-then-lacks_alias : goal.returns-then-lacks_alias
returns-then-lacks_alias c = record {
  taken = λ live t w.
      let d = datagram_of c.args.datagram.now.octets.now in
      let good =
      good_is d c.args.datagram.now.payload.now c.check.result c.is_none.result c.requires.whole.same c.check.ensures c.is_none.ensures
      c.if-is_none.false in
      message_empty plain_rules live c.args.way.now.side d c.args.way.now c.args.table.now c.args.outbox.now w good
      (sym c.lacks_alias.ensures ∙ c.if-lacks_alias.true) (sym t) c.requires.empty;
}

pub returns-then-not-is_empty : goal.returns-then-not-is_empty
returns-then-not-is_empty c = record {
  taken = λ live t w.
      let way = c.args.way.now in
      let d = datagram_of c.args.datagram.now.octets.now in
      let payload = c.args.datagram.now.payload.now in
      let good = good_is d payload c.check.result c.is_none.result c.requires.whole.same c.check.ensures c.is_none.ensures c.if-is_none.false in
      taken_by_rules plain_rules live way.side d way c.args.table.now payload c.pass_by_rules.result c.pass_by_rules.new.table
      c.pass_by_rules.new.outbox t c.requires.whole.same w good (sym c.lacks_alias.ensures ∙ c.if-lacks_alias.false)
      c.pass_by_rules.ensures.refusal c.pass_by_rules.ensures.table c.pass_by_rules.ensures.out;
}

pub returns : goal.returns
returns c = record {
  taken = λ live t w.
      let way = c.args.way.now in
      let octets = c.args.datagram.now.octets.now in
      let d = datagram_of octets in
      let payload = c.args.datagram.now.payload.now in
      let good = good_is d payload c.check.result c.is_none.result c.requires.whole.same c.check.ensures c.is_none.ensures c.if-is_none.false in
      let empty : c.is_empty.result ≡ true = grind (arith, c.if-not-is_empty.false) in
      let none = sym c.oids.ensures.value ∙ no_items c.oids.result.now (sym c.is_empty.ensures ∙ empty) in
      taken_basic plain_rules live way.side d way c.args.table.now payload c.pass_basic.new.table c.pass_basic.new.outbox t c.requires.whole.same w
      good (sym c.lacks_alias.ensures ∙ c.if-lacks_alias.false) none
      (short_payload octets payload c.requires.whole.few c.requires.whole.same) c.pass_basic.ensures.table c.pass_basic.ensures.out;
}
