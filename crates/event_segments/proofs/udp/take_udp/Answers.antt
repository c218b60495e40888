use Rattle.std.proofs.Common.{◌≡◌, ◌∙◌, ◌||◌, ◌==◌, true, ap, refl, subst, sym, IfOk}
use Rattle.std.proofs.lemmas.Bool.{or_left, or_right}
use Rattle.gate_model.specs.Prelude.{Payload, Whole}
use Rattle.twice_translate.specs.Renamed.{datagram_of}
use Rattle.event_payloads.specs.Prelude.{plain_rules, IsTaken}
use Rattle.event_payloads.proofs.HeadersOnly.{udp_taken, udp_plain}
use Rattle.event_segments.specs.Prelude.{plain_world}
use Rattle.event_segments.proofs.Taking.{udp_dns, udp_snmp}
use Rattle.event_segments.proofs.udp.take_udp.Goals as goal
use Rattle.event_segments.proofs.udp.take_udp.Goals.{then-has_port-2-via-then-has_port-2, then-has_port-2-via-else-has_port-2+then-has_port-3}

pub returns-then-has_port-clause-taken : goal.returns-then-has_port-clause-taken
returns-then-has_port-clause-taken c =
    let live = plain_world c.args.way.now.moment.0 c.args.table.now in
    let d = datagram_of c.args.datagram.now.octets.now in
    let kind = udp_dns d c.ports-ports.result.0 c.ports-ports.result.1
    (c.ports-ports.ensures.source ∙ ap (λ v. v.source_port) c.requires.view)
    (c.ports-ports.ensures.destination ∙ ap (λ v. v.destination_port) c.requires.view)
    (sym c.has_port.ensures ∙ c.if-has_port.true) in
    subst (λ (p : Payload). IfOk c.take_dns.result
    (λ r. IsTaken plain_rules live c.args.way.now.side d (Whole p) r c.take_dns.new.table c.take_dns.new.outbox)) (sym kind)
    (c.take_dns.ensures.taken live refl c.requires.way)

pub returns-then-has_port-2-clause-taken : goal.returns-then-has_port-2-clause-taken
returns-then-has_port-2-clause-taken c =
    let live = plain_world c.args.way.now.moment.0 c.args.table.now in
    let d = datagram_of c.args.datagram.now.octets.now in
    let either : ((c.ports-ports.result.0 == 161 || c.ports-ports.result.1 == 161)
    || (c.ports-ports.result.0 == 162 || c.ports-ports.result.1 == 162))
    ≡ true = elim c.then-has_port-2.branch [
      | then-has_port-2-via-then-has_port-2 w ↦ or_left _ _ (sym c.has_port-2.ensures ∙ w.if-has_port-2.true)
      | then-has_port-2-via-else-has_port-2+then-has_port-3 w ↦ or_right _ _ (sym w.has_port-else-has_port-2.ensures ∙ w.if-has_port-3.true)
    ] in
    let kind = udp_snmp d c.ports-ports.result.0 c.ports-ports.result.1
    (c.ports-ports.ensures.source ∙ ap (λ v. v.source_port) c.requires.view)
    (c.ports-ports.ensures.destination ∙ ap (λ v. v.destination_port) c.requires.view)
    (sym c.has_port.ensures ∙ c.if-has_port.false) either in
    subst (λ (p : Payload). IsTaken plain_rules live c.args.way.now.side d (Whole p) c.take_snmp.result c.take_snmp.new.table c.take_snmp.new.outbox)
    (sym kind) (c.take_snmp.ensures.taken live refl c.requires.way)

pub returns-clause-taken : goal.returns-clause-taken
returns-clause-taken c =
    let live = plain_world c.args.way.now.moment.0 c.args.table.now in
    let way = c.args.way.now in
    let d = datagram_of c.args.datagram.now.octets.now in
    let r = c.take_plain.result in
    let kind = udp_plain d c.ports-ports.result.0 c.ports-ports.result.1
    (c.ports-ports.ensures.source ∙ ap (λ v. v.source_port) c.requires.view)
    (c.ports-ports.ensures.destination ∙ ap (λ v. v.destination_port) c.requires.view)
    (sym c.has_port.ensures ∙ c.if-has_port.false) (sym c.has_port-2.ensures ∙ c.if-has_port-2.false)
    (sym c.has_port-else-has_port-2.ensures ∙ c.if-has_port-3.false) in
    subst (λ (p : Payload). IsTaken plain_rules live way.side d (Whole p) r c.take_plain.new.table c.take_plain.new.outbox) (sym kind)
    (udp_taken plain_rules live way.side d way r c.take_plain.new.table c.take_plain.new.outbox c.requires.way c.take_plain.ensures.refusal
    c.take_plain.ensures.table c.take_plain.ensures.out)
