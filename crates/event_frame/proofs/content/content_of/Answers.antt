use Rattle.std.proofs.Common.{◌==◌, refl, sym, ap, ◌∙◌, ne_eqb}
use Rattle.udp_icmp.specs.Udp.{udp_fields_of}
use Rattle.udp_icmp.specs.Icmp.{icmp_fields_of}
use Rattle.gate_model.specs.Prelude.{tcp_of}
use Rattle.event_frame.specs.declared.content.Content.TheVariants.{Udp, Icmp, Tcp}
use Rattle.event_frame.proofs.Tests.{udp_read, tcp_read, icmp_read, carries}
use Rattle.event_frame.proofs.content.content_of.Goals as goal

pub returns-then-protocol-eq-UDP : goal.returns-then-protocol-eq-UDP
returns-then-protocol-eq-UDP c =
    let d = c.args.datagram.now in
    let p = sym c.protocol.ensures ∙ c.if-protocol-eq-UDP.true in
    carries d Udp (udp_fields_of d.payload) c.of.result c.map.result c.map_err.result
    (udp_read d c.payload-payload.result.now c.source-source.result.0 c.destination-destination.result.0 c.of.result p
    c.payload-payload.ensures.octets c.source-source.ensures c.destination-destination.ensures c.of.ensures) c.map.ensures.cases
    c.map_err.ensures.cases (p, refl)

pub returns-then-protocol-eq-TCP : goal.returns-then-protocol-eq-TCP
returns-then-protocol-eq-TCP c =
    let d = c.args.datagram.now in
    let p = sym c.protocol-else-protocol-eq-UDP.ensures ∙ c.if-protocol-eq-TCP.true in
    carries d Tcp (tcp_of d) c.of-then-protocol-eq-TCP.result c.map-then-protocol-eq-TCP.result c.map_err-then-protocol-eq-TCP.result
    (tcp_read d c.payload-payload.result.now c.source-source.result.0 c.destination-destination.result.0 c.of-then-protocol-eq-TCP.result p
    c.payload-payload.ensures.octets c.source-source.ensures c.destination-destination.ensures c.of-then-protocol-eq-TCP.ensures)
    c.map-then-protocol-eq-TCP.ensures.cases c.map_err-then-protocol-eq-TCP.ensures.cases (p, refl)

pub returns-else-protocol-eq-TCP : goal.returns-else-protocol-eq-TCP
returns-else-protocol-eq-TCP c =
    let d = c.args.datagram.now in
    let p = ap (λ n. n == 17) (sym c.protocol.ensures) ∙ ne_eqb _ _ c.if-protocol-eq-UDP.false in
    let q = ap (λ n. n == 6) (sym c.protocol-else-protocol-eq-UDP.ensures) ∙ ne_eqb _ _ c.if-protocol-eq-TCP.false in
    carries d Icmp (icmp_fields_of d.payload) c.of-else-protocol-eq-TCP.result c.map-else-protocol-eq-TCP.result c.map_err-else-protocol-eq-TCP.result
    (icmp_read d c.payload-payload.result.now c.of-else-protocol-eq-TCP.result p q c.payload-payload.ensures.octets
    c.of-else-protocol-eq-TCP.ensures) c.map-else-protocol-eq-TCP.ensures.cases c.map_err-else-protocol-eq-TCP.ensures.cases (p, q, refl)
