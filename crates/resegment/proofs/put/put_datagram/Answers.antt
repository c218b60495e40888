use Rattle.std.proofs.Common.{rules, ◌≡◌, ◌-◌, ◌++◌, length, take, drop, refl, sym, ap, subst, ◌∙◌, append_assoc, ◌≤◌, take_at, drop_at}
use Rattle.tcp_segments.specs.Prelude.{flags_octet, IsTcpHeader, spelled_segment, datagram_of}
use Rattle.resegment.proofs.PieceLemmas.{parts_behind, written_behind}
use Rattle.resegment.proofs.put.put_datagram.Goals as goal

pub finish_segment-requires-clause-tcp : goal.finish_segment-requires-clause-tcp
finish_segment-requires-clause-tcp c =
    let m = c.args.model.now in
    let items : c.deref_mut.result.now ≡ ((c.args.outbox.now.items ++ m.ip.now) ++ m.tcp.now) ++ c.args.octets.now = search rules in
    let start : c.len-start.result ≡ length c.args.outbox.now.items = search rules in
    let whole =
    parts_behind c.args.outbox.now.items m.ip.now m.tcp.now c.args.octets.now c.deref_mut.result.now c.len-start.result start c.requires.ip
    items in
    subst IsTcpHeader (sym (ap (take (length m.tcp.now)) whole ∙ take_at m.tcp.now c.args.octets.now (length m.tcp.now) refl)) c.requires.tcp

pub returns-clause-octets : goal.returns-clause-octets
returns-clause-octets c =
    let m = c.args.model.now in
    let items : c.deref_mut.result.now ≡ ((c.args.outbox.now.items ++ m.ip.now) ++ m.tcp.now) ++ c.args.octets.now = search rules in
    let start : c.len-start.result ≡ length c.args.outbox.now.items = search rules in
    let whole =
    parts_behind c.args.outbox.now.items m.ip.now m.tcp.now c.args.octets.now c.deref_mut.result.now c.len-start.result start c.requires.ip
    items in
    let tcp = ap (take (length m.tcp.now)) whole ∙ take_at m.tcp.now c.args.octets.now (length m.tcp.now) refl in
    let octets = ap (drop (length m.tcp.now)) whole ∙ drop_at m.tcp.now c.args.octets.now (length m.tcp.now) refl in
    let target : c.finish_segment.new.target ≡ datagram_of m.ip.now m.source.0 m.destination.0 m.lifetime
    (spelled_segment m.tcp.now m.source.0 m.destination.0 c.args.sequence m.acknowledgement (flags_octet c.args.flags) c.args.octets.now) =
    c.finish_segment.ensures
    ∙ ap (λ xs. datagram_of m.ip.now m.source.0 m.destination.0 m.lifetime
    (spelled_segment xs m.source.0 m.destination.0 c.args.sequence m.acknowledgement c.flags_octet.result
    (drop (length m.tcp.now)
    (drop 20 (take (length c.deref_mut.result.now - c.len-start.result) (drop c.len-start.result c.deref_mut.result.now)))))) tcp
    ∙ ap (λ xs. datagram_of m.ip.now m.source.0 m.destination.0 m.lifetime
    (spelled_segment m.tcp.now m.source.0 m.destination.0 c.args.sequence m.acknowledgement c.flags_octet.result xs)) octets
    ∙ ap (λ n. datagram_of m.ip.now m.source.0 m.destination.0 m.lifetime
    (spelled_segment m.tcp.now m.source.0 m.destination.0 c.args.sequence m.acknowledgement n c.args.octets.now)) c.flags_octet.ensures in
    let size : c.append-3.new.list.len ≡ length c.deref_mut.result.now = search rules in
    let front : take c.len-start.result c.deref_mut.result.now ≡ c.args.outbox.now.items =
    ap (take c.len-start.result)
    (items ∙ append_assoc (c.args.outbox.now.items ++ m.ip.now) m.tcp.now c.args.octets.now
    ∙ append_assoc c.args.outbox.now.items m.ip.now (m.tcp.now ++ c.args.octets.now))
    ∙ take_at c.args.outbox.now.items (m.ip.now ++ (m.tcp.now ++ c.args.octets.now)) c.len-start.result (sym start) in
    let within : c.len-start.result ≤ length c.deref_mut.result.now = search rules in
    let long : length c.finish_segment.new.target ≡ length c.deref_mut.result.now - c.len-start.result = search rules in
    written_behind c.args.outbox.now.items c.finish_segment.new.target c.deref_mut.result.now c.append-3.new.list.items c.append-3.new.list.len
    c.len-start.result size within front long
    ∙ ap (λ xs. c.args.outbox.now.items ++ xs) target
