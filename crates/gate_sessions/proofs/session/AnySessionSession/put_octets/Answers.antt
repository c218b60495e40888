use Rattle.std.proofs.Common.{◌≡◌, ◌≤◌, ◌++◌, ℕ, List, true, length, drop, min, ap, sym, subst, ◌∙◌}
use Rattle.std.proofs.lemmas.List.{take_rest}
use Rattle.gate_base.specs.declared.event.Pair.{Pair}
use Rattle.gate_base.specs.declared.host.Host.{Host}
use Rattle.gate_base.specs.declared.host.Host.TheVariants.{Client, Server}
use Rattle.dns_stream.specs.Inside.Ends.{rest-short}
use Rattle.stream_model.specs.Prelude.{Segment, arrival, segment_in, is_data}
use Rattle.compact_stream.specs.Prelude.{start_kept, sender_kept}
use Rattle.gate_sessions.specs.Compact.{CompactSession, kept_units}
use Rattle.dns_plans.specs.Prelude.{whole_units}
use Rattle.gate_sessions.specs.Inside.Directions.{DnsKept, dns_session}
use Rattle.gate_sessions.specs.Inside.Sessions.{session_of, IsSession}
use Rattle.gate_sessions.specs.declared.kinds.SessionKind.{SessionKind}
use Rattle.gate_sessions.proofs.SessionLemmas.{joined_units}
use Rattle.gate_sessions.proofs.session.AnySessionSession.put_octets.Goals as goal

-- no held rest is longer than a unit that isn't whole
rest_in : (pair : Pair) (d : DnsKept) (f : Host) → IsSession (dns_session pair d) → length (sender_kept f d.kept).rest ≤ 8193
rest_in pair d Client s = rest-short d.kept.client.rest s.some.stands.client.rest
rest_in pair d Server s = rest-short d.kept.server.rest s.some.stands.server.rest

pub join-requires-clause-rest : goal.join-requires-clause-rest
join-requires-clause-rest c =
    let f = c.args.from in
    let d : DnsKept = c.in-Units.session in
    subst (λ (r : List ℕ). length r ≤ 8193) (sym c.rest.ensures)
    (rest_in c.self.inside.pair d f (subst (λ (x : SessionKind). IsSession (session_of c.self.inside.pair x)) c.in-Units.is c.self.invariant.1))

pub returns-then-is_data : goal.returns-then-is_data
returns-then-is_data c =
    let f = c.args.from in
    let pair = c.self.inside.pair in
    let d : DnsKept = c.in-Units.session in
    let g : Segment = segment_in c.args.segment.now in
    let seen : dns_session pair d ≡ c.args.self.now = ap (session_of pair) (sym c.in-Units.is) ∙ c.self.view_is in
    let repeated : c.repeated-repeated.result ≡ min (length g.octets) (start_kept (sender_kept f d.kept) g).before = c.repeated-repeated.ensures in
    let fresh : drop c.repeated-repeated.result c.payload.result.now ≡ drop
    (min (length g.octets) (start_kept (sender_kept f d.kept) g).before) g.octets = ap (λ (n : ℕ). drop n c.payload.result.now) repeated
    ∙ ap (drop (min (length g.octets) (start_kept (sender_kept f d.kept) g).before)) c.payload.ensures.octets in
    let joined : c.join.new.self ≡ (sender_kept f d.kept).rest ++ drop (min (length g.octets) (start_kept (sender_kept f d.kept) g).before) g.octets =
    c.join.ensures
    ∙ ap (λ (t : List ℕ). c.rest.result.now ++ t) (take_rest c.payload.result.now c.repeated-repeated.result ∙ fresh)
    ∙ ap (λ (r : List ℕ). r ++ drop (min (length g.octets) (start_kept (sender_kept f d.kept) g).before) g.octets) c.rest.ensures in
    let data_is : is_data (arrival g) ≡ true = sym c.is_data.ensures ∙ c.if-is_data.true in
    ap whole_units joined ∙ joined_units pair d f g data_is ∙ ap (λ (k : CompactSession). kept_units f k g) seen
