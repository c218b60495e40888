use Rattle.std.proofs.Common.{◌≡◌, ◌++◌, ℕ, List, length, drop, min, ap, sym, ◌∙◌, arith}
use Rattle.std.proofs.lemmas.List.{take_rest}
use Rattle.stream_model.specs.Prelude.{own, start_of, segment_in}
use Rattle.gate_model.proofs.Completing.{none_completed}
use Rattle.dns_plans.specs.Prelude.{whole_units}
use Rattle.audit_sessions.specs.Inside.Sessions.{streams_of}
use Rattle.audit_sessions.proofs.CompletedUnits.{joined_completed, rest_is_short}
use Rattle.audit_sessions.proofs.session.put_units.Goals as goal

pub join-requires-clause-rest : goal.join-requires-clause-rest
join-requires-clause-rest c = omega (arith, ap length c.rest.ensures, rest_is_short c.args.session.now c.args.from)

pub returns-then-is_data : goal.returns-then-is_data
returns-then-is_data c =
    let f = c.args.from in
    let g = segment_in c.args.segment.now in
    let a = own f (streams_of c.args.session.now) in
    let behind : drop c.repeated-repeated.result c.payload.result.now ≡ drop (min (length g.octets) (start_of a g).before) g.octets =
    ap (λ (n : ℕ). drop n c.payload.result.now) c.repeated-repeated.ensures
    ∙ ap (drop (min (length g.octets) (start_of a g).before)) c.payload.ensures.octets in
    ap whole_units
    (c.join.ensures ∙ ap (λ (t : List ℕ). c.rest.result.now ++ t) (take_rest c.payload.result.now c.repeated-repeated.result ∙ behind)
    ∙ ap (λ (r : List ℕ). r ++ drop (min (length g.octets) (start_of a g).before) g.octets) c.rest.ensures)
    ∙ joined_completed c.args.session.now f g c.requires.passes (sym c.is_data.ensures ∙ c.if-is_data.true)

pub returns-else-is_data : goal.returns-else-is_data
returns-else-is_data c = ap whole_units c.requires.empty
    ∙ sym (none_completed (own c.args.from (streams_of c.args.session.now)) (segment_in c.args.segment.now)
    (sym c.is_data.ensures ∙ c.if-is_data.false))
