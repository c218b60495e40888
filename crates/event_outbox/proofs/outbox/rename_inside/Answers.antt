use Rattle.std.proofs.Common.{◌≡◌, ◌-◌, List, ℕ, length, take, drop, IsTrue, ap, sym, subst, ◌∙◌}
use Rattle.std.proofs.lemmas.List.{take_rest}
use Rattle.icmp_errors.specs.Inner.{is_inner, inner_with}
use Rattle.twice_translate.specs.Renamed.{CanTranslate, datagram_of}
use Rattle.twice_translate.proofs.Whole.{can_translate}
use Rattle.gate_model.specs.Prelude.{inside, with_inside}
use Rattle.event_outbox.proofs.Changed.{behind, changes, inside_long, last_part}
use Rattle.event_outbox.proofs.outbox.rename_inside.Goals as goal

pub slice_bounds-put_inner-count : goal.slice_bounds-put_inner-count
slice_bounds-put_inner-count c = inside_long c.args.datagram.now c.requires.can c.requires.inside

pub slice_bounds-put_inner-start : goal.slice_bounds-put_inner-start
slice_bounds-put_inner-start c = inside_long c.args.datagram.now c.requires.can c.requires.inside

pub put_inner-requires : goal.put_inner-requires
put_inner-requires c =
    let octets = c.args.datagram.now in
    subst (λ (xs : List ℕ). IsTrue (is_inner xs)) (behind octets (can_translate octets c.requires.can) ∙ sym (take_rest octets 28)) c.requires.inside

pub returns-clause-can : goal.returns-clause-can
returns-clause-can c =
    let octets = c.args.datagram.now in
    let new = c.put_inner.new.inner in
    let long = inside_long octets c.requires.can c.requires.inside in
    subst CanTranslate (sym (last_part 28 octets new long))
    (changes octets new (can_translate octets c.requires.can) long (c.put_inner.auto.inner ∙ ap length (take_rest octets 28))).can

pub returns-clause-payload : goal.returns-clause-payload
returns-clause-payload c =
    let octets = c.args.datagram.now in
    let new = c.put_inner.new.inner in
    let can = can_translate octets c.requires.can in
    let long = inside_long octets c.requires.can c.requires.inside in
    let rest : take (length octets - 28) (drop 28 octets) ≡ inside (datagram_of octets) = take_rest octets 28 ∙ sym (behind octets can) in
    ap datagram_of (last_part 28 octets new long)
    ∙ (changes octets new can long (c.put_inner.auto.inner ∙ ap length (take_rest octets 28))).same
    ∙ ap (with_inside (datagram_of octets))
    (c.put_inner.ensures ∙ ap (λ (xs : List ℕ). inner_with xs c.args.source.0 c.args.destination.0 c.args.sequence) rest)
