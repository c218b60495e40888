use Rattle.std.proofs.Common.{◌≤◌, ◌-◌, ◌++◌, Bool, List, ℕ, length, take, sym, ◌∙◌, ap, subst, arith, not, length-append}
use Rattle.dialogue.specs.Prelude.{IsUnit, IsRest}
use Rattle.audit_streams.specs.Inside.Transcripts.{rest_of, IsOf}
use Rattle.audit_streams.proofs.PieceTaken.{extend_short, ends_behind, unit_ends, rest_goes, some_released}
use Rattle.audit_streams.proofs.taking.take_held.Goals as goal

pub overflow_sub-count-in-Some : goal.overflow_sub-count-in-Some
overflow_sub-count-in-Some g c =
    let m = g.D.Dialogue.meaning c.args.dialogue.now in
    let behind =
    ends_behind m
    (g.met.D.Dialogue.lawful c.args.dialogue.now) c.args.released.now c.args.transcript.now c.args.octets.now c.args.joined.now c.in-Some.end
    c.requires.of c.requires.joined (sym c.first_end.ensures ∙ c.in-Some.is) in
    behind.above

pub end_unit-requires-clause-joined : goal.end_unit-requires-clause-joined
end_unit-requires-clause-joined g c =
    let m = g.D.Dialogue.meaning c.args.dialogue.now in
    let behind =
    ends_behind m
    (g.met.D.Dialogue.lawful c.args.dialogue.now) c.args.released.now c.args.transcript.now c.args.octets.now c.args.joined.now c.in-Some.end
    c.requires.of c.requires.joined (sym c.first_end.ensures ∙ c.in-Some.is) in
    behind.is

pub end_unit-requires-clause-unit : goal.end_unit-requires-clause-unit
end_unit-requires-clause-unit g c =
    let m = g.D.Dialogue.meaning c.args.dialogue.now in
    let behind =
    ends_behind m
    (g.met.D.Dialogue.lawful c.args.dialogue.now) c.args.released.now c.args.transcript.now c.args.octets.now c.args.joined.now c.in-Some.end
    c.requires.of c.requires.joined (sym c.first_end.ensures ∙ c.in-Some.is) in
    behind.unit

pub returns-in_ok-end_unit-in-Some-clause-some : goal.returns-in_ok-end_unit-in-Some-clause-some
returns-in_ok-end_unit-in-Some-clause-some g c =
    let m = g.D.Dialogue.meaning c.args.dialogue.now in
    let behind =
    ends_behind m
    (g.met.D.Dialogue.lawful c.args.dialogue.now) c.args.released.now c.args.transcript.now c.args.octets.now c.args.joined.now c.in-Some.end
    c.requires.of c.requires.joined (sym c.first_end.ensures ∙ c.in-Some.is) in
    behind.some

pub returns-in_ok-end_unit-in-Some-clause-within : goal.returns-in_ok-end_unit-in-Some-clause-within
returns-in_ok-end_unit-in-Some-clause-within g c =
    let m = g.D.Dialogue.meaning c.args.dialogue.now in
    let behind =
    ends_behind m
    (g.met.D.Dialogue.lawful c.args.dialogue.now) c.args.released.now c.args.transcript.now c.args.octets.now c.args.joined.now c.in-Some.end
    c.requires.of c.requires.joined (sym c.first_end.ensures ∙ c.in-Some.is) in
    behind.within

pub returns-in_ok-end_unit-in-Some-clause-of : goal.returns-in_ok-end_unit-in-Some-clause-of
returns-in_ok-end_unit-in-Some-clause-of g c =
    let m = g.D.Dialogue.meaning c.args.dialogue.now in
    let behind =
    ends_behind m
    (g.met.D.Dialogue.lawful c.args.dialogue.now) c.args.released.now c.args.transcript.now c.args.octets.now c.args.joined.now c.in-Some.end
    c.requires.of c.requires.joined (sym c.first_end.ensures ∙ c.in-Some.is) in
    let count = c.in-Some.end - (length c.args.joined.now - length c.args.octets.now) in
    subst (λ (b : Bool). IsOf m c.end_unit.new.transcript b) (sym c.requires.waits)
    (unit_ends m (g.met.D.Dialogue.lawful c.args.dialogue.now) c.args.released.now c.args.transcript.now c.end_unit.new.transcript
    (take count c.args.octets.now) c.requires.of
    (subst (λ (v : List ℕ). IsUnit m v) behind.is behind.unit)
    c.in_ok-end_unit-in-Some.ensures.ok)

pub extend-requires-clause-short : goal.extend-requires-clause-short
extend-requires-clause-short g c =
    extend_short (g.D.Dialogue.meaning c.args.dialogue.now) (g.met.D.Dialogue.lawful c.args.dialogue.now) c.args.released.now c.args.transcript.now
    (length c.args.octets.now) c.requires.of c.requires.few

pub returns-in_ok-extend-in-None-clause-of : goal.returns-in_ok-extend-in-None-clause-of
returns-in_ok-extend-in-None-clause-of g c =
    let m = g.D.Dialogue.meaning c.args.dialogue.now in
    let whole = rest_of c.args.transcript.now ++ c.args.octets.now in
    let none : IsRest m whole = ap m.first_end (sym c.requires.joined) ∙ sym c.first_end.ensures ∙ c.in-None.is in
    let some : 1 ≤ length whole = omega (arith, c.requires.some, length-append (rest_of c.args.transcript.now) c.args.octets.now) in
    rest_goes m (g.met.D.Dialogue.lawful c.args.dialogue.now) c.args.released.now
    (not c.holds.result) c.args.transcript.now c.extend.new.self c.args.octets.now c.requires.of c.in_ok-extend-in-None.ensures.ok none
    (ap not (c.holds.ensures ∙ ap m.holds c.requires.joined) ∙ sym (some_released m whole some))
