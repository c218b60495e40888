use Rattle.std.proofs.Common.{◌≡◌, true, false, length, sym, ◌∙◌, ap, subst, arith, rules, OnOk, bytes_eq}
use Rattle.audit_streams.specs.Inside.Transcripts.{Transcribed, IsOther, with_octets, closed, changed}
use Rattle.audit_streams.proofs.PieceTaken.{extend_short, unit_some, unit_short, ended_is}
use Rattle.audit_streams.proofs.taking.end_unit.Goals as goal

pub change-requires-clause-some : goal.change-requires-clause-some
change-requires-clause-some g c =
    let m = g.D.Dialogue.meaning c.args.dialogue.now in
    unit_some m
    (g.met.D.Dialogue.lawful c.args.dialogue.now) false c.args.transcript.now c.args.octets.now c.args.unit.now c.requires.of c.requires.joined
    c.requires.unit

pub change-requires-clause-short : goal.change-requires-clause-short
change-requires-clause-short g c =
    let m = g.D.Dialogue.meaning c.args.dialogue.now in
    let other : IsOther m c.args.unit.now c.in-Some.image.items = search rules in
    let short =
    unit_short m
    (g.met.D.Dialogue.lawful c.args.dialogue.now) false c.args.transcript.now c.args.octets.now c.args.unit.now c.requires.of
    c.requires.joined c.requires.unit c.requires.few in
    omega (arith, short, ap length (c.deref.ensures.value ∙ other.is))

pub returns-in-Some-clause-ok : goal.returns-in-Some-clause-ok
returns-in-Some-clause-ok g c =
    let m = g.D.Dialogue.meaning c.args.dialogue.now in
    let other : IsOther m c.args.unit.now c.in-Some.image.items = search rules in
    let k = with_octets c.args.transcript.now c.args.octets.now in
    subst (λ (j : Transcribed). OnOk c.change.result (c.change.new.self ≡ j))
    (ap (changed k) (c.deref.ensures.value ∙ other.is)
    ∙ sym (ended_is m false false c.args.transcript.now c.args.octets.now c.args.unit.now c.requires.of c.requires.joined other.other))
    c.change.ensures.ok

pub extend-requires-clause-short : goal.extend-requires-clause-short
extend-requires-clause-short g c =
    extend_short (g.D.Dialogue.meaning c.args.dialogue.now) (g.met.D.Dialogue.lawful c.args.dialogue.now) false c.args.transcript.now
    (length c.args.octets.now) c.requires.of c.requires.few

pub returns-in_ok-extend-in-None-clause-ok : goal.returns-in_ok-extend-in-None-clause-ok
returns-in_ok-extend-in-None-clause-ok g c =
    let m = g.D.Dialogue.meaning c.args.dialogue.now in
    let same : bytes_eq (m.image c.args.unit.now) c.args.unit.now ≡ true = search rules in
    c.close.ensures
    ∙ ap closed c.in_ok-extend-in-None.ensures.ok
    ∙ sym (ended_is m false true c.args.transcript.now c.args.octets.now c.args.unit.now c.requires.of c.requires.joined same)
