use Rattle.std.proofs.Common.{length, take, sym, ◌∙◌, arith, length-take}
use Rattle.audit_streams.proofs.PieceTaken.{extend_short, free_goes, free_ends}
use Rattle.audit_streams.proofs.taking.take_released.Goals as goal

pub extend-requires-clause-short : goal.extend-requires-clause-short
extend-requires-clause-short g c =
    let t = c.args.octets.now in
    extend_short (g.D.Dialogue.meaning c.args.dialogue.now) (g.met.D.Dialogue.lawful c.args.dialogue.now) c.args.released.now c.args.transcript.now
    (length (take c.in-Some.end t)) c.requires.of
    (omega (arith, c.requires.few, length-take c.in-Some.end t))

pub extend-requires-in-None-clause-short : goal.extend-requires-in-None-clause-short
extend-requires-in-None-clause-short g c =
    extend_short (g.D.Dialogue.meaning c.args.dialogue.now) (g.met.D.Dialogue.lawful c.args.dialogue.now) c.args.released.now c.args.transcript.now
    (length c.args.octets.now) c.requires.of c.requires.few

pub returns-in_ok-extend-in-Some-clause-within : goal.returns-in_ok-extend-in-Some-clause-within
returns-in_ok-extend-in-Some-clause-within g c =
    ((g.met.D.Dialogue.lawful c.args.dialogue.now).within c.args.octets.now c.in-Some.end (sym c.first_end.ensures ∙ c.in-Some.is)).1

pub returns-in_ok-extend-in-Some-clause-of : goal.returns-in_ok-extend-in-Some-clause-of
returns-in_ok-extend-in-Some-clause-of g c =
    free_ends (g.D.Dialogue.meaning c.args.dialogue.now)
    (g.met.D.Dialogue.lawful c.args.dialogue.now) c.args.released.now c.args.transcript.now c.extend.new.self c.close.new.self c.args.octets.now
    c.in-Some.end c.requires.of c.requires.free
    (sym c.first_end.ensures ∙ c.in-Some.is)
    c.in_ok-extend-in-Some.ensures.ok
    c.close.ensures

pub returns-in_ok-extend-in-None-clause-of : goal.returns-in_ok-extend-in-None-clause-of
returns-in_ok-extend-in-None-clause-of g c =
    free_goes (g.D.Dialogue.meaning c.args.dialogue.now)
    (g.met.D.Dialogue.lawful c.args.dialogue.now) c.args.released.now c.args.transcript.now c.extend-in-None.new.self c.args.octets.now
    c.requires.of c.requires.free
    c.in_ok-extend-in-None.ensures.ok
    (sym c.first_end.ensures ∙ c.in-None.is)
