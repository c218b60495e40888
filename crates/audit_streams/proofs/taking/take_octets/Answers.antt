use Rattle.std.proofs.Common.{◌≡◌, ◌-◌, ◌++◌, length, take, drop, sym, ◌∙◌, ap, subst, arith, append_assoc}
use Rattle.std.proofs.lemmas.List.{length-drop, take_rest}
use Rattle.std.proofs.Math.Seq.{take-add}
use Rattle.audit_streams.specs.Inside.Transcripts.{IsOf}
use Rattle.audit_streams.proofs.taking.take_octets.Goals as goal

pub loop-at-preserved : goal.loop-at-preserved
loop-at-preserved g c =
    let octets = c.args.octets.now in
    let at = c.loop-at.at in
    let count = c.in_ok-at.field-0 in
    let kept = c.loop-at.invariant in
    let whole : take (length octets - at) (drop at octets) ≡ drop at octets = take_rest octets at in
    record {
      within = omega (arith, c.in_ok-at.ensures.within, ap length whole, length-drop at octets, kept.within);
      of = subst (λ d. IsOf (g.D.Dialogue.meaning d) c.take_piece.new.transcript c.take_piece.new.released)
          (sym c.in_ok-at.ensures.same) c.in_ok-at.ensures.of;
      taken =
          c.in_ok-at.ensures.taken
          ∙ ap (λ v. c.loop-at.transcript.octets ++ take count v) whole
          ∙ ap (λ v. v ++ take count (drop at octets)) kept.taken
          ∙ append_assoc c.args.transcript.now.octets (take at octets) (take count (drop at octets))
          ∙ ap (λ v. c.args.transcript.now.octets ++ v) (sym (take-add at count octets));
      same = c.in_ok-at.ensures.same ∙ kept.same;
    }
