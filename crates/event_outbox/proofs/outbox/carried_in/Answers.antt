use Rattle.std.proofs.Common.{◌∙◌, sym, ap, arith, length, length-drop}
use Rattle.std.proofs.lemmas.List.{take_rest}
use Rattle.twice_translate.proofs.Whole.{can_translate}
use Rattle.event_outbox.proofs.Changed.{behind, udp_long}
use Rattle.event_outbox.proofs.outbox.carried_in.Goals as goal

pub slice_bounds-result-count : goal.slice_bounds-result-count
slice_bounds-result-count c = udp_long c.args.octets.now c.requires.can c.requires.protocol

pub slice_bounds-result-start : goal.slice_bounds-result-start
slice_bounds-result-start c = udp_long c.args.octets.now c.requires.can c.requires.protocol

pub returns-clause-carried : goal.returns-clause-carried
returns-clause-carried c = take_rest c.args.octets.now 28 ∙ sym (behind c.args.octets.now (can_translate c.args.octets.now c.requires.can))

pub returns-clause-length : goal.returns-clause-length
returns-clause-length c =
    omega (
      arith,
      ap length (take_rest c.args.octets.now 28),
      length-drop 28 c.args.octets.now,
      udp_long c.args.octets.now c.requires.can c.requires.protocol,
    )
