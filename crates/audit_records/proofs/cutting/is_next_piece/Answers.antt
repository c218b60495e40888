use Rattle.std.proofs.Common.{◌∙◌, ◌+◌, ◌&&◌, ◌||◌, true, false, Bool, length, sym, ap}
use Rattle.lawful_files.specs.Progress as progress
use Rattle.audit_records.proofs.Fronts.{within_is}
use Rattle.audit_records.proofs.cutting.is_next_piece.Goals as goal

pub returns-then-is_within-clause-answer : goal.returns-then-is_within-clause-answer
returns-then-is_within-clause-answer c =
    let r = c.args.came.now in
    let p = c.args.pieces.now in
    c.either_piece.ensures.answer
    ∙ ap (λ (b : Bool). b && (progress.carries_piece r.settings r.side r.moment p.datagram p.source p.destination p.sent c.args.carried r.packet
    c.args.size false || (p.sent.flags.push && progress.carries_piece r.settings r.side r.moment p.datagram p.source p.destination p.sent
    c.args.carried r.packet c.args.size true))) (sym (sym c.is_within.ensures ∙ c.if-is_within.true))

pub returns-clause-answer : goal.returns-clause-answer
returns-clause-answer c =
    let r = c.args.came.now in
    let p = c.args.pieces.now in
    ap (λ (b : Bool). b && (progress.carries_piece r.settings r.side r.moment p.datagram p.source p.destination p.sent c.args.carried r.packet
    c.args.size false || (p.sent.flags.push && progress.carries_piece r.settings r.side r.moment p.datagram p.source p.destination p.sent
    c.args.carried r.packet c.args.size true))) (sym (sym c.is_within.ensures ∙ c.if-is_within.false))

pub either_piece-requires-clause-few : goal.either_piece-requires-clause-few
either_piece-requires-clause-few c =
    (within_is c.args.size c.args.pieces.now.sent.limit (c.args.carried + c.args.size) (length c.args.pieces.now.sent.octets)
    (sym c.is_within.ensures ∙ c.if-is_within.true)).0

pub either_piece-requires-clause-within : goal.either_piece-requires-clause-within
either_piece-requires-clause-within c =
    (within_is c.args.size c.args.pieces.now.sent.limit (c.args.carried + c.args.size) (length c.args.pieces.now.sent.octets)
    (sym c.is_within.ensures ∙ c.if-is_within.true)).1
