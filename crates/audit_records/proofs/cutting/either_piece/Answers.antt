use Rattle.std.proofs.Common.{◌∙◌, ◌&&◌, ◌||◌, true, Bool, sym, ap}
use Rattle.lawful_files.specs.Progress as progress
use Rattle.audit_records.proofs.cutting.either_piece.Goals as goal

pub returns-then-is_piece-clause-answer : goal.returns-then-is_piece-clause-answer
returns-then-is_piece-clause-answer c =
    let r = c.args.came.now in
    let p = c.args.pieces.now in
    let two =
    p.sent.flags.push && progress.carries_piece r.settings r.side r.moment p.datagram p.source p.destination p.sent c.args.carried r.packet
    c.args.size true in
    ap (λ (b : Bool). b || two) (sym (sym c.is_piece.ensures.answer ∙ c.if-is_piece.true))

pub returns-clause-answer : goal.returns-clause-answer
returns-clause-answer c =
    let r = c.args.came.now in
    let p = c.args.pieces.now in
    let two =
    p.sent.flags.push && progress.carries_piece r.settings r.side r.moment p.datagram p.source p.destination p.sent c.args.carried r.packet
    c.args.size true in
    c.is_pushed.ensures.answer ∙ ap (λ (b : Bool). b || two) (sym (sym c.is_piece.ensures.answer ∙ c.if-is_piece.false))
