use Rattle.std.proofs.Common.{◌∙◌, ◌&&◌, true, Bool, sym, ap}
use Rattle.tcp_segments.specs.declared.flags.Flags.{Flags}
use Rattle.lawful_files.specs.Progress as progress
use Rattle.audit_records.proofs.cutting.is_pushed.Goals as goal

pub returns-then-flags-clause-answer : goal.returns-then-flags-clause-answer
returns-then-flags-clause-answer c =
    let r = c.args.came.now in
    let p = c.args.pieces.now in
    let one = progress.carries_piece r.settings r.side r.moment p.datagram p.source p.destination p.sent c.args.carried r.packet c.args.size true in
    c.is_piece.ensures.answer ∙ ap (λ (b : Bool). b && one) (sym (sym (ap (λ (f : Flags). f.push) c.flags.ensures.is) ∙ c.if-flags.true))

pub returns-clause-answer : goal.returns-clause-answer
returns-clause-answer c =
    let r = c.args.came.now in
    let p = c.args.pieces.now in
    let one = progress.carries_piece r.settings r.side r.moment p.datagram p.source p.destination p.sent c.args.carried r.packet c.args.size true in
    ap (λ (b : Bool). b && one) (sym (sym (ap (λ (f : Flags). f.push) c.flags.ensures.is) ∙ c.if-flags.false))
