use Rattle.std.proofs.Common.{◌∙◌, ◌-◌, if◌then◌else◌, ℕ, Bool, length, sym, ap}
use Rattle.lawful_files.specs.Progress as progress
use Rattle.audit_records.proofs.cutting.is_right_cut.Goals as goal

pub is_alone-requires-clause-none : goal.is_alone-requires-clause-none
is_alone-requires-clause-none c = c.is_nothing.ensures.none c.if-is_nothing.true

pub returns-then-is_nothing-clause-answer : goal.returns-then-is_nothing-clause-answer
returns-then-is_nothing-clause-answer c =
    let r = c.args.came.now in
    let p = c.args.pieces.now in
    let one = progress.is_alone r.settings r.side r.moment p.datagram p.source p.destination p.sent c.args.count r.packet in
    let two =
    progress.is_next_piece r.settings r.side r.moment p.datagram p.source p.destination p.sent c.args.carried r.packet
    (length r.packet.octets - progress.before_octets r.settings r.side p.datagram) in
    c.is_alone.ensures.answer ∙ ap (λ (b : Bool). if b then one else two) (sym (sym c.is_nothing.ensures.is ∙ c.if-is_nothing.true))

pub returns-clause-answer : goal.returns-clause-answer
returns-clause-answer c =
    let r = c.args.came.now in
    let p = c.args.pieces.now in
    let one = progress.is_alone r.settings r.side r.moment p.datagram p.source p.destination p.sent c.args.count r.packet in
    let two =
    progress.is_next_piece r.settings r.side r.moment p.datagram p.source p.destination p.sent c.args.carried r.packet
    (length r.packet.octets - progress.before_octets r.settings r.side p.datagram) in
    c.is_next_piece.ensures.answer
    ∙ ap (λ (n : ℕ). progress.is_next_piece r.settings r.side r.moment p.datagram p.source p.destination p.sent c.args.carried r.packet n)
    c.size_of-size.ensures.is
    ∙ ap (λ (b : Bool). if b then one else two) (sym (sym c.is_nothing.ensures.is ∙ c.if-is_nothing.false))
