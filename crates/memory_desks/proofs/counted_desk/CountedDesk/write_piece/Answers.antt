use Rattle.std.proofs.Common.{◌≡◌, length, sym, subst, eqb-true}
use Rattle.std.proofs.lemmas.List.{nil_from_length}
use Rattle.memory_desks.specs.Counted.{told_by}
use Rattle.gate_desk.specs.Outside.{Writes}
use Rattle.gate_desk.proofs.Laws.{writes_none}
use Rattle.memory_desks.proofs.counted_desk.CountedDesk.write_piece.Goals as goal

pub returns-then-is_empty-clause-ok : goal.returns-then-is_empty-clause-ok
returns-then-is_empty-clause-ok c =
    let old = told_by c.args.self.now in
    let none : length c.args.piece.now ≡ 0 = eqb-true (length c.args.piece.now) 0 (sym c.if-is_empty.ensures) in
    subst (λ xs. Writes c.args.slot xs old old) (sym (nil_from_length c.args.piece.now none)) (writes_none c.args.slot old)
