use Rattle.std.proofs.Common.{◌≡◌, ◌++◌, ◌∙◌, arith, take, length, ap, sym, subst, OnOk, OnErr, eqb-true}
use Rattle.std.proofs.lemmas.List.{take_all, take_rest, take-append-drop, nil_from_length}
use Rattle.std.proofs.lemmas.Result.{err_from_is_err_and, on_ok_weaker, on_err_weaker}
use Rattle.gate_desk.specs.Outside.{Writes, WritesPart}
use Rattle.gate_desk.proofs.Laws.{failed_later, writes_none, writes_on, writes_part_on}
use Rattle.gate_desk.proofs.whole.write_whole.Goals as goal

pub returns-then-is_empty-clause-ok : goal.returns-then-is_empty-clause-ok
returns-then-is_empty-clause-ok g c =
    let old = g.D.Desk.outside c.args.desk.now in
    let none : length c.args.piece.now ≡ 0 = eqb-true (length c.args.piece.now) 0 (sym c.if-is_empty.ensures) in
    subst (λ xs. Writes c.args.slot xs old old) (sym (nil_from_length c.args.piece.now none)) (writes_none c.args.slot old)

pub returns-clause-ok : goal.returns-clause-ok
returns-clause-ok g c =
    let old = g.D.Desk.outside c.args.desk.now in
    let new = g.D.Desk.outside c.write_rest.new.desk in
    let piece = c.args.piece.now in
    let n = c.in_ok-n.n in
    let whole = ap (λ xs. take n piece ++ xs) (take_rest piece n) ∙ take-append-drop n piece in
    subst (λ xs. OnOk c.write_rest.result (Writes c.args.slot xs old new)) whole
    (on_ok_weaker c.write_rest.result (λ h. writes_on c.args.slot _ _ _ _ _ c.in_ok-n.ensures.ok h) c.write_rest.ensures.ok)

pub returns-clause-err : goal.returns-clause-err
returns-clause-err g c =
    let old = g.D.Desk.outside c.args.desk.now in
    let new = g.D.Desk.outside c.write_rest.new.desk in
    let piece = c.args.piece.now in
    let n = c.in_ok-n.n in
    let whole = ap (λ xs. take n piece ++ xs) (take_rest piece n) ∙ take-append-drop n piece in
    subst (λ xs. OnErr c.write_rest.result (WritesPart c.args.slot xs old new)) whole
    (on_err_weaker c.write_rest.result (λ h. writes_part_on c.args.slot _ _ _ _ _ c.in_ok-n.ensures.ok h) c.write_rest.ensures.err)

pub returns-in_err-n-clause-err : goal.returns-in_err-n-clause-err
returns-in_err-n-clause-err g c = rw (err_from_is_err_and c.from_residual.result c.from_residual.ensures.1).1 (0, omega arith, c.in_err-n.ensures.err)

pub returns-in_err-n-clause-cause : goal.returns-in_err-n-clause-cause
returns-in_err-n-clause-cause g c = rw (err_from_is_err_and c.from_residual.result c.from_residual.ensures.1).1 c.in_err-n.ensures.cause

pub returns-then-n-piece-clause-ok : goal.returns-then-n-piece-clause-ok
returns-then-n-piece-clause-ok g c = subst (λ xs. Writes c.args.slot xs (g.D.Desk.outside c.args.desk.now) (g.D.Desk.outside c.write.new.self))
    (take_all c.in_ok-n.n c.args.piece.now (omega arith)) c.in_ok-n.ensures.ok

pub returns-then-n-piece-clause-leaves : goal.returns-then-n-piece-clause-leaves
returns-then-n-piece-clause-leaves g c = c.in_ok-n.ensures.leaves

pub returns-clause-leaves : goal.returns-clause-leaves
returns-clause-leaves g c = on_ok_weaker c.write_rest.result (λ h. h ∙ c.in_ok-n.ensures.leaves) c.write_rest.ensures.leaves

pub returns-clause-cause : goal.returns-clause-cause
returns-clause-cause g c =
    let outside = g.D.Desk.outside in
    on_err_weaker c.write_rest.result
    (λ h. failed_later c.args.slot (outside c.args.desk.now) (outside c.write.new.self) (outside c.write_rest.new.desk)
    c.in_ok-n.ensures.ok.faults h) c.write_rest.ensures.cause
