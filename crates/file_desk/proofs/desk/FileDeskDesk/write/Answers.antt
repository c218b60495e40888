use Rattle.std.proofs.Common.{ℕ, List, [], append-nil, arith, length, subst, take_all}
use Rattle.std.proofs.lemmas.Result.{err_from_is_err_and}
use Rattle.file_desk.specs.Gathering.{TakesPiece, Waits}
use Rattle.file_desk.proofs.FileLaws.{untold_writes_same}
use Rattle.file_desk.proofs.desk.FileDeskDesk.write.Goals as goal

pub returns-in_err-write_both-clause-err : goal.returns-in_err-write_both-clause-err
returns-in_err-write_both-clause-err g c =
    let p = err_from_is_err_and c.from_residual.result c.from_residual.ensures.1 in
    rw p.1 (untold_writes_same c.args.slot _ [] _ _ _ _ c.in_err-write_both.ensures.err.2)

pub returns-clause-ok : goal.returns-clause-ok
returns-clause-ok g c = rw (take_all (length c.args.piece.now) c.args.piece.now (omega arith)) (rw append-nil at c.in_ok-write_both.ensures.ok)

pub returns-clause-waits : goal.returns-clause-waits
returns-clause-waits g c = subst (λ (xs : List ℕ). Waits c.args.slot xs c.args.self.now.waiting c.write_both.new.self.waiting)
    (append-nil c.args.piece.now) c.in_ok-write_both.ensures.waits

pub returns-clause-takes : goal.returns-clause-takes
returns-clause-takes g c =
    subst (λ (xs : List ℕ). TakesPiece c.args.slot xs c.args.self.now.got c.args.self.now.waiting c.write_both.new.self.got
    c.write_both.new.self.waiting) (append-nil c.args.piece.now) c.in_ok-write_both.ensures.takes

pub returns-in_err-write_both-clause-fails : goal.returns-in_err-write_both-clause-fails
returns-in_err-write_both-clause-fails g c = rw (err_from_is_err_and c.from_residual.result c.from_residual.ensures.1).1
    c.in_err-write_both.ensures.fails
