use Rattle.std.proofs.Common.{◌≡◌, ◌+◌, ◌-◌, ◌^◌, ◌<◌, ◌⊎◌, inl, inr, ℕ, List, Contains, length, sym, subst, arith}
use Rattle.std.proofs.lemmas.Bool.{false≢true}
use Rattle.std.proofs.lemmas.Result.{on_ok_weaker, on_err_weaker}
use Rattle.memory_desks.specs.Counted.{Counted, FailsToWrite, counted_with}
use Rattle.memory_desks.specs.Memory.{total}
use Rattle.gate_desk.proofs.Laws.{writes_on, writes_part_on}
use Rattle.memory_desks.proofs.MemoryLaws.{total-wrote}
use Rattle.memory_desks.proofs.counted_desk.CountedDeskDesk.write_both.Goals as goal

pub returns-clause-ok : goal.returns-clause-ok
returns-clause-ok c =
    on_ok_weaker c.write_piece-2.result (λ h. writes_on c.args.slot _ _ _ _ _ c.in_ok-write_piece.ensures.ok h) c.write_piece-2.ensures.ok

pub returns-clause-err : goal.returns-clause-err
returns-clause-err c =
    on_err_weaker c.write_piece-2.result
    (λ h. writes_part_on c.args.slot _ _ _ _ _ c.in_ok-write_piece.ensures.ok (0, omega arith, h)) c.write_piece-2.ensures.err

fails_same : (piece : List ℕ) (m n : ℕ) (d e : Counted) → m ≡ n → d.calls ≡ e.calls → d.failing ≡ e.failing → FailsToWrite piece m d
    → FailsToWrite piece n e
fails_same piece m n d e k calls failing h =
    let P : ℕ → ℕ → List ℕ → Type 0 = λ written calls failing. (0 < length piece)
    × (((calls < 2 ^ 64 - 1) × Contains failing (calls + 1)) ⊎ (2 ^ 26 < written + length piece)) in
    subst (λ x. P x e.calls e.failing) k (subst (λ x. P m x e.failing) calls (subst (P m d.calls) failing h))

pub returns-clause-exact : goal.returns-clause-exact
returns-clause-exact c =
    let old = c.args.self.now in
    let mid = c.write_piece.new.self in
    let second = c.args.second.now in
    let first = c.in_ok-write_piece.ensures in
    let then = counted_with c.args.first.now old in
    let more : total mid.inner.written ≡ total old.inner.written + length c.args.first.now =
    total-wrote c.args.slot c.args.first.now old.inner mid.inner first.ok in (
      λ failed.
          inr (fails_same second (total mid.inner.written) (total old.inner.written + length c.args.first.now) mid then more first.calls first.list
          (c.write_piece-2.ensures.exact.0 failed)),
      λ fails. elim fails [
        | inl one ↦ absurd (false≢true (first.exact.1 one))
        | inr two ↦ c.write_piece-2.ensures.exact.1
            (fails_same second (total old.inner.written + length c.args.first.now) (total mid.inner.written) then mid (sym more) (sym first.calls)
            (sym first.list) two)
      ],
    )
