use Rattle.std.proofs.Common.{◌≡◌, arith, sym, subst}
use Rattle.memory_desks.specs.Counted.{told_by}
use Rattle.gate_desk.specs.Outside.{Takes}
use Rattle.gate_desk.proofs.Laws.{takes_none}
use Rattle.memory_desks.proofs.counted_desk.CountedDeskDesk.skip.Goals as goal

pub returns-clause-takes : goal.returns-clause-takes
returns-clause-takes c =
    let none : c.args._count ≡ 0 = omega arith in
    subst (λ n. Takes c.args._slot n (told_by c.args.self.now) (told_by c.args.self.now)) (sym none)
    (takes_none c.args._slot (told_by c.args.self.now))
