use Rattle.std.proofs.Common.{ℕ, List, subst}
use Rattle.tcp_tracker.specs.declared.connection.Connection.{Connection}
use Rattle.tcp_tracker.specs.Prelude.{AreNamedOnce}
use Rattle.tcp_tracker.proofs.Names.{named_once}
use Rattle.tcp_tracker.proofs.tracker.Tracker.len.Goals as goal

pub returns-clause-names : goal.returns-clause-names
returns-clause-names c =
    let P : List (Connection ℕ) → Type 0 = λ all. AreNamedOnce all in
    subst P c.self.view_is (named_once c.self.inside.rows.rows c.self.invariant.filed c.len.ensures.distinct)
