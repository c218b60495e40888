use Rattle.std.proofs.Common.{◌≡◌, ◌∙◌, ap, sym, subst, ℕ, List}
use Rattle.std.proofs.lemmas.List.Elements.{All-same}
use Rattle.expiring_table.specs.Prelude.{Table, living, without}
use Rattle.tcp_tracker.specs.declared.connection.Connection.{Connection}
use Rattle.tcp_tracker.specs.Prelude.{live, IsEnded, IsFiled}
use Rattle.tcp_tracker.proofs.Names.{connections_in}
use Rattle.tcp_tracker.proofs.Living.{ended_in, filed_without, live_in}
use Rattle.tcp_tracker.proofs.tracker.Tracker.next_ended.Goals as goal

pub returns-in_err-row-clause-none : goal.returns-in_err-row-clause-none
returns-in_err-row-clause-none c =
    let none = c.in_err-row.ensures.none in
    let rows = c.self.inside.rows.rows in
    let same : c.next_ended.new.self.rows ≡ rows = ap (λ (table : Table (Connection ℕ)). table.rows) none in
    let stays : living c.args.now.0 rows ≡ rows = ap (living c.args.now.0) (sym same) ∙ c.in_err-row.ensures.live ∙ same in
    rw c.from_residual.ensures (
      ap connections_in same ∙ c.self.view_is,
      ap (live c.args.now) (sym c.self.view_is) ∙ sym (live_in c.args.now rows c.self.invariant.filed)
          ∙ ap connections_in stays ∙ c.self.view_is,
    )

pub invariant_of-self-2 : goal.invariant_of-self-2
invariant_of-self-2 c =
    let taken = c.in_ok-row.ensures.some in
    let rows = c.self.inside.rows.rows in
    record {
      most = taken.0 ∙ c.self.invariant.most;
      filed = All-same IsFiled c.next_ended.new.self.rows (without c.in_ok-row.row.key rows) taken.1.rest
          (filed_without c.in_ok-row.row.key rows c.self.invariant.filed);
    }

pub returns-clause-some : goal.returns-clause-some
returns-clause-some c =
    let known = c.in_ok-row.ensures in
    subst (λ (old : List (Connection ℕ)). IsEnded c.args.now old (connections_in c.next_ended.new.self.rows) c.in_ok-row.row.value) c.self.view_is
    (ended_in c.args.now c.in_ok-row.row c.self.inside.rows.rows c.next_ended.new.self.rows c.self.invariant.filed known.distinct known.some.1)
