use Rattle.std.proofs.Common.{◌∙◌, ap, sym, subst, None, ℕ}
use Rattle.expiring_table.specs.Prelude.{Table, without}
use Rattle.tcp_tracker.specs.declared.connection.Connection.{Connection}
use Rattle.tcp_tracker.specs.Prelude.{place_of, changed, IsWhole}
use Rattle.tcp_tracker.proofs.Names.{connections_in, dropped_named}
use Rattle.tcp_tracker.proofs.Living.{filed_without}
use Rattle.tcp_tracker.proofs.tracker.Tracker.remove.Goals as goal

pub invariant_of-self : goal.invariant_of-self
invariant_of-self c =
    let P : Table (Connection ℕ) → Type 0 = λ table. IsWhole table in
    subst P (sym c.remove.ensures)
    (record { most = c.self.invariant.most; filed = filed_without c.number_of.result c.self.inside.rows.rows c.self.invariant.filed })

pub returns : goal.returns
returns c =
    let rows = c.self.inside.rows.rows in
    let key = c.args.key.now in
    ap (λ (table : Table (Connection ℕ)). connections_in table.rows) c.remove.ensures
    ∙ ap (λ number. connections_in (without number rows)) c.number_of.ensures.value
    ∙ dropped_named key rows c.number_of.ensures.key c.self.invariant.filed c.len.ensures.distinct
    ∙ ap (λ all. changed all (place_of key all) None) c.self.view_is
