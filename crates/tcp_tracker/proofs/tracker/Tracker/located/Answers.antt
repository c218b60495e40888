use Rattle.std.proofs.Common.{ℕ, Bor, ◌∙◌, ap, sym, option_map}
use Rattle.expiring_table.specs.declared.row.Row.{Row}
use Rattle.expiring_table.specs.Prelude.{row_of}
use Rattle.tcp_tracker.specs.declared.connection.Connection.{Connection}
use Rattle.tcp_tracker.specs.Prelude.{connection_of}
use Rattle.tcp_tracker.proofs.Names.{found_named}
use Rattle.tcp_tracker.proofs.tracker.Tracker.located.Goals as goal

pub returns-in-Some : goal.returns-in-Some
returns-in-Some c =
    let rows = c.self.inside.rows.rows in
    let row_in : ℕ × Bor (Row (Connection ℕ)) → Row (Connection ℕ) = λ found. found.1.now in
    let value : Row (Connection ℕ) → Connection ℕ = λ row. row.value in
    ap (option_map value) (ap (option_map row_in) (sym c.in-Some.is) ∙ c.locate.ensures ∙ ap (λ number. row_of number rows) c.number_of.ensures.value)
    ∙ sym (found_named c.args.key.now rows c.number_of.ensures.key c.self.invariant.filed)
    ∙ ap (connection_of c.args.key.now) c.self.view_is

pub returns-in-None : goal.returns-in-None
returns-in-None c =
    let rows = c.self.inside.rows.rows in
    let row_in : ℕ × Bor (Row (Connection ℕ)) → Row (Connection ℕ) = λ found. found.1.now in
    let value : Row (Connection ℕ) → Connection ℕ = λ row. row.value in
    ap (option_map value) (ap (option_map row_in) (sym c.in-None.is) ∙ c.locate.ensures ∙ ap (λ number. row_of number rows) c.number_of.ensures.value)
    ∙ sym (found_named c.args.key.now rows c.number_of.ensures.key c.self.invariant.filed)
    ∙ ap (connection_of c.args.key.now) c.self.view_is
