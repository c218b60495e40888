use Rattle.std.proofs.Common.{ℕ, ◌≡◌, ◌∙◌, ap, sym, subst, Option, IfSome, None, option_map}
use Rattle.tcp_tracker.specs.declared.connection.Connection.{Connection}
use Rattle.tcp_tracker.specs.Prelude.{timeout_or_short, kept_or_begun, with_flags}
use Rattle.tcp_tracker.proofs.Names.{timeout_noted, name_after, name_of_found}
use Rattle.tcp_tracker.proofs.tracker.Tracker.note.Goals as goal

pub change-requires-clause-name : goal.change-requires-clause-name
change-requires-clause-name c =
    let P : Option (Connection ℕ) → Type 0 = λ next. IfSome next (λ connection. connection.key ≡ c.args.key) in
    subst P (sym c.after-next.ensures) (name_after c.args.key c.args.from c.args.flags c.args.session c.args.now c.located-place.result.1
    (subst P (sym c.located-place.ensures) (name_of_found c.args.key c.args.self.now)))

pub returns-clause-timeout : goal.returns-clause-timeout
returns-clause-timeout c =
    let timeout : Option (Connection ℕ) → ℕ = λ found. timeout_or_short
    (option_map (with_flags c.args.from c.args.flags) (kept_or_begun c.args.key c.args.flags None found)) in
    c.timeout_or_short.ensures ∙ ap timeout_or_short c.after-next.ensures
    ∙ timeout_noted c.args.key c.args.from c.args.flags c.args.session c.args.now c.located-place.result.1 ∙ ap timeout c.located-place.ensures
