use Rattle.std.proofs.Common.{◌≡◌, ◌∙◌, ◌<◌, ap, sym, subst, Option, IfSome, Some, ℕ, arith, length}
use Rattle.std.proofs.lemmas.List.{length-map}
use Rattle.gate_base.proofs.Options.{none_there}
use Rattle.expiring_table.specs.Prelude.{Table, row_of}
use Rattle.tcp_tracker.specs.declared.connection.ConnKey.{ConnKey}
use Rattle.tcp_tracker.specs.declared.connection.Connection.{Connection}
use Rattle.tcp_tracker.specs.Prelude.{place_of, changed, IsWhole}
use Rattle.tcp_tracker.proofs.Names.{row_there, nowhere, set_in, push_in, filed_set, connections_in}
use Rattle.tcp_tracker.proofs.tracker.Tracker.change.Goals as goal

named : (key : ConnKey) (next : Option (Connection ℕ)) (connection : Connection ℕ) → IfSome next (λ one. one.key ≡ key) → next ≡ Some connection
    → connection.key ≡ key
named key next connection name is = let P : Option (Connection ℕ) → Type 0 = λ one. IfSome one (λ one. one.key ≡ key) in subst P is name

pub set_at-requires : goal.set_at-requires
set_at-requires c =
    let name = named c.args.key.now c.args.next c.in-true-Some.connection c.requires.name c.in-true-Some.is-1 in
    row_there c.args.key.now c.in-true-Some.connection c.filed.result c.self.inside.rows.rows c.args.self.now c.args.there c.filed.ensures.value
    c.filed.ensures.filed name c.self.invariant.filed c.self.view_is c.requires.there
    ∙ c.in-true-Some.is-0

pub push-requires-clause-new : goal.push-requires-clause-new
push-requires-clause-new c =
    let row = c.filed-in-false-Some in
    let name = named c.args.key.now c.args.next c.in-false-Some.connection c.requires.name c.in-false-Some.is-1 in
    none_there (row_of row.result.key c.self.inside.rows.rows)
    (row_there c.args.key.now c.in-false-Some.connection row.result c.self.inside.rows.rows c.args.self.now c.args.there row.ensures.value
    row.ensures.filed name c.self.invariant.filed c.self.view_is c.requires.there
    ∙ c.in-false-Some.is-0)

pub push-requires-clause-room : goal.push-requires-clause-room
push-requires-clause-room c =
    let row = c.filed-in-false-Some in
    let rows = c.self.inside.rows.rows in
    let name = named c.args.key.now c.args.next c.in-false-Some.connection c.requires.name c.in-false-Some.is-1 in
    let none = nowhere c.args.key.now c.in-false-Some.connection row.result rows row.ensures.value row.ensures.filed name c.self.invariant.filed
    (push-requires-clause-new c) in
    let few : length c.args.self.now < 65536 = c.requires.room (ap (place_of c.args.key.now) (sym c.self.view_is) ∙ none) in
    let long : length c.args.self.now ≡ length rows = ap length (sym c.self.view_is) ∙ length-map rows (λ row. row.value) in
    omega (arith, few, long, c.self.invariant.most)

pub invariant_of-self : goal.invariant_of-self
invariant_of-self c =
    let P : Table (Connection ℕ) → Type 0 = λ table. IsWhole table in
    subst P (sym c.set_at.ensures)
    (record {
      most = c.self.invariant.most;
      filed = filed_set c.filed.result c.self.inside.rows.rows c.filed.ensures.filed c.self.invariant.filed;
    })

pub returns-in-true-Some : goal.returns-in-true-Some
returns-in-true-Some c =
    let key = c.args.key.now in
    let rows = c.self.inside.rows.rows in
    let name = named key c.args.next c.in-true-Some.connection c.requires.name c.in-true-Some.is-1 in
    let there = row_there key c.in-true-Some.connection c.filed.result rows c.args.self.now c.args.there c.filed.ensures.value c.filed.ensures.filed
    name c.self.invariant.filed c.self.view_is c.requires.there ∙ c.in-true-Some.is-0 in
    ap (λ (table : Table (Connection ℕ)). connections_in table.rows) c.set_at.ensures
    ∙ set_in key c.in-true-Some.connection c.filed.result rows c.filed.ensures.value c.filed.ensures.filed name c.self.invariant.filed
    c.len.ensures.distinct there
    ∙ ap (λ all. changed all (place_of key all) (Some c.in-true-Some.connection)) c.self.view_is
    ∙ sym (ap (changed c.args.self.now (place_of key c.args.self.now)) c.in-true-Some.is-1)

pub returns-in-false-Some : goal.returns-in-false-Some
returns-in-false-Some c =
    let key = c.args.key.now in
    let rows = c.self.inside.rows.rows in
    let row = c.filed-in-false-Some in
    let name = named key c.args.next c.in-false-Some.connection c.requires.name c.in-false-Some.is-1 in
    let absent = none_there (row_of row.result.key rows)
    (row_there key c.in-false-Some.connection row.result rows c.args.self.now c.args.there row.ensures.value row.ensures.filed name
    c.self.invariant.filed c.self.view_is c.requires.there ∙ c.in-false-Some.is-0)
    in
    let none = nowhere key c.in-false-Some.connection row.result rows row.ensures.value row.ensures.filed name c.self.invariant.filed absent in
    ap (λ (table : Table (Connection ℕ)). connections_in table.rows) c.push.ensures
    ∙ push_in key c.in-false-Some.connection row.result rows row.ensures.value none
    ∙ ap (λ all. changed all (place_of key all) (Some c.in-false-Some.connection)) c.self.view_is
    ∙ sym (ap (changed c.args.self.now (place_of key c.args.self.now)) c.in-false-Some.is-1)
