use Rattle.std.proofs.Common.{IfSome, subst}
use Rattle.expiring_table.specs.Prelude.{IsTakenOut, Table}
use Rattle.binding_table.specs.declared.binding.Binding.{Binding}
use Rattle.binding_table.specs.Prelude.{all_rows, fixed_rows}
use Rattle.binding_table.proofs.EntriesApart.{apart_ended, ended_behind, live_behind}
use Rattle.binding_table.proofs.entries.Entries.next_ended.Goals as goal

pub invariant_of-self : goal.invariant_of-self
invariant_of-self c = apart_ended c.next_ended.result c.args.now (fixed_rows c.self.inside) c.self.inside.moving c.next_ended.new.self
    c.self.invariant c.next_ended.ensures.some c.next_ended.ensures.none

pub returns-clause-some : goal.returns-clause-some
returns-clause-some c =
    let fixed = fixed_rows c.self.inside in
    let new = c.next_ended.new.self in
    subst (λ (t : Table Binding). IfSome c.next_ended.result (IsTakenOut c.args.now t (all_rows fixed new))) c.self.view_is
    (ended_behind c.next_ended.result c.args.now fixed c.self.inside.moving new c.self.invariant c.next_ended.ensures.some)

pub returns-clause-live : goal.returns-clause-live
returns-clause-live c = live_behind c.next_ended.result c.args.now c.self.inside.fixed.entries c.next_ended.new.self.rows c.next_ended.ensures.live
