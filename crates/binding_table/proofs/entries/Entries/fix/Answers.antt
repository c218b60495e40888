use Rattle.std.proofs.Common.{◌≡◌, ◌∙◌, ◌++◌, ◌∷◌, [], None, nat_eq, All, ap, subst, sym}
use Rattle.expiring_table.specs.Prelude.{Table, row_of}
use Rattle.indexmap.proofs.CallerLemmas.{insert_entry-new}
use Rattle.binding_table.specs.declared.binding.Binding.{Binding}
use Rattle.binding_table.specs.Prelude.{fixed_rows, filed}
use Rattle.binding_table.proofs.EntriesApart.{apart_none, fixed_push, none_in, not_there, only_fixed}
use Rattle.binding_table.proofs.entries.Entries.fix.Goals as goal

pub invariant_of-self-2 : goal.invariant_of-self-2
invariant_of-self-2 c =
    let early = subst (λ (t : Table Binding). All (λ row. row.end ≡ None) t.rows) (sym c.self.view_is) c.requires.early in
    apart_none _ c.self.inside.moving (only_fixed (fixed_rows c.self.inside) c.self.inside.moving.rows early c.self.invariant.ends)
    c.self.invariant.few

pub returns-clause-ok : goal.returns-clause-ok
returns-clause-ok c =
    let moving = c.self.inside.moving in
    let fixed = c.self.inside.fixed in
    let binding = c.args.binding in
    let early = subst (λ (t : Table Binding). All (λ row. row.end ≡ None) t.rows) (sym c.self.view_is) c.requires.early in
    let nothing = only_fixed (fixed_rows c.self.inside) moving.rows early c.self.invariant.ends in
    let front = (none_in (filed binding).key (fixed_rows c.self.inside) moving.rows
    (ap (λ (t : Table Binding). row_of (filed binding).key t.rows) c.self.view_is ∙ c.requires.new)).0 in
    let none = ap (λ key. row_of key (fixed_rows c.self.inside)) c.number_of.ensures ∙ front in
    let put = c.in_ok-insert.ensures.entries ∙ insert_entry-new nat_eq fixed c.number_of.result binding
    (not_there c.number_of.result fixed.entries none) in
    fixed_push fixed.entries c.insert.new.self.entries moving c.number_of.result binding put c.number_of.ensures c.requires.fixed nothing
    ∙ ap (λ (t : Table Binding). let new : Table Binding = record { most = t.most; rows = t.rows ++ filed binding ∷ [] } in new) c.self.view_is
