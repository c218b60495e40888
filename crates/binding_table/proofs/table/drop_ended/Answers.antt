use Rattle.std.proofs.Common.{◌≡◌, ◌∙◌, List, map, ap, sym, filter}
use Rattle.gate_base.specs.declared.event.Moment.{Moment}
use Rattle.gate_base.specs.declared.side.Side.TheVariants.{Left, Right}
use Rattle.expiring_table.specs.declared.row.Row.{Row}
use Rattle.expiring_table.specs.Prelude.{Table, living}
use Rattle.binding_table.specs.declared.binding.Binding.{Binding}
use Rattle.binding_table.specs.Prelude.{is_live, entries_in, filed}
use Rattle.binding_table.proofs.Dropped.{dropped, rows_left, same_with}
use Rattle.binding_table.proofs.Filed.{entries_are, same_table}
use Rattle.binding_table.proofs.table.drop_ended.Goals as goal

pub give_back_alias-requires-clause-left : goal.give_back_alias-requires-clause-left
give_back_alias-requires-clause-left c =
    let taken = c.in-Some.ensures.some in
    (dropped c.args.now c.loop-row.left c.loop-row.right c.loop-row.bindings.rows c.next_ended.new.self.rows c.in-Some.row c.loop-row.invariant.kept
    taken.1.there taken.1.ended taken.1.rest).left_taken

pub give_back_alias-requires-clause-right : goal.give_back_alias-requires-clause-right
give_back_alias-requires-clause-right c =
    let taken = c.in-Some.ensures.some in
    (dropped c.args.now c.loop-row.left c.loop-row.right c.loop-row.bindings.rows c.next_ended.new.self.rows c.in-Some.row c.loop-row.invariant.kept
    taken.1.there taken.1.ended taken.1.rest).right_taken

pub loop-row-smaller : goal.loop-row-smaller
loop-row-smaller c =
    let taken = c.in-Some.ensures.some in
    (dropped c.args.now c.loop-row.left c.loop-row.right c.loop-row.bindings.rows c.next_ended.new.self.rows c.in-Some.row c.loop-row.invariant.kept
    taken.1.there taken.1.ended taken.1.rest).fewer

pub loop-row-preserved : goal.loop-row-preserved
loop-row-preserved c =
    let taken = c.in-Some.ensures.some in
    let before = c.loop-row.invariant in
    let less = dropped c.args.now c.loop-row.left c.loop-row.right c.loop-row.bindings.rows c.next_ended.new.self.rows c.in-Some.row before.kept
    taken.1.there taken.1.ended taken.1.rest in
    rw (c.give_back_alias.ensures.left, c.give_back_alias.ensures.right) (record {
      kept = less.kept;
      left = less.left_range ∙ before.left;
      right = less.right_range ∙ before.right;
      live = less.live ∙ before.live;
      most = taken.0 ∙ before.most;
    })

-- where no row ended, the rows are those that lived at the start
left : (now : Moment) (old new : Table Binding) (before : List (Row Binding)) → new ≡ old → living now.0 new.rows ≡ new.rows
    → old.rows ≡ map filed (entries_in old.rows) → filter (is_live now) (entries_in old.rows) ≡ filter (is_live now) (entries_in before)
    → old.rows ≡ map filed (filter (is_live now) (entries_in before))
left now old new before same live kept all = let rows = ap (λ (t : Table Binding). t.rows) same in
    rows_left now old.rows before kept (ap (living now.0) (sym rows) ∙ live ∙ rows) all

pub returns-clause-rows : goal.returns-clause-rows
returns-clause-rows c =
    let before = c.loop-row.invariant in
    let rest = c.in_default.ensures in
    let rows = left c.args.now c.loop-row.bindings c.next_ended.new.self c.args.bindings.now.rows rest.none rest.live before.kept.rows_are
    before.live in
    rest.none ∙ same_table _ _ before.most rows

pub returns-clause-left : goal.returns-clause-left
returns-clause-left c =
    let before = c.loop-row.invariant in
    let rest = c.in_default.ensures in
    let rows = left c.args.now c.loop-row.bindings c.next_ended.new.self c.args.bindings.now.rows rest.none rest.live before.kept.rows_are
    before.live in
    before.kept.left_is ∙ same_with _ _ Left _ _ before.left (entries_are c.loop-row.bindings.rows _ rows)

pub returns-clause-right : goal.returns-clause-right
returns-clause-right c =
    let before = c.loop-row.invariant in
    let rest = c.in_default.ensures in
    let rows = left c.args.now c.loop-row.bindings c.next_ended.new.self c.args.bindings.now.rows rest.none rest.live before.kept.rows_are
    before.live in
    before.kept.right_is ∙ same_with _ _ Right _ _ before.right (entries_are c.loop-row.bindings.rows _ rows)
