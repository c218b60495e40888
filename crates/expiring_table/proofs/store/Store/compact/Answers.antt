use Rattle.std.proofs.Common.{rules, arith, ◌∙◌, ap, refl, is_some}
use Rattle.std.proofs.lemmas.Fn.{filter_same}
use Rattle.expiring_table.specs.Prelude.{rows_in}
use Rattle.expiring_table.proofs.Compaction.{rows_full, length_full, listed_none}
use Rattle.expiring_table.proofs.store.Store.compact.Goals as goal

pub loop-place-init : goal.loop-place-init
loop-place-init g c =
    let same = filter_same _ is_some _ (λ cell kept after called. search rules) _ _ c.retain.ensures.filtered in record {
      listed = listed_none c.args.seed c.args.self.now _ c.requires refl same c.retain.ensures.capacity c.clear.ensures.items c.clear.ensures.capacity
          c.clear-2.ensures c.clear-3.ensures refl;
      most = refl;
      cells = refl;
    }

pub returns-clause-table : goal.returns-clause-table
returns-clause-table g c =
    let same = filter_same _ is_some _ (λ cell kept after called. search rules) _ _ c.retain.ensures.filtered in
    ap (λ rows. record { most = c.loop-place.self.most; rows = rows })
    (ap (λ v. rows_in v.items) c.loop-place.invariant.cells ∙ ap rows_in same ∙ rows_full c.args.self.now.cells.items)
    ∙ ap (λ most. record { most = most; rows = rows_in c.args.self.now.cells.items }) c.loop-place.invariant.most

pub returns-clause-room : goal.returns-clause-room
returns-clause-room g c =
    let listed = c.loop-place.invariant.listed in
    let long = length_full c.loop-place.self.cells.items listed.full in record {
      cells = omega (arith, long, listed.counted, listed.few, listed.room.some);
      alarms = omega (arith, long, listed.counted, listed.few, listed.room.some, listed.alarmed, listed.reach);
    }
