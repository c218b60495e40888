use Rattle.std.proofs.Common.{◌∙◌, ap, sym, refl, arith, set, None, subst, length-set}
use Rattle.expiring_table.specs.Prelude.{without, rows_in, IsIndexed, Chained}
use Rattle.expiring_table.proofs.Changes.{rows_clear, count_clear, once_clear, indexed_clear, row_there}
use Rattle.expiring_table.proofs.Review.{room_kept}
use Rattle.expiring_table.proofs.store.Store.clear_at.Goals as goal

pub overflow_sub-self : goal.overflow_sub-self
overflow_sub-self g c =
    omega (arith, count_clear c.args.self.now.cells.items c.args.place c.requires.place.1.0 c.requires.place.1.1, c.requires.whole.counted)

pub returns-clause-whole : goal.returns-clause-whole
returns-clause-whole g c =
    let cells = c.args.self.now.cells.items in
    let whole = c.requires.whole in
    let fewer = count_clear cells c.args.place c.requires.place.1.0 c.requires.place.1.1 in
    let chains = c.remove.ensures in
    let P : Chained → Type 0 = λ chained. IsIndexed (set cells c.args.place None) c.args.self.now.moments.items chained
    c.args.self.now.alarms.alarms in
    record {
      room = room_kept c.args.self.now _ whole.room refl (length-set cells c.args.place None) refl refl (ap (λ (one : Chained). one.width) chains)
          (ap (λ (one : Chained). one.room) chains) (omega arith) whole.room.alarmed;
      indexed = subst P (sym chains)
          (indexed_clear cells c.args.self.now.moments.items c.args.self.now.chains c.args.self.now.alarms.alarms c.args.place c.requires.place.0
          whole.indexed);
      once = once_clear cells c.args.place c.requires.place.0 whole.once;
      counted = omega (arith, fewer, whole.counted);
      few = omega (arith, whole.few);
    }

pub remove-requires-clause-there : goal.remove-requires-clause-there
remove-requires-clause-there g c =
    row_there c.args.self.now.cells.items c.args.self.now.chains c.args.place c.requires.place.1.0
    (omega (arith, c.requires.whole.room.width, c.requires.whole.room.some)) c.requires.whole.indexed.hashed c.requires.place.1.1

pub returns-clause-table : goal.returns-clause-table
returns-clause-table g c =
    let cells = c.args.self.now.cells.items in
    ap (λ rows. record { most = c.args.self.now.most; rows = rows })
    (rows_clear cells c.args.place c.requires.place.1.0 c.requires.whole.once c.requires.place.1.1
    ∙ ap (λ key. without key (rows_in cells)) c.requires.place.1.2)
