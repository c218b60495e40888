use Rattle.std.proofs.Common.{◌≡◌, ◌∙◌, ap, sym, refl, subst, arith, ◌∷◌, set, None, Some, le-ltb}
use Rattle.std.proofs.lemmas.List.{length-set, get_or_read}
use Rattle.std.proofs.lemmas.Option.{none-some, same_Some}
use Rattle.expiring_table.specs.declared.row.Row.{Row}
use Rattle.expiring_table.specs.Prelude.{alarm, is_before, row_at, IsIndexed, Chained, without_place}
use Rattle.expiring_table.proofs.Cells.{found, row_within}
use Rattle.expiring_table.proofs.Changes.{rows_clear, count_clear, once_clear, indexed_clear, row_there}
use Rattle.expiring_table.proofs.Review.{room_kept, whole_dropped, drop_alarm, set_alarm, due_same, row_cleared}
use Rattle.expiring_table.proofs.store.Store.review.Goals as goal

pub returns-in_err-row-clause-whole : goal.returns-in_err-row-clause-whole
returns-in_err-row-clause-whole g c =
    whole_dropped c.args.moment c.args.place c.args.self.now c.requires.open
    (λ row end at ends. absurd (none-some row (sym c.in_err-row.was ∙ c.row_at.ensures ∙ at)))

pub returns-in_err-end-clause-whole : goal.returns-in_err-end-clause-whole
returns-in_err-end-clause-whole g c =
    whole_dropped c.args.moment c.args.place c.args.self.now c.requires.open (λ row end at ends.
    let same : c.in_ok-row.row ≡ row = same_Some c.in_ok-row.row row (sym c.in_ok-row.was ∙ c.row_at.ensures ∙ at) in
    absurd (none-some end (sym c.in_err-end.was ∙ ap (λ (one : Row g.row.T.Denot). one.end) same ∙ ends)))

pub overflow_sub-self : goal.overflow_sub-self
overflow_sub-self g c =
    let at : row_at c.args.self.now.cells.items c.args.place ≡ Some c.in_ok-row.row = sym c.row_at.ensures ∙ c.in_ok-row.was in
    omega (arith, count_clear c.args.self.now.cells.items c.args.place c.in_ok-row.row at, c.requires.open.counted)

pub returns-then-end-now-clause-whole : goal.returns-then-end-now-clause-whole
returns-then-end-now-clause-whole g c =
    let cells = c.args.self.now.cells.items in
    let open' = c.requires.open in
    let at : row_at cells c.args.place ≡ Some c.in_ok-row.row = sym c.row_at.ensures ∙ c.in_ok-row.was in
    let within = row_within cells c.args.place c.in_ok-row.row at in
    let fewer = count_clear cells c.args.place c.in_ok-row.row at in
    let chains = c.remove.ensures in
    let P : Chained → Type 0 = λ chained. IsIndexed (set cells c.args.place None) c.args.self.now.moments.items chained
    c.args.self.now.alarms.alarms in
    record {
      room = room_kept c.args.self.now _ open'.room refl (length-set cells c.args.place None) refl refl (ap (λ (one : Chained). one.width) chains)
          (ap (λ (one : Chained). one.room) chains) (omega arith) open'.room.alarmed;
      indexed = subst P (sym chains)
          (drop_alarm (set cells c.args.place None) c.args.self.now.moments.items (without_place c.args.place c.args.self.now.chains)
          c.args.self.now.alarms.alarms c.args.moment c.args.place
          (indexed_clear cells c.args.self.now.moments.items c.args.self.now.chains (alarm c.args.moment c.args.place ∷ c.args.self.now.alarms.alarms)
          c.args.place within open'.indexed)
          (λ row end gone ends. absurd (none-some row (sym (row_cleared cells c.args.place within) ∙ gone))));
      once = once_clear cells c.args.place within open'.once;
      counted = omega (arith, fewer, open'.counted);
      few = omega (arith, open'.few);
    }

pub remove-requires-clause-there : goal.remove-requires-clause-there
remove-requires-clause-there g c =
    let at : row_at c.args.self.now.cells.items c.args.place ≡ Some c.in_ok-row.row = sym c.row_at.ensures ∙ c.in_ok-row.was in
    row_there c.args.self.now.cells.items c.args.self.now.chains c.args.place c.in_ok-row.row
    (omega (arith, c.requires.open.room.width, c.requires.open.room.some)) c.requires.open.indexed.hashed at

pub returns-then-end-now-clause-some : goal.returns-then-end-now-clause-some
returns-then-end-now-clause-some g c =
    let cells = c.args.self.now.cells.items in
    let row = c.in_ok-row.row in
    let at : row_at cells c.args.place ≡ Some row = sym c.row_at.ensures ∙ c.in_ok-row.was in (
      refl,
      record {
        there = found row.key cells c.args.place row c.requires.open.once at refl;
        ended = ap (is_before c.args.now) c.in_ok-end.was ∙ le-ltb c.args.now c.in_ok-end.end c.if-end-now.true;
        rest = rows_clear cells c.args.place row c.requires.open.once at;
      },
    )

pub returns-then-index-moment-clause-whole : goal.returns-then-index-moment-clause-whole
returns-then-index-moment-clause-whole g c =
    whole_dropped c.args.moment c.args.place c.args.self.now c.requires.open (λ row end at ends.
    let moments = c.args.self.now.moments.items in
    let within = row_within c.args.self.now.cells.items c.args.place row at in
    let ring = get_or_read moments c.args.place c.index.result.now (omega (arith, within, c.requires.open.indexed.watches)) c.index.ensures 0 in
    λ same. c.if-index-moment.true (ring ∙ same))

pub returns-clause-whole : goal.returns-clause-whole
returns-clause-whole g c =
    let cells = c.args.self.now.cells.items in
    let moments = c.args.self.now.moments.items in
    let open' = c.requires.open in
    let at : row_at cells c.args.place ≡ Some c.in_ok-row.row = sym c.row_at.ensures ∙ c.in_ok-row.was in
    let within = row_within cells c.args.place c.in_ok-row.row at in record {
      room = room_kept c.args.self.now _ open'.room refl refl refl refl refl refl c.push.ensures.room
          (omega (arith, c.push.ensures.len, open'.spare));
      indexed = set_alarm cells moments c.args.self.now.chains c.args.self.now.alarms.alarms c.push.new.self.alarms c.args.moment c.args.place
          c.in_ok-row.row c.in_ok-end.end open'.indexed within at c.in_ok-end.was c.push.ensures.alarms;
      once = open'.once;
      counted = open'.counted;
      few = open'.few;
    }

pub returns-clause-due : goal.returns-clause-due
returns-clause-due g c = due_same c.args.now c.in_ok-end.end c.args.place c.args.self.now.alarms.alarms c.push.new.self.alarms c.push.ensures.alarms
    c.if-end-now.false
