use Rattle.std.proofs.Common.{◌≡◌, ◌∙◌, ap, sym, refl, subst, arith, ◌≤◌, ◌<◌, ◌∷◌, ℕ, length, set, None, Some, Contains}
use Rattle.std.proofs.lemmas.List.{length-set, get_or_read, get_or-set_same, get_or-set_other}
use Rattle.std.proofs.lemmas.List.Sorted.{Contains-permutation}
use Rattle.std.proofs.lemmas.Option.{none-some, same_Some}
use Rattle.expiring_table.specs.Prelude.{alarm, is_watched, row_at}
use Rattle.expiring_table.proofs.Changes.{rows_set, count_set, once_set, indexed_set}
use Rattle.expiring_table.proofs.Indexed.{contains_front, contains_rest}
use Rattle.expiring_table.proofs.Review.{room_kept, whole_watched}
use Rattle.expiring_table.proofs.store.Store.replace.Goals as goal

pub returns-in_default-clause-table : goal.returns-in_default-clause-table
returns-in_default-clause-table g c = ap (λ rows. record { most = c.args.self.now.most; rows = rows })
    (rows_set c.args.self.now.cells.items c.args.place c.requires.place.1.0 c.args.row c.requires.whole.once c.requires.place.1.1
    c.requires.place.1.2)

pub returns-then-is_watched-clause-table : goal.returns-then-is_watched-clause-table
returns-then-is_watched-clause-table g c = ap (λ rows. record { most = c.args.self.now.most; rows = rows })
    (rows_set c.args.self.now.cells.items c.args.place c.requires.place.1.0 c.args.row c.requires.whole.once c.requires.place.1.1
    c.requires.place.1.2)

pub returns-clause-table : goal.returns-clause-table
returns-clause-table g c = ap (λ rows. record { most = c.args.self.now.most; rows = rows })
    (rows_set c.args.self.now.cells.items c.args.place c.requires.place.1.0 c.args.row c.requires.whole.once c.requires.place.1.1
    c.requires.place.1.2)

pub returns-in_default-clause-whole : goal.returns-in_default-clause-whole
returns-in_default-clause-whole g c =
    let cells = c.args.self.now.cells.items in
    let alarms = c.args.self.now.alarms.alarms in
    let whole = c.requires.whole in
    let place = c.requires.place in
    record {
      room = room_kept c.args.self.now _ whole.room refl (length-set cells c.args.place (Some c.args.row)) refl refl refl refl
          (omega arith) whole.room.alarmed;
      indexed = indexed_set cells c.args.self.now.moments.items c.args.self.now.moments.items c.args.self.now.chains alarms alarms c.args.place
          place.1.0 c.args.row place.0 place.1.1 place.1.2 whole.indexed refl
          (λ other not_here. refl) (λ one there. there) (λ end ends. absurd (none-some end (sym c.in_default.is ∙ ends)));
      once = once_set cells c.args.place place.1.0 c.args.row place.0 whole.once place.1.1 place.1.2;
      counted = whole.counted ∙ sym (count_set cells c.args.place place.1.0 c.args.row place.1.1);
      few = whole.few;
    }

pub returns-then-is_watched-clause-whole : goal.returns-then-is_watched-clause-whole
returns-then-is_watched-clause-whole g c =
    let cells = c.args.self.now.cells.items in
    let moments = c.args.self.now.moments.items in
    let place = c.requires.place in
    let ring = get_or_read moments c.args.place c.index.result.now (omega (arith, place.0, c.requires.whole.indexed.watches)) c.index.ensures 0 in
    let was = get_or_read cells c.args.place c.index-was.result.now place.0 c.index-was.ensures None in
    whole_watched c.args.self.now c.args.place c.in-Some.end c.args.row c.requires.whole place c.in-Some.is
    (ap (λ one. is_watched one c.in-Some.end (row_at cells c.args.place)) (sym ring) ∙ ap (is_watched c.index.result.now c.in-Some.end) (sym was)
    ∙ sym c.is_watched.ensures ∙ c.if-is_watched.true)

pub returns-clause-whole : goal.returns-clause-whole
returns-clause-whole g c =
    let cells = c.args.self.now.cells.items in
    let moments = c.args.self.now.moments.items in
    let alarms = c.args.self.now.alarms.alarms in
    let alarms' = c.push.new.self.alarms in
    let end = c.in-Some.end in
    let whole = c.requires.whole in
    let place = c.requires.place in
    let within : c.args.place < length moments = omega (arith, place.0, whole.indexed.watches) in
    record {
      room = room_kept c.args.self.now _ whole.room refl (length-set cells c.args.place (Some c.args.row)) refl refl refl refl c.push.ensures.room
          (omega (arith, c.push.ensures.len, c.requires.room.alarms));
      indexed = indexed_set cells moments (set moments c.args.place end) c.args.self.now.chains alarms alarms' c.args.place place.1.0 c.args.row
          place.0 place.1.1 place.1.2 whole.indexed (length-set moments c.args.place end)
          (λ other not_here. get_or-set_other moments c.args.place other end 0 not_here)
          (λ one there. Contains-permutation (alarm end c.args.place ∷ alarms) alarms' one c.push.ensures.alarms
          (contains_rest one (alarm end c.args.place) alarms there))
          (λ other ends.
          let P : ℕ → Type 0 = λ ring. (ring ≤ other) × Contains alarms' (alarm ring c.args.place) in
          let end_is : end ≡ other = same_Some end other (sym c.in-Some.is ∙ ends) in
          subst P (sym (get_or-set_same moments c.args.place end 0 within)) (
            omega arith,
            Contains-permutation (alarm end c.args.place ∷ alarms) alarms' (alarm end c.args.place) c.push.ensures.alarms
                (contains_front (alarm end c.args.place) alarms),
          ));
      once = once_set cells c.args.place place.1.0 c.args.row place.0 whole.once place.1.1 place.1.2;
      counted = whole.counted ∙ sym (count_set cells c.args.place place.1.0 c.args.row place.1.1);
      few = whole.few;
    }
