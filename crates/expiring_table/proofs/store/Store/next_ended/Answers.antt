use Rattle.std.proofs.Common.{◌≡◌, ◌<◌, refl, subst, arith, All}
use Rattle.expiring_table.specs.Inside.Armed.{Armed}
use Rattle.expiring_table.specs.Prelude.{count_due}
use Rattle.expiring_table.proofs.Review.{open_popped, due_less, none_due}
use Rattle.expiring_table.proofs.store.Store.next_ended.Goals as goal

pub review-requires-clause-open : goal.review-requires-clause-open
review-requires-clause-open g c = open_popped c.in-Some.moment c.in-Some.place c.loop-moment.self _ c.loop-moment.invariant.whole refl refl refl refl
    refl c.pop_due.ensures.room c.in-Some.ensures.rest

pub loop-moment-smaller : goal.loop-moment-smaller
loop-moment-smaller g c =
    let less = due_less c.args.now c.in-Some.moment c.in-Some.place c.loop-moment.self.alarms.alarms c.pop_due.new.self.alarms c.in-Some.ensures.rest
    c.in-Some.ensures.due in
    let same : count_due c.args.now c.review.new.self.alarms.alarms ≡ count_due c.args.now c.pop_due.new.self.alarms =
    c.in_default-review.ensures.due in
    let fewer : count_due c.args.now c.review.new.self.alarms.alarms < count_due c.args.now c.loop-moment.self.alarms.alarms = omega arith in
    fewer

pub returns-clause-live : goal.returns-clause-live
returns-clause-live g c =
    let P : Armed → Type 0 = λ armed. All (λ one. c.args.now < one.0.0) armed.alarms in
    none_due c.args.now c.loop-moment.self.cells.items c.loop-moment.self.moments.items c.loop-moment.self.alarms.alarms
    c.loop-moment.invariant.whole.indexed.watched
    (subst P c.in_default.ensures.unchanged c.in_default.ensures.none)
