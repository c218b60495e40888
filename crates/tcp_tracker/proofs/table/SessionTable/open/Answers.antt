use Rattle.std.proofs.Common.{◌<◌, ◌∙◌, ap, arith, count_by}
use Rattle.std.proofs.lemmas.List.Sums.{length-filter}
use Rattle.tcp_tracker.specs.Prelude.{is_tracked, joined}
use Rattle.tcp_tracker.proofs.Joining.{opened, opened_joined, tracked_joined, length_slots}
use Rattle.tcp_tracker.proofs.table.SessionTable.open.Goals as goal

pub insert_reserved-slot-requires : goal.insert_reserved-slot-requires
insert_reserved-slot-requires g c =
    let few : count_by is_tracked (joined c.self.inside.sessions c.self.inside.tracker) < 4096 = rw c.self.view_is c.requires.sessions in
    omega (
      arith,
      few,
      c.self.invariant.counted,
      c.self.invariant.room,
      length_slots c.self.inside.tracker,
      tracked_joined c.self.inside.sessions c.self.inside.tracker c.self.invariant.kept,
      length-filter is_tracked (joined c.self.inside.sessions c.self.inside.tracker),
    )

pub invariant_of-self : goal.invariant_of-self
invariant_of-self g c = rw c.note.ensures.noted
    (opened_joined c.self.inside.sessions c.insert_reserved-slot.new.self c.self.inside.tracker c.args.key c.args.from c.args.flags
    c.insert_reserved-slot.result c.args.session c.args.now c.self.invariant
    (rw c.self.view_is c.requires.absent) c.requires.flags c.insert_reserved-slot.ensures.was_vacant c.insert_reserved-slot.ensures.updates
    c.insert_reserved-slot.ensures.len c.insert_reserved-slot.ensures.capacity)

pub returns : goal.returns
returns g c = rw (← c.self.view_is)
    (ap (joined c.insert_reserved-slot.new.self) c.note.ensures.noted
    ∙ opened c.self.inside.sessions c.insert_reserved-slot.new.self c.self.inside.tracker c.args.key c.args.from c.args.flags
    c.insert_reserved-slot.result c.args.session c.args.now c.self.invariant.kept
    (rw c.self.view_is c.requires.absent) c.requires.flags c.insert_reserved-slot.ensures.was_vacant c.insert_reserved-slot.ensures.updates)
