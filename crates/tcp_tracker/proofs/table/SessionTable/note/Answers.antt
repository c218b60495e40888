use Rattle.std.proofs.Common.{◌≡◌, ◌<◌, ◌∙◌, None, length, sym, ap, arith}
use Rattle.std.proofs.lemmas.List.{length-map}
use Rattle.tcp_tracker.specs.Prelude.{place_of, inline, joined}
use Rattle.tcp_tracker.proofs.Joining.{noted_joined, noted_is, timeout_joined, place_joined_too}
use Rattle.tcp_tracker.proofs.table.SessionTable.note.Goals as goal

pub note-requires-clause-room : goal.note-requires-clause-room
note-requires-clause-room g c = λ e.
    let room : place_of c.args.key (joined c.self.inside.sessions c.self.inside.tracker) ≡ None
    → length (joined c.self.inside.sessions c.self.inside.tracker) < 65536 = rw c.self.view_is c.requires.room in
    omega (
      arith,
      room (place_joined_too c.self.inside.sessions c.args.key c.self.inside.tracker e),
      length-map c.self.inside.tracker (inline c.self.inside.sessions),
    )

pub invariant_of-self : goal.invariant_of-self
invariant_of-self g c =
    rw c.note.ensures.noted (noted_is c.self.inside.sessions c.self.inside.tracker c.args.key c.args.from c.args.flags c.args.now c.self.invariant)

pub returns-clause-noted : goal.returns-clause-noted
returns-clause-noted g c =
    rw (← c.self.view_is) (ap (joined c.self.inside.sessions) c.note.ensures.noted
    ∙ sym (noted_joined c.self.inside.sessions c.self.inside.tracker c.args.key c.args.from c.args.flags c.args.now c.self.invariant.kept))

pub returns-clause-timeout : goal.returns-clause-timeout
returns-clause-timeout g c =
    rw (← c.self.view_is) (c.note.ensures.timeout ∙ timeout_joined c.self.inside.sessions c.self.inside.tracker c.args.key c.args.from c.args.flags
    c.self.invariant.kept)
