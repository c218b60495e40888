use Rattle.std.proofs.Common.{◌∙◌, sym, ap, inr, option_and_then}
use Rattle.std.specs.Option.{ghost_name_of}
use borrow.Follows.Closed.{read_of}
use Rattle.slab.specs.Slab.{get}
use Rattle.tcp_tracker.proofs.Joining.{session_joined}
use Rattle.tcp_tracker.proofs.Lending.{slot_filled, lent_joined, lent_each}
use Rattle.tcp_tracker.proofs.table.SessionTable.session_mut.Goals as goal

pub invariant_of-self-lent : goal.invariant_of-self-lent
invariant_of-self-lent g c = λ some. (
  λ w. lent_joined c.self.inside.sessions c.self.inside.tracker c.in-Some.slot w c.self.invariant
      (slot_filled c.self.inside.sessions c.self.inside.tracker c.args.key.now c.in-Some.slot c.self.invariant
      (sym c.slot_of.ensures ∙ c.in-Some.is)),
  c.self.invariant,
)

pub returns-in-None : goal.returns-in-None
returns-in-None g c = (
  ap inr c.self.view_is,
  record {
    writes_back = tt;
    value = rw (← c.self.view_is)
        (ap (option_and_then (get c.self.inside.sessions)) (sym c.in-None.is ∙ c.slot_of.ensures)
        ∙ sym (session_joined c.self.inside.sessions c.args.key.now c.self.inside.tracker));
  },
)

pub returns-in-Some : goal.returns-in-Some
returns-in-Some g c =
    let e = sym c.slot_of.ensures ∙ c.in-Some.is in (
      ap (read_of (ghost_name_of c.get_mut.result) _) c.self.view_is
          ∙ ap (λ F. read_of (ghost_name_of c.get_mut.result) F c.args.self.now)
          (lent_each c.self.inside.sessions c.self.inside.tracker c.args.key.now c.in-Some.slot c.args.self.now c.self.view_is c.self.invariant
          e),
      record {
        writes_back = tt;
        value = rw (← c.self.view_is)
            (c.get_mut.ensures.value ∙ ap (option_and_then (get c.self.inside.sessions)) (sym e)
            ∙ sym (session_joined c.self.inside.sessions c.args.key.now c.self.inside.tracker));
      },
    )
