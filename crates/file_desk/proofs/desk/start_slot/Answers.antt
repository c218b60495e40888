use Rattle.std.proofs.Common.{ℕ, List, [], Option, Some, ap, refl, ◌∙◌}
use Rattle.std.proofs.lemmas.Result.{err_from_is_err_and}
use Rattle.gate_desk.specs.declared.slot.PerSlot.{PerSlot}
use Rattle.gate_desk.specs.declared.slot.Access.{Access}
use Rattle.file_desk.specs.Gathering.{ahead, waiting}
use Rattle.file_desk.specs.Inside.Gathering.{ahead_in, got_in, waiting_in, unread, unread_in, access_of, accesses_in}
use Rattle.gate_desk.specs.Slots.{put}
use Rattle.gate_desk.proofs.Laws.{at-mapped, at-put, mapped-put, mapped-put_only}
use Rattle.file_desk.proofs.Unread.{put_behind}
use Rattle.file_desk.proofs.Gathering.{some_none, still_waits}
use Rattle.file_desk.proofs.Taken.{nothing_behind, nothing_else}
use Rattle.file_desk.proofs.desk.start_slot.Goals as goal

pub returns-in-Ok-clause-accesses : goal.returns-in-Ok-clause-accesses
returns-in-Ok-clause-accesses g c =
    mapped-put access_of c.hand_out.new.places c.args.slot c.in-Ok.place
    ∙ ap (λ (w : Option Access). put (accesses_in c.hand_out.new.places) c.args.slot w) c.in-Ok.ensures.access
    ∙ ap (λ (accesses : PerSlot (Option Access)). put accesses c.args.slot (Some c.args.access)) c.hand_out.ensures.keeps.accesses

pub returns-in-Ok-clause-ahead : goal.returns-in-Ok-clause-ahead
returns-in-Ok-clause-ahead g c =
    mapped-put ahead c.hand_out.new.places c.args.slot c.in-Ok.place
    ∙ ap (λ (xs : List ℕ). put (ahead_in c.hand_out.new.places) c.args.slot xs) c.in-Ok.ensures.ahead
    ∙ ap (λ (all : PerSlot (List ℕ)). put all c.args.slot []) c.hand_out.ensures.keeps.ahead

pub returns-in-Ok-clause-takes : goal.returns-in-Ok-clause-takes
returns-in-Ok-clause-takes g c = nothing_else g.R.File.Write.contents c.args.slot c.args.places.now c.hand_out.new.places c.in-Ok.place
    c.in_ok-hand_out.ensures.files c.in_ok-hand_out.ensures.all

pub returns-in-Ok-clause-none : goal.returns-in-Ok-clause-none
returns-in-Ok-clause-none g c = at-mapped waiting (put c.hand_out.new.places c.args.slot c.in-Ok.place) c.args.slot
    ∙ ap waiting (at-put c.hand_out.new.places c.args.slot c.in-Ok.place) ∙ c.in-Ok.ensures.none

pub returns-in-Ok-clause-unread : goal.returns-in-Ok-clause-unread
returns-in-Ok-clause-unread g c =
    let remaining = g.R.File.Read.remaining in
    put_behind (unread_in remaining c.args.places.now) (unread_in remaining c.hand_out.new.places)
    (unread_in remaining (put c.hand_out.new.places c.args.slot c.in-Ok.place)) c.args.slot
    c.hand_out.ensures.keeps.unread (mapped-put_only (unread remaining) c.hand_out.new.places c.args.slot c.in-Ok.place)

pub returns-in-Ok-clause-loses : goal.returns-in-Ok-clause-loses
returns-in-Ok-clause-loses g c = record {
  fails = tt;
  still = λ waits. rw c.in_ok-hand_out.ensures.none tt;
}

pub returns-in_err-hand_out-clause-loses : goal.returns-in_err-hand_out-clause-loses
returns-in_err-hand_out-clause-loses g c = record {
  fails = rw (err_from_is_err_and c.from_residual.result c.from_residual.ensures.1).1
      (λ none. absurd (some_none c.hand_out.new.refused c.in_err-hand_out.ensures.err none));
  still = λ waits. still_waits c.hand_out.new.refused (waiting_in c.args.places.now) (waiting_in c.hand_out.new.places)
      (c.hand_out.ensures.stays waits);
}

pub returns-in-Err-clause-loses : goal.returns-in-Err-clause-loses
returns-in-Err-clause-loses g c = record {
  fails = λ none.
      let contents = g.R.File.Write.contents in
      nothing_behind (got_in contents c.args.places.now) (got_in contents c.hand_out.new.places) (got_in contents c.hand_out.new.places)
      (waiting_in c.args.places.now) (waiting_in c.hand_out.new.places) (waiting_in c.hand_out.new.places)
      c.in_ok-hand_out.ensures.files c.in_ok-hand_out.ensures.all refl refl;
  still = λ waits. rw c.in_ok-hand_out.ensures.none tt;
}
