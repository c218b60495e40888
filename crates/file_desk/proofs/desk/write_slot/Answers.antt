use Rattle.std.proofs.Common.{◌≡◌, ◌++◌, None, OnErr, OnOk, ap, inl, inr, rules, subst, sym, ◌∙◌}
use denote.Enum.Bare.{same_true}
use Rattle.std.proofs.lemmas.Bool.{false≢true}
use Rattle.gate_desk.specs.contracts.slot.Slot.{the_type}
use Rattle.gate_desk.specs.declared.slot.Slot.{Slot}
use Rattle.gate_desk.specs.declared.slot.Slot.TheVariants.{Errors}
use Rattle.file_desk.proofs.Gathering.{gathered_at, none_refused, not_gathered, waits_behind, waits_later, waits_nowhere}
use Rattle.file_desk.proofs.Kept.{keeps_on, keeps_put}
use Rattle.gate_desk.proofs.Laws.{mapped-same}
use Rattle.file_desk.proofs.Taken.{gathered_one, nothing_taken, taken_later}
use Rattle.file_desk.specs.Gathering.{got, TakesNothing, TakesPiece}
use Rattle.file_desk.specs.Inside.Gathering.{got_in, waiting_in}
use Rattle.gate_desk.specs.Slots.{put}
use Rattle.file_desk.proofs.desk.write_slot.Goals as goal

pub returns-in-Gathered-clause-keeps : goal.returns-in-Gathered-clause-keeps
returns-in-Gathered-clause-keeps g c =
    keeps_put g.R.File.Read.remaining c.args.places.now c.args.slot c.at_mut.result.now c.gather.new.self c.at_mut.ensures.value
    c.gather.ensures.access c.gather.ensures.ahead c.gather.ensures.unread

pub returns-in-Refused-clause-keeps : goal.returns-in-Refused-clause-keeps
returns-in-Refused-clause-keeps g c =
    keeps_put g.R.File.Read.remaining c.args.places.now c.args.slot c.at_mut.result.now c.gather.new.self c.at_mut.ensures.value
    c.gather.ensures.access c.gather.ensures.ahead c.gather.ensures.unread

pub returns-in-NoRoom-clause-keeps : goal.returns-in-NoRoom-clause-keeps
returns-in-NoRoom-clause-keeps g c = keeps_on g.R.File.Read.remaining c.args.places.now _ c.gather_alone.new.places
    (keeps_put g.R.File.Read.remaining c.args.places.now c.args.slot c.at_mut.result.now c.gather.new.self c.at_mut.ensures.value
    c.gather.ensures.access c.gather.ensures.ahead c.gather.ensures.unread)
    c.gather_alone.ensures.keeps

pub returns-in-Gathered-clause-loses : goal.returns-in-Gathered-clause-loses
returns-in-Gathered-clause-loses g c = record {
  fails = tt;
  still = λ waits. none_refused c.args.refused.now (waiting_in (put c.args.places.now c.args.slot c.gather.new.self))
      (sym c.if-is_some.false ∙ c.is_some.ensures);
}

pub returns-in-Refused-clause-loses : goal.returns-in-Refused-clause-loses
returns-in-Refused-clause-loses g c = record {
  fails =
      λ none.
      let contents = g.R.File.Write.contents in
      let new = put c.args.places.now c.args.slot c.gather.new.self in
      nothing_taken (got_in contents c.args.places.now) (got_in contents new) (waiting_in c.args.places.now) (waiting_in new)
      (mapped-same (got contents) c.args.places.now c.args.slot c.gather.new.self
      (c.gather.ensures.got contents ∙ ap (got contents) c.at_mut.ensures.value))
      (not_gathered c.args.slot (c.args.first.now ++ c.args.second.now) (waiting_in c.args.places.now) (waiting_in new) c.gather.result
      (gathered_at c.args.places.now c.args.slot (c.args.first.now ++ c.args.second.now) c.gather.result c.at_mut.result.now
      c.gather.new.self c.at_mut.ensures.value c.gather.ensures.waits) (inr c.in-Refused.is));
  still = λ waits. none_refused c.args.refused.now (waiting_in (put c.args.places.now c.args.slot c.gather.new.self))
      (sym c.if-is_some.false ∙ c.is_some.ensures);
}

pub returns-in-NoRoom-clause-loses : goal.returns-in-NoRoom-clause-loses
returns-in-NoRoom-clause-loses g c = record {
  fails =
      let contents = g.R.File.Write.contents in
      let middle = put c.args.places.now c.args.slot c.gather.new.self in
      let got' = mapped-same (got contents) c.args.places.now c.args.slot c.gather.new.self
      (c.gather.ensures.got contents ∙ ap (got contents) c.at_mut.ensures.value) in
      let waits = not_gathered c.args.slot (c.args.first.now ++ c.args.second.now) (waiting_in c.args.places.now)
      (waiting_in middle) c.gather.result (gathered_at c.args.places.now c.args.slot
      (c.args.first.now ++ c.args.second.now) c.gather.result c.at_mut.result.now c.gather.new.self c.at_mut.ensures.value
      c.gather.ensures.waits) (inl c.in-NoRoom.is) in
      subst (λ x. OnErr c.gather_alone.result (c.gather_alone.new.refused ≡ None
      → TakesNothing x (waiting_in c.args.places.now) (got_in contents c.gather_alone.new.places) (waiting_in c.gather_alone.new.places))) got'
      (subst (λ x. OnErr c.gather_alone.result (c.gather_alone.new.refused ≡ None
      → TakesNothing (got_in contents middle) x (got_in contents c.gather_alone.new.places) (waiting_in c.gather_alone.new.places))) waits
      c.gather_alone.ensures.loses.fails);
  still = λ waits. c.gather_alone.ensures.loses.still
      (none_refused c.args.refused.now (waiting_in (put c.args.places.now c.args.slot c.gather.new.self)) (sym c.if-is_some.false
      ∙ c.is_some.ensures));
}

pub returns-in-NoRoom-clause-waits : goal.returns-in-NoRoom-clause-waits
returns-in-NoRoom-clause-waits g c =
    let middle = put c.args.places.now c.args.slot c.gather.new.self in
    let waits = gathered_at c.args.places.now c.args.slot (c.args.first.now ++ c.args.second.now) c.gather.result c.at_mut.result.now
    c.gather.new.self c.at_mut.ensures.value c.gather.ensures.waits in
    waits_later c.gather_alone.result c.args.slot (c.args.first.now ++ c.args.second.now) (waiting_in c.args.places.now) (waiting_in middle)
    (waiting_in c.gather_alone.new.places) c.gather.result waits c.in-NoRoom.is c.gather_alone.ensures.waits

pub returns-in-NoRoom-clause-takes : goal.returns-in-NoRoom-clause-takes
returns-in-NoRoom-clause-takes g c =
    let contents = g.R.File.Write.contents in
    let middle = put c.args.places.now c.args.slot c.gather.new.self in
    let waits = gathered_at c.args.places.now c.args.slot (c.args.first.now ++ c.args.second.now) c.gather.result c.at_mut.result.now
    c.gather.new.self c.at_mut.ensures.value c.gather.ensures.waits in
    let got' = mapped-same (got contents) c.args.places.now c.args.slot c.gather.new.self
    (c.gather.ensures.got contents ∙ ap (got contents) c.at_mut.ensures.value) in
    taken_later c.gather_alone.result c.args.slot (c.args.first.now ++ c.args.second.now) (got_in contents c.args.places.now) (got_in contents middle)
    (got_in contents c.gather_alone.new.places) (waiting_in c.args.places.now) (waiting_in middle) (waiting_in c.gather_alone.new.places)
    c.gather.result
    got' waits c.in-NoRoom.is c.gather_alone.ensures.takes

pub returns-in-Gathered-clause-takes : goal.returns-in-Gathered-clause-takes
returns-in-Gathered-clause-takes g c =
    let contents = g.R.File.Write.contents in
    let new = put c.args.places.now c.args.slot c.gather.new.self in
    let waits = gathered_at c.args.places.now c.args.slot (c.args.first.now ++ c.args.second.now) c.gather.result c.at_mut.result.now
    c.gather.new.self c.at_mut.ensures.value c.gather.ensures.waits in
    let got' = mapped-same (got contents) c.args.places.now c.args.slot c.gather.new.self
    (c.gather.ensures.got contents ∙ ap (got contents) c.at_mut.ensures.value) in
    λ s file. gathered_one c.args.slot s (c.args.first.now ++ c.args.second.now) (got_in contents c.args.places.now) (got_in contents new)
    (waiting_in c.args.places.now) (waiting_in new) c.gather.result got' waits c.in-Gathered.is

pub returns-then-eq-clause-takes : goal.returns-then-eq-clause-takes
returns-then-eq-clause-takes g c =
    let contents = g.R.File.Write.contents in
    let e : c.args.slot ≡ Errors = same_true the_type (search rules) c.args.slot Errors (sym c.if-eq.ensures) in
    subst (λ (s : Slot). OnOk c.write_errors.result
    (TakesPiece s (c.args.first.now ++ c.args.second.now) (got_in contents c.args.places.now) (waiting_in c.args.places.now)
    (got_in contents c.write_errors.new.places) (waiting_in c.write_errors.new.places))) (sym e) c.write_errors.ensures.takes

pub returns-then-eq-clause-waits : goal.returns-then-eq-clause-waits
returns-then-eq-clause-waits g c = waits_nowhere c.write_errors.result c.args.slot (c.args.first.now ++ c.args.second.now)
    (waiting_in c.args.places.now) (waiting_in c.write_errors.new.places) (same_true the_type (search rules) c.args.slot Errors (sym c.if-eq.ensures))

pub returns-in-Gathered-clause-waits : goal.returns-in-Gathered-clause-waits
returns-in-Gathered-clause-waits g c =
    let waits = gathered_at c.args.places.now c.args.slot (c.args.first.now ++ c.args.second.now) c.gather.result c.at_mut.result.now
    c.gather.new.self c.at_mut.ensures.value c.gather.ensures.waits in
    waits_behind c.args.slot (c.args.first.now ++ c.args.second.now) (waiting_in c.args.places.now)
    (waiting_in (put c.args.places.now c.args.slot c.gather.new.self)) c.gather.result waits c.in-Gathered.is

pub returns-in-Gathered-clause-refused : goal.returns-in-Gathered-clause-refused
returns-in-Gathered-clause-refused g c = λ some. sym c.if-is_some.false ∙ c.is_some.ensures ∙ some

pub returns-in-NoRoom-clause-refused : goal.returns-in-NoRoom-clause-refused
returns-in-NoRoom-clause-refused g c = λ some. absurd (false≢true (sym c.if-is_some.false ∙ c.is_some.ensures ∙ some))
