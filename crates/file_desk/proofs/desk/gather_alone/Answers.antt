use Rattle.std.proofs.Common.{◌++◌, ap, inl, inr, ◌∙◌}
use Rattle.std.proofs.lemmas.Result.{err_from_is_err_and}
use Rattle.file_desk.proofs.Gathering.{gathered_at, not_gathered, some_none, still_waits, waits_alone}
use Rattle.file_desk.proofs.Kept.{keeps_on, keeps_put}
use Rattle.gate_desk.proofs.Laws.{mapped-same}
use Rattle.file_desk.proofs.Taken.{gathered_behind, nothing_behind}
use Rattle.file_desk.specs.Gathering.{got}
use Rattle.file_desk.specs.Inside.Gathering.{got_in, waiting_in}
use Rattle.gate_desk.specs.Slots.{put}
use Rattle.file_desk.proofs.desk.gather_alone.Goals as goal

pub returns-in-Gathered-clause-keeps : goal.returns-in-Gathered-clause-keeps
returns-in-Gathered-clause-keeps g c =
    keeps_on g.R.File.Read.remaining c.args.places.now c.hand_out.new.places _ c.hand_out.ensures.keeps
    (keeps_put g.R.File.Read.remaining c.hand_out.new.places c.args.slot c.at_mut.result.now c.gather.new.self c.at_mut.ensures.value
    c.gather.ensures.access c.gather.ensures.ahead c.gather.ensures.unread)

pub returns-in-Gathered-clause-loses : goal.returns-in-Gathered-clause-loses
returns-in-Gathered-clause-loses g c = record { fails = tt; still = λ waits. rw c.in_ok-hand_out.ensures.none tt }

pub returns-in-NoRoom : goal.returns-in-NoRoom
returns-in-NoRoom g c = record {
  keeps = keeps_on g.R.File.Read.remaining c.args.places.now c.hand_out.new.places _ c.hand_out.ensures.keeps
      (keeps_put g.R.File.Read.remaining c.hand_out.new.places c.args.slot c.at_mut.result.now c.gather.new.self c.at_mut.ensures.value
      c.gather.ensures.access c.gather.ensures.ahead c.gather.ensures.unread);
  waits = tt;
  takes = tt;
  loses = record {
    still = λ waits. rw c.in_ok-hand_out.ensures.none tt;
    fails = λ none.
        let contents = g.R.File.Write.contents in
        let new = put c.hand_out.new.places c.args.slot c.gather.new.self in
        let waits = gathered_at c.hand_out.new.places c.args.slot
        (c.args.first.now ++ c.args.second.now) c.gather.result c.at_mut.result.now c.gather.new.self c.at_mut.ensures.value
        c.gather.ensures.waits in
        nothing_behind (got_in contents c.args.places.now) (got_in contents c.hand_out.new.places) (got_in contents new)
        (waiting_in c.args.places.now) (waiting_in c.hand_out.new.places) (waiting_in new)
        c.in_ok-hand_out.ensures.files c.in_ok-hand_out.ensures.all
        (mapped-same (got contents) c.hand_out.new.places c.args.slot c.gather.new.self
        (c.gather.ensures.got contents ∙ ap (got contents) c.at_mut.ensures.value))
        (not_gathered c.args.slot (c.args.first.now ++ c.args.second.now) (waiting_in c.hand_out.new.places)
        (waiting_in new) c.gather.result waits (inl c.in-NoRoom.is));
  };
}

pub returns-in-Refused : goal.returns-in-Refused
returns-in-Refused g c = record {
  keeps = keeps_on g.R.File.Read.remaining c.args.places.now c.hand_out.new.places _ c.hand_out.ensures.keeps
      (keeps_put g.R.File.Read.remaining c.hand_out.new.places c.args.slot c.at_mut.result.now c.gather.new.self c.at_mut.ensures.value
      c.gather.ensures.access c.gather.ensures.ahead c.gather.ensures.unread);
  waits = tt;
  takes = tt;
  loses = record {
    still = λ waits. rw c.in_ok-hand_out.ensures.none tt;
    fails = λ none.
        let contents = g.R.File.Write.contents in
        let new = put c.hand_out.new.places c.args.slot c.gather.new.self in
        let waits = gathered_at c.hand_out.new.places c.args.slot
        (c.args.first.now ++ c.args.second.now) c.gather.result c.at_mut.result.now c.gather.new.self c.at_mut.ensures.value
        c.gather.ensures.waits in
        nothing_behind (got_in contents c.args.places.now) (got_in contents c.hand_out.new.places) (got_in contents new)
        (waiting_in c.args.places.now) (waiting_in c.hand_out.new.places) (waiting_in new)
        c.in_ok-hand_out.ensures.files c.in_ok-hand_out.ensures.all
        (mapped-same (got contents) c.hand_out.new.places c.args.slot c.gather.new.self
        (c.gather.ensures.got contents ∙ ap (got contents) c.at_mut.ensures.value))
        (not_gathered c.args.slot (c.args.first.now ++ c.args.second.now) (waiting_in c.hand_out.new.places)
        (waiting_in new) c.gather.result waits (inr c.in-Refused.is));
  };
}

pub returns-in-Gathered-clause-waits : goal.returns-in-Gathered-clause-waits
returns-in-Gathered-clause-waits g c =
    let new = put c.hand_out.new.places c.args.slot c.gather.new.self in
    let waits = gathered_at c.hand_out.new.places c.args.slot (c.args.first.now ++ c.args.second.now) c.gather.result c.at_mut.result.now
    c.gather.new.self c.at_mut.ensures.value c.gather.ensures.waits in
    waits_alone c.args.slot (c.args.first.now ++ c.args.second.now) (waiting_in c.args.places.now) (waiting_in c.hand_out.new.places)
    (waiting_in new) c.gather.result c.in_ok-hand_out.ensures.all waits c.in-Gathered.is

pub returns-in-Gathered-clause-takes : goal.returns-in-Gathered-clause-takes
returns-in-Gathered-clause-takes g c =
    let contents = g.R.File.Write.contents in
    let new = put c.hand_out.new.places c.args.slot c.gather.new.self in
    let waits = gathered_at c.hand_out.new.places c.args.slot (c.args.first.now ++ c.args.second.now) c.gather.result c.at_mut.result.now
    c.gather.new.self c.at_mut.ensures.value c.gather.ensures.waits in
    let got' = mapped-same (got contents) c.hand_out.new.places c.args.slot c.gather.new.self
    (c.gather.ensures.got contents ∙ ap (got contents) c.at_mut.ensures.value) in
    gathered_behind c.args.slot (c.args.first.now ++ c.args.second.now) (got_in contents c.args.places.now) (got_in contents c.hand_out.new.places)
    (got_in contents new) (waiting_in c.args.places.now) (waiting_in c.hand_out.new.places) (waiting_in new) c.gather.result
    c.in_ok-hand_out.ensures.files c.in_ok-hand_out.ensures.all got' waits c.in-Gathered.is

pub returns-in_err-hand_out-clause-loses : goal.returns-in_err-hand_out-clause-loses
returns-in_err-hand_out-clause-loses g c = record {
  fails = rw (err_from_is_err_and c.from_residual.result c.from_residual.ensures.1).1
      (λ none. absurd (some_none c.hand_out.new.refused c.in_err-hand_out.ensures.err none));
  still = λ waits. still_waits c.hand_out.new.refused (waiting_in c.args.places.now) (waiting_in c.hand_out.new.places)
      (c.hand_out.ensures.stays waits);
}
