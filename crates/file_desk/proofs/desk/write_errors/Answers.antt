use Rattle.std.proofs.Common.{◌++◌, OnErr, Result, Ok, Err, refl}
use Rattle.std.proofs.lemmas.Result.{err_from_is_err_and}
use Rattle.file_desk.proofs.Gathering.{some_none, still_waits}
use Rattle.file_desk.proofs.Taken.{nothing_behind, taken_for_none}
use Rattle.file_desk.specs.Inside.Gathering.{got_in, waiting_in}
use Rattle.file_desk.proofs.desk.write_errors.Goals as goal

failed : {A E : Type 0} {P : Type 0} → P → (r : Result A E) → OnErr r P
failed p (Ok x) = tt
failed p (Err e) = p

pub returns-clause-takes : goal.returns-clause-takes
returns-clause-takes g c =
    let contents = g.R.File.Write.contents in
    taken_for_none (c.args.first.now ++ c.args.second.now) (got_in contents c.args.places.now) (got_in contents c.hand_out.new.places)
    (waiting_in c.args.places.now) (waiting_in c.hand_out.new.places) c.in_ok-hand_out.ensures.files c.in_ok-hand_out.ensures.all

pub returns-clause-loses : goal.returns-clause-loses
returns-clause-loses g c = record {
  fails = tt;
  still = λ waits. rw c.in_ok-hand_out.ensures.none tt;
}

pub returns-in_err-hand_out-clause-loses : goal.returns-in_err-hand_out-clause-loses
returns-in_err-hand_out-clause-loses g c = record {
  fails = rw (err_from_is_err_and c.from_residual.result c.from_residual.ensures.1).1
      (λ none. absurd (some_none c.hand_out.new.refused c.in_err-hand_out.ensures.err none));
  still = λ waits. still_waits c.hand_out.new.refused (waiting_in c.args.places.now) (waiting_in c.hand_out.new.places)
      (c.hand_out.ensures.stays waits);
}

pub returns-in_err-print-clause-loses : goal.returns-in_err-print-clause-loses
returns-in_err-print-clause-loses g c = record {
  fails =
      let contents = g.R.File.Write.contents in
      failed (λ none. nothing_behind (got_in contents c.args.places.now) (got_in contents c.hand_out.new.places)
      (got_in contents c.hand_out.new.places) (waiting_in c.args.places.now) (waiting_in c.hand_out.new.places) (waiting_in c.hand_out.new.places)
      c.in_ok-hand_out.ensures.files c.in_ok-hand_out.ensures.all refl refl) c.from_residual-in_err-print.result;
  still = λ waits. rw c.in_ok-hand_out.ensures.none tt;
}

pub returns-in_err-print-2-clause-loses : goal.returns-in_err-print-2-clause-loses
returns-in_err-print-2-clause-loses g c = record {
  fails =
      let contents = g.R.File.Write.contents in
      failed (λ none. nothing_behind (got_in contents c.args.places.now) (got_in contents c.hand_out.new.places)
      (got_in contents c.hand_out.new.places) (waiting_in c.args.places.now) (waiting_in c.hand_out.new.places) (waiting_in c.hand_out.new.places)
      c.in_ok-hand_out.ensures.files c.in_ok-hand_out.ensures.all refl refl) c.from_residual-in_err-print-2.result;
  still = λ waits. rw c.in_ok-hand_out.ensures.none tt;
}
