use Rattle.std.proofs.Common.{◌≡◌, ℕ, ◌≤◌, List, [], Option, Result, Ok, Err, OnOk, OnErr, length, ap, refl, sym, subst, ◌∙◌, arith}
use Rattle.std.proofs.lemmas.Result.{IfOk-weaker, err_from_is_err_and}
use Rattle.gate_desk.specs.declared.slot.PerSlot.{PerSlot}
use Rattle.file_desk.specs.Gathering.{ahead, got, waiting, TakesAhead, TakesNothing}
use Rattle.file_desk.specs.Inside.Gathering.{ahead_in, got_in, unread, unread_in, waiting_in, access_of, RefusedWaits}
use Rattle.gate_desk.specs.Slots.{at, put}
use Rattle.gate_desk.proofs.Laws.{at-mapped, mapped-put, mapped-put_only, mapped-same, put-put}
use Rattle.std.specs.Io.KnownBytes.{ReadConsumes}
use Rattle.file_desk.proofs.Unread.{keeps, none_dropped, put_behind, put_kept, read_ahead_at, read_at, takes_at}
use Rattle.std.proofs.lemmas.Bool.{false≢true}
use Rattle.file_desk.proofs.Gathering.{some_none, still_waits}
use Rattle.file_desk.proofs.Taken.{nothing_taken, nothing_behind}
use Rattle.file_desk.proofs.desk.read_slot.Goals as goal

failed : {A E : Type 0} {P : Type 0} → P → (r : Result A E) → OnErr r P
failed p (Ok x) = tt
failed p (Err e) = p

always : {A E : Type 0} {P : Type 0} → P → (r : Result A E) → OnOk r P
always p (Ok x) = p
always p (Err e) = tt

pub returns-in_err-hand_out-in-None-clause-accesses : goal.returns-in_err-hand_out-in-None-clause-accesses
returns-in_err-hand_out-in-None-clause-accesses g c =
    c.hand_out.ensures.keeps.accesses ∙ mapped-same access_of c.args.places.now c.args.slot c.take_ahead.new.self
    (c.take_ahead.ensures.access ∙ ap access_of c.at_mut.ensures.value)

pub returns-in_ok-hand_out-in-None-clause-accesses : goal.returns-in_ok-hand_out-in-None-clause-accesses
returns-in_ok-hand_out-in-None-clause-accesses g c =
    mapped-same access_of c.hand_out.new.places c.args.slot c.read.new.self (c.read.ensures.access ∙ ap access_of c.at_mut-in-None.ensures.value)
    ∙ c.hand_out.ensures.keeps.accesses ∙ mapped-same access_of c.args.places.now c.args.slot c.take_ahead.new.self
    (c.take_ahead.ensures.access ∙ ap access_of c.at_mut.ensures.value)

pub returns-in_ok-hand_out-in-None-clause-ahead : goal.returns-in_ok-hand_out-in-None-clause-ahead
returns-in_ok-hand_out-in-None-clause-ahead g c =
    let none : at (ahead_in c.args.places.now) c.args.slot ≡ [] = at-mapped ahead c.args.places.now c.args.slot
    ∙ sym (ap ahead c.at_mut.ensures.value) ∙ c.in-None.ensures.ahead in
    let after = put c.hand_out.new.places c.args.slot c.read.new.self in
    IfOk-weaker c.read.result (λ n. n ≤ length c.read.new.buffer) _
    (λ n fits some. absurd {A = TakesAhead n c.read.new.buffer (at (ahead_in c.args.places.now) c.args.slot) (at (ahead_in after) c.args.slot)}
    (omega (arith, some, ap (λ (xs : List ℕ). length xs) none))) c.read.ensures.fits

pub returns-in_ok-hand_out-in-None-clause-others : goal.returns-in_ok-hand_out-in-None-clause-others
returns-in_ok-hand_out-in-None-clause-others g c =
    let after = at (ahead_in (put c.hand_out.new.places c.args.slot c.read.new.self)) c.args.slot in
    mapped-put_only ahead c.hand_out.new.places c.args.slot c.read.new.self
    ∙ ap (λ (all : PerSlot (List ℕ)). put all c.args.slot after)
    (c.hand_out.ensures.keeps.ahead ∙ mapped-put ahead c.args.places.now c.args.slot c.take_ahead.new.self)
    ∙ put-put (ahead_in c.args.places.now) c.args.slot (ahead c.take_ahead.new.self) after

pub returns-in-Some-clause-takes : goal.returns-in-Some-clause-takes
returns-in-Some-clause-takes g c =
    let contents = g.R.File.Write.contents in
    let new = put c.args.places.now c.args.slot c.take_ahead.new.self in
    nothing_taken (got_in contents c.args.places.now) (got_in contents new) (waiting_in c.args.places.now) (waiting_in new)
    (mapped-same (got contents) c.args.places.now c.args.slot c.take_ahead.new.self
    (c.take_ahead.ensures.got contents ∙ ap (got contents) c.at_mut.ensures.value))
    (mapped-same waiting c.args.places.now c.args.slot c.take_ahead.new.self (c.take_ahead.ensures.waiting ∙ ap waiting c.at_mut.ensures.value))

pub returns-in_ok-hand_out-in-None-clause-takes : goal.returns-in_ok-hand_out-in-None-clause-takes
returns-in_ok-hand_out-in-None-clause-takes g c =
    let contents = g.R.File.Write.contents in
    let first = put c.args.places.now c.args.slot c.take_ahead.new.self in
    let new = put c.hand_out.new.places c.args.slot c.read.new.self in
    let got' = mapped-same (got contents) c.args.places.now c.args.slot c.take_ahead.new.self
    (c.take_ahead.ensures.got contents ∙ ap (got contents) c.at_mut.ensures.value) in
    let waiting' = mapped-same waiting c.args.places.now c.args.slot c.take_ahead.new.self
    (c.take_ahead.ensures.waiting ∙ ap waiting c.at_mut.ensures.value) in
    let all : TakesNothing (got_in contents first) (waiting_in first) (got_in contents new) (waiting_in new) =
    nothing_behind (got_in contents first) (got_in contents c.hand_out.new.places) (got_in contents new) (waiting_in first)
    (waiting_in c.hand_out.new.places) (waiting_in new) c.in_ok-hand_out-in-None.ensures.files c.in_ok-hand_out-in-None.ensures.all
    (mapped-same (got contents) c.hand_out.new.places c.args.slot c.read.new.self
    (c.read.ensures.got contents ∙ ap (got contents) c.at_mut-in-None.ensures.value))
    (mapped-same waiting c.hand_out.new.places c.args.slot c.read.new.self (c.read.ensures.waiting ∙ ap waiting c.at_mut-in-None.ensures.value)) in
    always (subst (λ g. TakesNothing g (waiting_in c.args.places.now) (got_in contents new) (waiting_in new)) got'
    (subst (λ w. TakesNothing (got_in contents first) w (got_in contents new) (waiting_in new)) waiting' all)) c.read.result

pub returns-in-Some-clause-unread : goal.returns-in-Some-clause-unread
returns-in-Some-clause-unread g c = read_ahead_at g.R.File.Read.remaining c.args.places.now c.args.slot c.at_mut.result.now c.take_ahead.new.self
    c.in-Some.n c.take_ahead.new.buffer c.at_mut.ensures.value c.in-Some.ensures.ahead c.in-Some.ensures.some c.in-Some.ensures.unread

pub returns-in_err-hand_out-in-None-clause-unread : goal.returns-in_err-hand_out-in-None-clause-unread
returns-in_err-hand_out-in-None-clause-unread g c =
    let remaining = g.R.File.Read.remaining in
    let same = c.hand_out.ensures.keeps.unread ∙ mapped-same (unread g.R.File.Read.remaining) c.args.places.now c.args.slot c.take_ahead.new.self
    (c.in-None.ensures.unread ∙ none_dropped (unread g.R.File.Read.remaining c.at_mut.result.now)
    ∙ ap (unread g.R.File.Read.remaining) c.at_mut.ensures.value) in
    let p = err_from_is_err_and c.from_residual.result c.from_residual.ensures.1 in
    rw p.1 (keeps (at (unread_in remaining c.args.places.now) c.args.slot) (at (unread_in remaining c.hand_out.new.places) c.args.slot)
    (ap (λ (u : PerSlot (Option (List ℕ))). at u c.args.slot) same))

pub returns-in_err-hand_out-in-None-clause-unread_others : goal.returns-in_err-hand_out-in-None-clause-unread_others
returns-in_err-hand_out-in-None-clause-unread_others g c =
    let remaining = g.R.File.Read.remaining in
    put_kept (unread_in remaining c.args.places.now) (unread_in remaining c.hand_out.new.places) c.args.slot
    (c.hand_out.ensures.keeps.unread ∙ mapped-same (unread g.R.File.Read.remaining) c.args.places.now c.args.slot c.take_ahead.new.self
    (c.in-None.ensures.unread ∙ none_dropped (unread g.R.File.Read.remaining c.at_mut.result.now)
    ∙ ap (unread g.R.File.Read.remaining) c.at_mut.ensures.value))

pub returns-in_ok-hand_out-in-None-clause-unread : goal.returns-in_ok-hand_out-in-None-clause-unread
returns-in_ok-hand_out-in-None-clause-unread g c =
    let remaining = g.R.File.Read.remaining in
    let same = c.hand_out.ensures.keeps.unread ∙ mapped-same (unread g.R.File.Read.remaining) c.args.places.now c.args.slot c.take_ahead.new.self
    (c.in-None.ensures.unread ∙ none_dropped (unread g.R.File.Read.remaining c.at_mut.result.now)
    ∙ ap (unread g.R.File.Read.remaining) c.at_mut.ensures.value) in
    let new = at (unread_in remaining (put c.hand_out.new.places c.args.slot c.read.new.self)) c.args.slot in
    subst (λ (u : PerSlot (Option (List ℕ))). ReadConsumes (at u c.args.slot) new c.read.result c.read.new.buffer) same
    (read_at remaining c.hand_out.new.places c.args.slot c.at_mut-in-None.result.now c.read.new.self c.read.result c.read.new.buffer
    c.at_mut-in-None.ensures.value c.read.ensures.unread)

pub returns-in_ok-hand_out-in-None-clause-unread_others : goal.returns-in_ok-hand_out-in-None-clause-unread_others
returns-in_ok-hand_out-in-None-clause-unread_others g c =
    let remaining = g.R.File.Read.remaining in
    put_behind (unread_in remaining c.args.places.now) (unread_in remaining c.hand_out.new.places)
    (unread_in remaining (put c.hand_out.new.places c.args.slot c.read.new.self)) c.args.slot
    (c.hand_out.ensures.keeps.unread ∙ mapped-same (unread g.R.File.Read.remaining) c.args.places.now c.args.slot c.take_ahead.new.self
    (c.in-None.ensures.unread ∙ none_dropped (unread g.R.File.Read.remaining c.at_mut.result.now)
    ∙ ap (unread g.R.File.Read.remaining) c.at_mut.ensures.value))
    (mapped-put_only (unread remaining) c.hand_out.new.places c.args.slot c.read.new.self)

pub returns-in-Some-clause-hands_out : goal.returns-in-Some-clause-hands_out
returns-in-Some-clause-hands_out g c none =
    let there : ahead c.at_mut.result.now ≡ [] = ap ahead c.at_mut.ensures.value ∙ sym (at-mapped ahead c.args.places.now c.args.slot) ∙ none in
    absurd (omega (arith, c.in-Some.ensures.some, ap (λ (xs : List ℕ). length xs) there))

pub returns-in_ok-hand_out-in-None-clause-hands_out : goal.returns-in_ok-hand_out-in-None-clause-hands_out
returns-in_ok-hand_out-in-None-clause-hands_out g c =
    always (λ none. mapped-same waiting c.hand_out.new.places c.args.slot c.read.new.self
    (c.read.ensures.waiting ∙ ap waiting c.at_mut-in-None.ensures.value) ∙ c.in_ok-hand_out-in-None.ensures.all) c.read.result

pub returns-in_err-hand_out-in-None-clause-fits : goal.returns-in_err-hand_out-in-None-clause-fits
returns-in_err-hand_out-in-None-clause-fits g c = rw (err_from_is_err_and c.from_residual.result c.from_residual.ensures.1).1 tt

pub returns-in_err-hand_out-in-None-clause-ahead : goal.returns-in_err-hand_out-in-None-clause-ahead
returns-in_err-hand_out-in-None-clause-ahead g c = rw (err_from_is_err_and c.from_residual.result c.from_residual.ensures.1).1 tt

pub returns-in_err-hand_out-in-None-clause-takes : goal.returns-in_err-hand_out-in-None-clause-takes
returns-in_err-hand_out-in-None-clause-takes g c = rw (err_from_is_err_and c.from_residual.result c.from_residual.ensures.1).1 tt

pub returns-in_err-hand_out-in-None-clause-hands_out : goal.returns-in_err-hand_out-in-None-clause-hands_out
returns-in_err-hand_out-in-None-clause-hands_out g c = rw (err_from_is_err_and c.from_residual.result c.from_residual.ensures.1).1 tt

pub returns-in_err-hand_out-in-None-clause-refused : goal.returns-in_err-hand_out-in-None-clause-refused
returns-in_err-hand_out-in-None-clause-refused g c = λ some. rw (err_from_is_err_and c.from_residual.result c.from_residual.ensures.1).1 refl

pub returns-in_err-hand_out-in-None-clause-others : goal.returns-in_err-hand_out-in-None-clause-others
returns-in_err-hand_out-in-None-clause-others g c =
    subst (λ (all : PerSlot (List ℕ)). all ≡ put (ahead_in c.args.places.now) c.args.slot (at all c.args.slot)) (sym c.hand_out.ensures.keeps.ahead)
    (mapped-put_only ahead c.args.places.now c.args.slot c.take_ahead.new.self)

pub returns-in-Some-clause-fits : goal.returns-in-Some-clause-fits
returns-in-Some-clause-fits g c = c.in-Some.ensures.fits

pub returns-in-Some-clause-refused : goal.returns-in-Some-clause-refused
returns-in-Some-clause-refused g c = λ some. sym c.if-is_some.false ∙ c.is_some.ensures ∙ some

pub returns-in-Some-clause-accesses : goal.returns-in-Some-clause-accesses
returns-in-Some-clause-accesses g c = mapped-same access_of c.args.places.now c.args.slot c.take_ahead.new.self
    (c.take_ahead.ensures.access ∙ ap access_of c.at_mut.ensures.value)

pub returns-in-Some-clause-ahead : goal.returns-in-Some-clause-ahead
returns-in-Some-clause-ahead g c = λ some. takes_at c.args.places.now c.args.slot c.at_mut.result.now c.take_ahead.new.self c.in-Some.n
    c.take_ahead.new.buffer c.at_mut.ensures.value c.in-Some.ensures.ahead

pub returns-in-Some-clause-others : goal.returns-in-Some-clause-others
returns-in-Some-clause-others g c = mapped-put_only ahead c.args.places.now c.args.slot c.take_ahead.new.self

pub returns-in-Some-clause-unread_others : goal.returns-in-Some-clause-unread_others
returns-in-Some-clause-unread_others g c = mapped-put_only (unread g.R.File.Read.remaining) c.args.places.now c.args.slot c.take_ahead.new.self

pub returns-in_ok-hand_out-in-None-clause-fits : goal.returns-in_ok-hand_out-in-None-clause-fits
returns-in_ok-hand_out-in-None-clause-fits g c = c.read.ensures.fits

pub returns-in_ok-hand_out-in-None-clause-refused : goal.returns-in_ok-hand_out-in-None-clause-refused
returns-in_ok-hand_out-in-None-clause-refused g c = λ some. absurd (false≢true (sym c.if-is_some.false ∙ c.is_some.ensures ∙ some))

pub returns-in-Some-clause-loses : goal.returns-in-Some-clause-loses
returns-in-Some-clause-loses g c = record {
  fails = tt;
  still = λ waits. subst (RefusedWaits c.args.refused.now)
      (sym (mapped-same waiting c.args.places.now c.args.slot c.take_ahead.new.self (c.take_ahead.ensures.waiting
      ∙ ap waiting c.at_mut.ensures.value)))
      waits;
}

pub returns-in_err-hand_out-in-None-clause-loses : goal.returns-in_err-hand_out-in-None-clause-loses
returns-in_err-hand_out-in-None-clause-loses g c = record {
  fails =
      rw (err_from_is_err_and c.from_residual.result c.from_residual.ensures.1).1
      (λ none. absurd (some_none c.hand_out.new.refused c.in_err-hand_out-in-None.ensures.err none));
  still = λ waits. still_waits c.hand_out.new.refused
      (waiting_in (put c.args.places.now c.args.slot c.take_ahead.new.self)) (waiting_in c.hand_out.new.places)
      (c.hand_out.ensures.stays
      (subst (RefusedWaits c.args.refused.now)
      (sym (mapped-same waiting c.args.places.now c.args.slot c.take_ahead.new.self (c.take_ahead.ensures.waiting
      ∙ ap waiting c.at_mut.ensures.value)))
      waits));
}

pub returns-in_ok-hand_out-in-None-clause-loses : goal.returns-in_ok-hand_out-in-None-clause-loses
returns-in_ok-hand_out-in-None-clause-loses g c = record {
  fails =
      let contents = g.R.File.Write.contents in
      let first = put c.args.places.now c.args.slot c.take_ahead.new.self in
      let new = put c.hand_out.new.places c.args.slot c.read.new.self in
      let got' = mapped-same (got contents) c.args.places.now c.args.slot c.take_ahead.new.self
      (c.take_ahead.ensures.got contents ∙ ap (got contents) c.at_mut.ensures.value) in
      let waiting' = mapped-same waiting c.args.places.now c.args.slot c.take_ahead.new.self
      (c.take_ahead.ensures.waiting ∙ ap waiting c.at_mut.ensures.value) in
      let all : TakesNothing (got_in contents first) (waiting_in first) (got_in contents new) (waiting_in new) =
      nothing_behind (got_in contents first) (got_in contents c.hand_out.new.places) (got_in contents new) (waiting_in first)
      (waiting_in c.hand_out.new.places) (waiting_in new) c.in_ok-hand_out-in-None.ensures.files c.in_ok-hand_out-in-None.ensures.all
      (mapped-same (got contents) c.hand_out.new.places c.args.slot c.read.new.self
      (c.read.ensures.got contents ∙ ap (got contents) c.at_mut-in-None.ensures.value))
      (mapped-same waiting c.hand_out.new.places c.args.slot c.read.new.self (c.read.ensures.waiting ∙ ap waiting c.at_mut-in-None.ensures.value)) in
      failed (λ none. subst (λ g. TakesNothing g (waiting_in c.args.places.now) (got_in contents new) (waiting_in new)) got'
      (subst (λ w. TakesNothing (got_in contents first) w (got_in contents new) (waiting_in new)) waiting' all)) c.read.result;
  still = λ waits. rw c.in_ok-hand_out-in-None.ensures.none tt;
}
