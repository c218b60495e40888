use Rattle.std.proofs.Common.{refl, arith, ◌∙◌, ap, length}
use Rattle.std.proofs.lemmas.Result.{err_from_is_err_and}
use Rattle.dns_messages.specs.Writing.{spelling}
use Rattle.dns_messages.proofs.Wrote.{spelling-wrote, spelling-long, same_stop, message-least}
use Rattle.dns_messages.proofs.Again.{message-again}
use Rattle.dns_messages.proofs.Exact.{message-is}
use Rattle.dns_messages.proofs.writing.write_message.Goals as goal

pub returns-then-has_no_records-clause-again : goal.returns-then-has_no_records-clause-again
returns-then-has_no_records-clause-again c =
    let wrote = c.in_ok-write_question.ensures in
    rw wrote.written (message-is (spelling c.args.message.now) c.args.message.now
    (message-again c.args.message.now wrote.fits c.requires (rw wrote.written at wrote.short)))

pub returns-then-not-can_be_counted-clause-long : goal.returns-then-not-can_be_counted-clause-long
returns-then-not-can_be_counted-clause-long c = λ _. omega (arith, message-least c.args.message.now, c.if-not-can_be_counted.ensures.many refl)

pub returns-in_err-put_message-clause-long : goal.returns-in_err-put_message-clause-long
returns-in_err-put_message-clause-long c = λ e.
    let p = err_from_is_err_and c.from_residual-in_err-put_message.result c.from_residual-in_err-put_message.ensures.1 in
    spelling-long c.in_err-put_message.field-0.0 c.in_ok-writer.writer c.args.message.now c.in_ok-writer.ensures c.in_err-put_message.ensures.text
    (same_stop c.from_residual-in_err-put_message.result p.0 _ _ p.1 p.2 e)

pub returns-then-len-gt-LONGEST_MESSAGE-clause-long : goal.returns-then-len-gt-LONGEST_MESSAGE-clause-long
returns-then-len-gt-LONGEST_MESSAGE-clause-long c = λ _.
    let octets = spelling-wrote c.in_ok-writer.writer c.put_message.new.writer c.args.message.now c.in_ok-writer.ensures
    c.in_ok-put_message.ensures.text in
    omega (arith, ap length octets, c.len.ensures)

pub returns-clause-written : goal.returns-clause-written
returns-clause-written c =
    c.finish.ensures ∙ spelling-wrote c.in_ok-writer.writer c.put_message.new.writer c.args.message.now c.in_ok-writer.ensures
    c.in_ok-put_message.ensures.text

pub returns-clause-again : goal.returns-clause-again
returns-clause-again c =
    let octets = spelling-wrote c.in_ok-writer.writer c.put_message.new.writer c.args.message.now c.in_ok-writer.ensures
    c.in_ok-put_message.ensures.text in
    rw (c.finish.ensures, octets)
    (message-is (spelling c.args.message.now) c.args.message.now
    (message-again c.args.message.now c.in_ok-put_message.ensures.fits c.requires (omega (arith, ap length octets, c.len.ensures))))
