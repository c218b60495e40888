use Rattle.std.proofs.lemmas.Result.{on_ok_weaker}
use Rattle.dns_messages.specs.Writing.{header_written, questions_written, resources_written}
use Rattle.dns_messages.proofs.Wrote.{five_writes}
use Rattle.dns_messages.proofs.writing.put_message.Goals as goal

pub returns-clause-text : goal.returns-clause-text
returns-clause-text c =
    let m = c.args.message.now in
    five_writes c.put_resources-3.result c.args.writer.now c.put_header.new.writer c.put_question.new.writer c.put_resources.new.writer
    c.put_resources-2.new.writer c.put_resources-3.new.writer
    (header_written m) (questions_written m.question) (resources_written m.answers) (resources_written m.authority) (resources_written m.additional)
    c.in_ok-put_header.ensures.text c.in_ok-put_question.ensures.text
    (rw c.items.ensures at c.in_ok-put_resources.ensures.text) (rw c.items-2.ensures at c.in_ok-put_resources-2.ensures.text)
    (rw c.items-3.ensures at c.put_resources-3.ensures.text)

pub returns-clause-fits : goal.returns-clause-fits
returns-clause-fits c =
    on_ok_weaker c.put_resources-3.result (λ f. record {
      id = c.in_ok-put_header.ensures.id;
      flags = c.in_ok-put_header.ensures.flags;
      question = c.in_ok-put_question.ensures.fits;
      answers_count = c.requires.answers;
      authority_count = c.requires.authority;
      additional_count = c.requires.additional;
      answers = rw c.items.ensures at c.in_ok-put_resources.ensures.fits;
      authority = rw c.items-2.ensures at c.in_ok-put_resources-2.ensures.fits;
      additional = rw c.items-3.ensures at f;
    }) c.put_resources-3.ensures.fits
