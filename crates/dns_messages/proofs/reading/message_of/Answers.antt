use Rattle.std.proofs.Common.{◌∙◌}
use Rattle.dns_messages.specs.Reading.{message_at}
use Rattle.dns_messages.proofs.Stopped.{Header, handed_on, header_read, no_question, no_answers, no_authority, no_additional, too_long, all_read}
use Rattle.dns_messages.proofs.reading.message_of.Goals as goal
use Rattle.dns_messages.proofs.reading.message_of.Goals.{After-questions_of}

-- the six numbers of the header
header : (c : After-questions_of) → Header c.args.reader.now (c.in_ok-id.id, c.in_ok-id.place) (c.in_ok-flags.flags, c.in_ok-flags.place)
    (c.in_ok-asked.asked, c.in_ok-asked.place) (c.in_ok-answered.answered, c.in_ok-answered.place) (c.in_ok-backed.backed, c.in_ok-backed.place)
    (c.in_ok-added.added, c.in_ok-added.place)
header c = header_read c.args.reader.now _ _ _ _ _ _ c.in_ok-id.ensures c.in_ok-flags.ensures c.in_ok-asked.ensures c.in_ok-answered.ensures
    c.in_ok-backed.ensures c.in_ok-added.ensures

pub returns-in_err-question-clause-reads : goal.returns-in_err-question-clause-reads
returns-in_err-question-clause-reads c =
    handed_on (λ m. m) c.from_residual-in_err-question.result c.in_err-question.field-0.0 (message_at c.args.reader.now)
    c.from_residual-in_err-question.ensures.1
    (no_question c.args.reader.now _ _ _ _ _ _ (header (goal.at.returns-in_err-question-clause-reads c).After-questions_of)
    c.in_err-question.field-0.0 c.in_err-question.ensures.reads)

pub returns-in_err-answers-clause-reads : goal.returns-in_err-answers-clause-reads
returns-in_err-answers-clause-reads c =
    handed_on (λ m. m) c.from_residual-in_err-answers.result c.in_err-answers.field-0.0 (message_at c.args.reader.now)
    c.from_residual-in_err-answers.ensures.1
    (no_answers c.args.reader.now _ _ _ _ _ _ (header (goal.at.returns-in_err-answers-clause-reads c).After-questions_of) _ _
    c.in_ok-question.ensures.reads c.in_ok-question.ensures.stays c.in_err-answers.field-0.0 c.in_err-answers.ensures.reads)

pub returns-in_err-authority-clause-reads : goal.returns-in_err-authority-clause-reads
returns-in_err-authority-clause-reads c =
    handed_on (λ m. m) c.from_residual-in_err-authority.result c.in_err-authority.field-0.0 (message_at c.args.reader.now)
    c.from_residual-in_err-authority.ensures.1
    (no_authority c.args.reader.now _ _ _ _ _ _ (header (goal.at.returns-in_err-authority-clause-reads c).After-questions_of) _ _
    c.in_ok-question.ensures.reads c.in_ok-question.ensures.stays _ _ c.in_ok-answers.ensures.reads c.in_ok-answers.ensures.stays
    c.in_err-authority.field-0.0 c.in_err-authority.ensures.reads)

pub returns-in_err-additional-clause-reads : goal.returns-in_err-additional-clause-reads
returns-in_err-additional-clause-reads c =
    handed_on (λ m. m) c.from_residual-in_err-additional.result c.in_err-additional.field-0.0 (message_at c.args.reader.now)
    c.from_residual-in_err-additional.ensures.1
    (no_additional c.args.reader.now _ _ _ _ _ _ (header (goal.at.returns-in_err-additional-clause-reads c).After-questions_of) _ _
    c.in_ok-question.ensures.reads c.in_ok-question.ensures.stays _ _ c.in_ok-answers.ensures.reads c.in_ok-answers.ensures.stays _ _
    c.in_ok-authority.ensures.reads c.in_ok-authority.ensures.stays c.in_err-additional.field-0.0 c.in_err-additional.ensures.reads)

pub returns-then-place-message-clause-reads : goal.returns-then-place-message-clause-reads
returns-then-place-message-clause-reads c =
    too_long c.args.reader.now _ _ _ _ _ _ (header (goal.at.returns-then-place-message-clause-reads c).After-questions_of) _ _
    c.in_ok-question.ensures.reads c.in_ok-question.ensures.stays _ _ c.in_ok-answers.ensures.reads c.in_ok-answers.ensures.stays _ _
    c.in_ok-authority.ensures.reads c.in_ok-authority.ensures.stays _ _ c.in_ok-additional.ensures.reads
    (c.message.ensures ∙ c.in_ok-additional.ensures.stays) c.if-place-message.true

pub returns-clause-reads : goal.returns-clause-reads
returns-clause-reads c =
    all_read c.args.reader.now _ _ _ _ _ _ (header (goal.at.returns-clause-reads c).After-questions_of) _ _ c.in_ok-question.ensures.reads
    c.in_ok-question.ensures.stays _ _ c.in_ok-answers.ensures.reads c.in_ok-answers.ensures.stays _ _ c.in_ok-authority.ensures.reads
    c.in_ok-authority.ensures.stays _ _ c.in_ok-additional.ensures.reads (c.message.ensures ∙ c.in_ok-additional.ensures.stays)
    c.if-place-message.false
