use Rattle.dns_messages.specs.Reading.{resource_at}
use Rattle.dns_messages.proofs.Stopped.{handed_on, no_lifetime, no_count, no_end, no_content, record_read}
use Rattle.dns_messages.proofs.reading.resource_of.Goals as goal

pub returns-in_err-lifetime-clause-reads : goal.returns-in_err-lifetime-clause-reads
returns-in_err-lifetime-clause-reads c =
    handed_on (λ x. (x.0, x.1)) c.from_residual-in_err-lifetime.result c.in_err-lifetime.field-0.0 (resource_at c.args.reader.now c.args.place)
    c.from_residual-in_err-lifetime.ensures.1
    (no_lifetime c.args.reader.now c.read.new.self c.args.place _ c.in_ok-name.ensures.exact c.in_ok-name.ensures.stays _ _ c.in_ok-kind.ensures
    c.in_ok-class.ensures c.in_err-lifetime.field-0.0 c.in_err-lifetime.ensures)

pub returns-in_err-count-clause-reads : goal.returns-in_err-count-clause-reads
returns-in_err-count-clause-reads c =
    handed_on (λ x. (x.0, x.1)) c.from_residual-in_err-count.result c.in_err-count.field-0.0 (resource_at c.args.reader.now c.args.place)
    c.from_residual-in_err-count.ensures.1
    (no_count c.args.reader.now c.read.new.self c.args.place _ c.in_ok-name.ensures.exact c.in_ok-name.ensures.stays _ _ c.in_ok-kind.ensures
    c.in_ok-class.ensures _ c.in_ok-lifetime.ensures c.in_err-count.field-0.0 c.in_err-count.ensures)

pub returns-in_err-end-clause-reads : goal.returns-in_err-end-clause-reads
returns-in_err-end-clause-reads c =
    handed_on (λ x. (x.0, x.1)) c.from_residual-in_err-end.result c.in_err-end.field-0.0 (resource_at c.args.reader.now c.args.place)
    c.from_residual-in_err-end.ensures.1
    (no_end c.args.reader.now c.read.new.self c.args.place _ c.in_ok-name.ensures.exact c.in_ok-name.ensures.stays _ _ c.in_ok-kind.ensures
    c.in_ok-class.ensures _ c.in_ok-lifetime.ensures _ c.in_ok-count.ensures c.in_err-end.field-0.0 c.in_err-end.ensures)

pub returns-in_err-content-clause-reads : goal.returns-in_err-content-clause-reads
returns-in_err-content-clause-reads c =
    handed_on (λ x. (x.0, x.1)) c.from_residual-in_err-content.result c.in_err-content.field-0.0 (resource_at c.args.reader.now c.args.place)
    c.from_residual-in_err-content.ensures.1
    (no_content c.args.reader.now c.read.new.self c.args.place _ c.in_ok-name.ensures.exact c.in_ok-name.ensures.stays _ _ c.in_ok-kind.ensures
    c.in_ok-class.ensures _ c.in_ok-lifetime.ensures _ c.in_ok-count.ensures _ c.in_ok-end.ensures c.form_at.result c.form_at.ensures
    c.in_err-content.field-0.0 c.in_err-content.ensures.reads)

pub returns-clause-reads : goal.returns-clause-reads
returns-clause-reads c =
    record_read c.args.reader.now c.read.new.self c.args.place _ c.in_ok-name.ensures.exact c.in_ok-name.ensures.stays _ _ c.in_ok-kind.ensures
    c.in_ok-class.ensures _ c.in_ok-lifetime.ensures _ c.in_ok-count.ensures _ c.in_ok-end.ensures c.form_at.result c.form_at.ensures
    c.in_ok-content.content c.in_ok-content.ensures.reads
