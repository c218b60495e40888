use Rattle.std.proofs.Common.{[], refl, sym, subst, ◌∙◌, append-nil}
use Rattle.gate_report.specs.Lines.{line_octets}
use Rattle.gate_base.proofs.Options.{on_err}
use Rattle.file_audit.specs.Inside.Lines.{IsLast}
use Rattle.file_audit.proofs.ReportAhead.{is_it}
use Rattle.file_audit.proofs.FoundLines.{not_other}
use Rattle.file_audit.proofs.line.is_line.Goals as goal

pub returns-then-found-clause-is : goal.returns-then-found-clause-is
returns-then-found-clause-is c =
    is_it c.in_ok-found.found c.args.form c.args.line.now c.args.octets.now _ c.in_ok-found.ensures.is c.if-found.true refl

pub returns-else-found-clause-is : goal.returns-else-found-clause-is
returns-else-found-clause-is c =
    subst (λ b. IsLast b c.args.form c.args.line.now c.args.octets.now) (sym c.if-found.false)
    (λ same. not_other c.in_ok-found.found (line_octets c.args.form c.args.line.now) c.args.octets.now [] c.in_ok-found.ensures.is c.if-found.false
    (same ∙ sym (append-nil (line_octets c.args.form c.args.line.now))))

pub returns-in_err-found-clause-memory : goal.returns-in_err-found-clause-memory
returns-in_err-found-clause-memory c = on_err c.from_residual.result c.in_err-found.ensures.memory
