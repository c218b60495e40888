use Rattle.std.proofs.Common.{◌≡◌, ℕ, ◌∙◌, ap, arith, drop}
use Rattle.std.proofs.lemmas.List.{take_rest}
use Rattle.gate_report.specs.Lines.{line_octets}
use Rattle.gate_base.proofs.Options.{on_err}
use Rattle.gate_report.specs.declared.line.Line.{Line}
use Rattle.file_audit.specs.declared.line.Extent.{Extent}
use Rattle.file_audit.specs.Inside.Lines.{agreement, number_after, line_with}
use Rattle.file_audit.proofs.FoundLines.{told, whole, not_whole, not_other}
use Rattle.file_audit.proofs.line.find_line.Goals as goal

pub returns-then-none-clause-is : goal.returns-then-none-clause-is
returns-then-none-clause-is c =
    let e = c.in_ok-none.ensures.is ∙ ap (λ (l : Line). agreement (line_octets c.args.form l) c.args.octets.now) c.with.ensures in
    let found = whole c.in_ok-none.none (line_octets c.args.form (line_with c.args.head 0)) c.args.octets.now e c.if-none.true in
    (omega arith, found.0, found.1)

pub returns-then-number-clause-is : goal.returns-then-number-clause-is
returns-then-number-clause-is c = λ frames rest small goes.
    let none = line_octets c.args.form (line_with c.args.head 0) in
    let e = c.in_ok-none.ensures.is ∙ ap (λ (l : Line). agreement (line_octets c.args.form l) c.args.octets.now) c.with.ensures in
    let count = ap (λ (x : Extent). x.count) e in
    let number = c.number_in_front-number.ensures ∙ ap (number_after 0) (take_rest c.args.octets.now c.in_ok-none.none.count)
    ∙ ap (λ (n : ℕ). number_after 0 (drop n c.args.octets.now)) count
    ∙ told c.args.form c.args.head frames c.args.octets.now rest small goes (not_whole c.in_ok-none.none none c.args.octets.now e c.if-none.false) in
    omega (arith, number, small, c.if-number.true)

pub returns-then-found-clause-is : goal.returns-then-found-clause-is
returns-then-found-clause-is c =
    let e = c.in_ok-found.ensures.is ∙ ap (λ (l : Line). agreement (line_octets c.args.form l) c.args.octets.now) c.with-2.ensures in
    let found =
    whole c.in_ok-found.found
    (line_octets c.args.form (line_with c.args.head c.number_in_front-number.result)) c.args.octets.now e c.if-found.true in
    (c.if-number.false, found.0, found.1)

pub returns-else-found-clause-is : goal.returns-else-found-clause-is
returns-else-found-clause-is c = λ frames rest small goes.
    let none = line_octets c.args.form (line_with c.args.head 0) in
    let e = c.in_ok-none.ensures.is ∙ ap (λ (l : Line). agreement (line_octets c.args.form l) c.args.octets.now) c.with.ensures in
    let count = ap (λ (x : Extent). x.count) e in
    let number : c.number_in_front-number.result ≡ frames = c.number_in_front-number.ensures
    ∙ ap (number_after 0) (take_rest c.args.octets.now c.in_ok-none.none.count) ∙ ap (λ (n : ℕ). number_after 0 (drop n c.args.octets.now)) count
    ∙ told c.args.form c.args.head frames c.args.octets.now rest small goes (not_whole c.in_ok-none.none none c.args.octets.now e c.if-none.false) in
    let same = c.in_ok-found.ensures.is
    ∙ ap (λ (l : Line). agreement (line_octets c.args.form l) c.args.octets.now) (c.with-2.ensures ∙ ap (line_with c.args.head) number) in
    not_other c.in_ok-found.found (line_octets c.args.form (line_with c.args.head frames)) c.args.octets.now rest same c.if-found.false goes

pub returns-in_err-none-clause-memory : goal.returns-in_err-none-clause-memory
returns-in_err-none-clause-memory c = on_err c.from_residual.result c.in_err-none.ensures.memory

pub returns-in_err-found-clause-memory : goal.returns-in_err-found-clause-memory
returns-in_err-found-clause-memory c = on_err c.from_residual-in_err-found.result c.in_err-found.ensures.memory
