use Rattle.std.proofs.Common.{sym, ap, ◌∙◌, arith, le-leb}
use Rattle.run_setup.specs.Prelude.{number_behind}
use Rattle.run_setup.proofs.Numbers.{no_digits, other_octet, above_limit, one_digit, more_than}
use Rattle.run_setup.proofs.command.+number_behind.Goals as goal

pub returns-in_default-clause-number : goal.returns-in_default-clause-number
returns-in_default-clause-number t c = sym (no_digits c.args.limit c.args.number c.args.digits.now c.in_default.ensures.cases)

pub returns-in_err-digit-clause-number : goal.returns-in_err-digit-clause-number
returns-in_err-digit-clause-number t c =
    c.from_residual.ensures
    ∙ sym (ap (number_behind c.args.limit c.args.number) c.in-Some.ensures.cases.0
    ∙ other_octet c.args.limit c.args.number c.in-Some.first.now c.in-Some.others.now (sym c.read_number.ensures ∙ c.in_err-digit.was))

pub returns-then-longer-from-clause-number : goal.returns-then-longer-from-clause-number
returns-then-longer-from-clause-number t c =
    sym (ap (number_behind c.args.limit c.args.number) c.in-Some.ensures.cases.0
    ∙ above_limit c.args.limit c.args.number c.in-Some.first.now c.in_ok-digit.digit c.in-Some.others.now
    (sym c.read_number.ensures ∙ c.in_ok-digit.was)
    (more_than _ _ (omega (arith, c.if-longer-from.true, c.from.ensures, c.from-2.ensures, c.from-3.ensures))))

pub returns-clause-number : goal.returns-clause-number
returns-clause-number t c =
    c.number_behind.ensures.number ∙ ap (λ n. number_behind c.args.limit n c.in-Some.others.now) (omega (arith, c.from.ensures, c.from-2.ensures))
    ∙ sym (ap (number_behind c.args.limit c.args.number) c.in-Some.ensures.cases.0
    ∙ one_digit c.args.limit c.args.number c.in-Some.first.now c.in_ok-digit.digit c.in-Some.others.now
    (sym c.read_number.ensures ∙ c.in_ok-digit.was)
    (le-leb _ _ (omega (arith, c.if-longer-from.false, c.from.ensures, c.from-2.ensures, c.from-3.ensures))))
