use Rattle.std.proofs.Common.{sym, ap, ◌∙◌, arith}
use Rattle.settings_file.specs.Prefixes.{arc_behind}
use Rattle.settings_file.proofs.ArcTexts.{no_digits, other_octet, above, one_digit}
use Rattle.settings_file.proofs.prefixes.+arc_behind.Goals as goal

pub returns-in_default : goal.returns-in_default
returns-in_default t c = sym (no_digits c.args.number c.args.digits.now c.in_default.ensures.cases)

pub returns-in_err-digit : goal.returns-in_err-digit
returns-in_err-digit t c =
    c.from_residual.ensures
    ∙ sym (ap (arc_behind c.args.number) c.in-Some.ensures.cases.0
    ∙ other_octet c.args.number c.in-Some.first.now c.in-Some.others.now (sym c.read_number.ensures ∙ c.in_err-digit.was))

pub returns-then-longer-gt-GREATEST_ARC : goal.returns-then-longer-gt-GREATEST_ARC
returns-then-longer-gt-GREATEST_ARC t c =
    sym (ap (arc_behind c.args.number) c.in-Some.ensures.cases.0
    ∙ above c.args.number c.in-Some.first.now c.in_ok-digit.digit c.in-Some.others.now (sym c.read_number.ensures ∙ c.in_ok-digit.was)
    (omega (arith, c.if-longer-gt-GREATEST_ARC.true, c.from.ensures, c.from-2.ensures)))

pub returns : goal.returns
returns t c =
    c.arc_behind.ensures ∙ ap (λ n. arc_behind n c.in-Some.others.now) (omega (arith, c.from.ensures, c.from-2.ensures))
    ∙ sym (ap (arc_behind c.args.number) c.in-Some.ensures.cases.0
    ∙ one_digit c.args.number c.in-Some.first.now c.in_ok-digit.digit c.in-Some.others.now (sym c.read_number.ensures ∙ c.in_ok-digit.was)
    (omega (arith, c.if-longer-gt-GREATEST_ARC.false, c.from.ensures, c.from-2.ensures)))
