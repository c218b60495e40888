use Rattle.std.proofs.Common.{◌∙◌, refl, subst}
use Rattle.run_setup.specs.Telling.{WritesLine}
use Rattle.run_setup.proofs.errors.write_error_line.Goals as goal

pub returns : goal.returns
returns g c = record {
  answer_is = refl;
  line = subst (λ xs. WritesLine xs (g.D.Desk.outside c.args.desk.now) (g.D.Desk.outside c.write_line.new.desk))
      (c.as_bytes.ensures.value ∙ c.as_str.ensures.value ∙ c.line.ensures) c.write_line.ensures;
}
