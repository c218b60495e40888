use Rattle.std.proofs.Common.{◌≡◌, ◌∙◌, ap, refl, inl, inr, subst}
use Rattle.gate_desk.specs.Outside.{HasFailed}
use Rattle.file_desk.specs.Untold.{Files, told_by, all_dropped}
use Rattle.run_setup.specs.Prelude.{code_of, TellsLine}
use Rattle.run_setup.specs.declared.status.Status.TheVariants.{WriteFault}
use Rattle.gate_command.proofs.Codes.{first_refused}
use Rattle.gate_command.proofs.program.finish.Goals as goal

pub returns-in-Ok : goal.returns-in-Ok
returns-in-Ok g c = inl (record { code_is = refl; none = c.in-Ok.ensures.none; all = c.in-Ok.ensures.ok })

pub returns-in-Err : goal.returns-in-Err
returns-in-Err g c =
    let slot = c.in-Err.slot in
    let dropped : c.finish.new.self ≡ all_dropped slot c.args.desk.now = c.in-Err.ensures.err in
    inr (record {
      slot = slot;
      first = first_refused slot c.args.desk.now.refused c.in-Err.ensures.named;
      waited = c.in-Err.ensures.waited;
      cause = subst (λ (d : Files). HasFailed slot (told_by c.args.desk.now) (told_by d)) dropped c.in-Err.ensures.cause;
      code_is = c.code.ensures ∙ ap code_of c.write_error_line.ensures.answer_is;
      line = subst
          (λ (d : Files). TellsLine (WriteFault slot) (told_by d) (told_by c.write_error_line.new.desk)) dropped c.write_error_line.ensures.line;
    })
