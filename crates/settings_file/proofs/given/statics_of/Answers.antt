use Rattle.std.proofs.Common.{arith, length-append, sym, ◌∙◌}
use Rattle.gate_settings.specs.declared.settings.Fixed.{Fixed}
use Rattle.settings_file.specs.Document.{static_entry}
use Rattle.settings_file.proofs.Lists.{read_next}
use Rattle.settings_file.proofs.given.statics_of.Goals as goal

pub loop-index-preserved : goal.loop-index-preserved
loop-index-preserved c =
    let reads = sym c.static_entry.ensures ∙ c.in_ok-fixed.was in
    rw c.in_ok-push.ensures.items
    (record {
      all = sym
          (read_next static_entry c.loop-index.statics.items c.in_ok-fixed.fixed c.args.values.now c.loop-index.index c.index-values-index.result
          c.loop-index-test.true c.index-values-index.is reads) ∙ c.loop-index.invariant.all;
      count = omega (arith, length-append {A = Fixed}, c.loop-index.invariant.count);
    })

pub overflow_cast-index : goal.overflow_cast-index
overflow_cast-index c = omega (arith, c.requires, c.loop-index-test.true)

pub overflow_add-index : goal.overflow_add-index
overflow_add-index c = omega (arith, c.requires, c.loop-index-test.true)
