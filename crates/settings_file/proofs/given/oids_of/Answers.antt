use Rattle.std.proofs.Common.{arith, sym, ◌∙◌}
use Rattle.settings_file.specs.Document.{oid_entry}
use Rattle.settings_file.proofs.Lists.{read_next}
use Rattle.settings_file.proofs.given.oids_of.Goals as goal

pub loop-index-preserved : goal.loop-index-preserved
loop-index-preserved c =
    rw c.in_ok-push.ensures.items
    (sym (read_next oid_entry c.loop-index.oids.items c.in_ok-rule.rule c.args.values.now c.loop-index.index c.index-values-index.result
    c.loop-index-test.true c.index-values-index.is c.in_ok-rule.ensures) ∙ c.loop-index.invariant)

pub overflow_cast-index : goal.overflow_cast-index
overflow_cast-index c = omega (arith, c.requires, c.loop-index-test.true)

pub overflow_add-index : goal.overflow_add-index
overflow_add-index c = omega (arith, c.requires, c.loop-index-test.true)
