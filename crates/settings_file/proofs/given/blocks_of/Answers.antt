use Rattle.std.proofs.Common.{sym, ◌∙◌}
use Rattle.settings_file.specs.Document.{block}
use Rattle.settings_file.specs.declared.key.Key.TheVariants.{Same}
use Rattle.settings_file.proofs.Lists.{read_next}
use Rattle.settings_file.proofs.given.blocks_of.Goals as goal

pub loop-value-preserved : goal.loop-value-preserved
loop-value-preserved c =
    let reads = sym c.block.ensures ∙ c.in_ok-block.was in
    rw c.in_ok-push.ensures.items
    (sym (read_next
    (λ n value. block Same value) c.loop-value.blocks.items c.in_ok-block.block c.args.values.now c.loop-value.value-index c.value-item.result
    c.loop-value-test.true c.value-item.is reads) ∙ c.loop-value.invariant)
