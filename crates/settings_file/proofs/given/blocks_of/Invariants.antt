use Rattle.std.proofs.Common.{◌≡◌, ◌+◌, drop}
use Rattle.toml.specs.View.{items_view}
use Rattle.settings_file.specs.Document.{each, block}
use Rattle.settings_file.specs.declared.key.Key.TheVariants.{Same}
use Rattle.settings_file.proofs.Lists.{with_front}
use Rattle.settings_file.proofs.given.blocks_of.Given as goal

-- the blocks so far and those of what is left are those of all
abbrev pub invariant-loop-value : goal.invariant-loop-value
invariant-loop-value l =
    with_front l.blocks.items (each (λ n value. block Same value) (l.value-index + 1) (items_view (drop l.value-index l.values))) ≡ each
    (λ n value. block Same value) 1 (items_view l.values)
