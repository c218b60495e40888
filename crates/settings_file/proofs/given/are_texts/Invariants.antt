use Rattle.std.proofs.Common.{◌≡◌, drop}
use Rattle.toml.specs.View.{items_view}
use Rattle.settings_file.specs.Document.{are_all, is_text}
use Rattle.settings_file.proofs.given.are_texts.Given as goal

-- the values so far are of the kind
abbrev pub invariant-loop-value : goal.invariant-loop-value
invariant-loop-value l = are_all is_text (items_view (drop l.value-index l.values)) ≡ are_all is_text (items_view l.values)
