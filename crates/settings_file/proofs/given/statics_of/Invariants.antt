use Rattle.std.proofs.Common.{◌≡◌, ◌+◌, drop, length}
use Rattle.toml.specs.View.{items_view}
use Rattle.settings_file.specs.Document.{each, static_entry}
use Rattle.settings_file.proofs.Lists.{with_front}
use Rattle.settings_file.proofs.given.statics_of.Given as goal

-- the statics so far and those of what is left are those of all
abbrev pub invariant-loop-index : goal.invariant-loop-index
invariant-loop-index l = record {
  all : with_front l.statics.items (each static_entry (l.index + 1) (items_view (drop l.index l.values))) ≡ each static_entry 1 (items_view l.values);
  count : length l.statics.items ≡ l.index;
}
