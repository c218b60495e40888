use Rattle.std.proofs.Common.{◌≡◌, ◌+◌, drop}
use Rattle.toml.specs.View.{items_view}
use Rattle.settings_file.specs.Document.{each, oid_entry}
use Rattle.settings_file.proofs.Lists.{with_front}
use Rattle.settings_file.proofs.given.oids_of.Given as goal

-- the rules so far and those of what is left are those of all
abbrev pub invariant-loop-index : goal.invariant-loop-index
invariant-loop-index l =
    with_front l.oids.items (each oid_entry (l.index + 1) (items_view (drop l.index l.values))) ≡ each oid_entry 1 (items_view l.values)
