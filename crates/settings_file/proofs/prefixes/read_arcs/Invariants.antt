use Rattle.std.proofs.Common.{◌≡◌, ◌-◌}
use Rattle.settings_file.specs.Prefixes.{arcs_text}
use Rattle.settings_file.proofs.ArcTexts.{behind}
use Rattle.settings_file.proofs.prefixes.read_arcs.Given as goal

-- the arcs so far with those of what is left behind them are all
abbrev pub invariant-loop : goal.invariant-loop
invariant-loop l = behind l.arcs.items (arcs_text (64 - l.counter) l.rest) ≡ arcs_text 64 l.text
