-- How far an audit has come.
use Rattle.std.specs.Prelude.{◌≡◌, List, [], ◌∷◌, length}
use Rattle.frag_join.specs.Prelude.{Arrival}
use Rattle.gate_settings.specs.declared.settings.Settings.{Settings}
use Rattle.lawful_files.specs.Files.{Given, State, after, IsLawfulAt}

-- at these frames the given files were lawful, one after the other: what is known behind them, and what of the given files is left
abbrev pub CameTo : Settings → State → Given → List Arrival → State → Given → Type 0
CameTo settings s g [] now left = (now ≡ s) × (left ≡ g)
CameTo settings s g (a ∷ arrivals) now left = (next : Given) × (at : IsLawfulAt settings s a g next)
    × CameTo settings (after s a (length at.list)) next arrivals now left
