-- What only proofs and private contracts need beside `Firsts`.
use Rattle.std.specs.Prelude.{◌≡◌, Result, Ok, Err}
use Rattle.settings_file.specs.declared.fault.SettingsFault.{SettingsFault}
use Rattle.settings_file.specs.declared.fault.ReadSettings.{ReadSettings}
use Rattle.settings_file.specs.Firsts.{Fails}

-- What a function returned, seen by `see`, is this.
abbrev pub Sees : {X Y : Type 0} → (X → Y) → Result X SettingsFault → Result Y SettingsFault → Type 0
Sees see (Ok x) found = found ≡ Ok (see x)
Sees see (Err f) found = found ≡ Err f

-- The same, seen by `see`.
abbrev pub ReturnsFoundBy : {X Y : Type 0} → (X → Y) → Result X ReadSettings → Result Y SettingsFault → Type 0
ReturnsFoundBy see (Ok x) found = found ≡ Ok (see x)
ReturnsFoundBy see (Err e) found = Fails e found
