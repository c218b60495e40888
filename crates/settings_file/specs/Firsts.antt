-- A value, or the first fault.
use Rattle.std.specs.Prelude.{◌≡◌, Result, Ok, Err}
use Rattle.settings_file.specs.declared.fault.SettingsFault.{SettingsFault}
use Rattle.settings_file.specs.declared.fault.ReadSettings.{ReadSettings}
use Rattle.settings_file.specs.declared.fault.ReadSettings.TheVariants.{Fault, OutOfMemory}

-- a value, or the first fault
abbrev pub Found : Type 0 → Type 0
Found A = Result A SettingsFault

infixl 10 ◌>>=◌
abbrev pub ◌>>=◌ : {A B : Type 0} → Result A SettingsFault → (A → Result B SettingsFault) → Result B SettingsFault
(Ok x) >>= f = f x
(Err e) >>= f = Err e

abbrev pub Fails : {Y : Type 0} → ReadSettings → Result Y SettingsFault → Type 0
Fails (Fault f) found = found ≡ Err f
Fails OutOfMemory found = Unit {0}

-- What a function returned is this, unless memory ran out.
abbrev pub ReturnsFound : {Y : Type 0} → Result Y ReadSettings → Result Y SettingsFault → Type 0
ReturnsFound (Ok x) found = found ≡ Ok x
ReturnsFound (Err e) found = Fails e found
