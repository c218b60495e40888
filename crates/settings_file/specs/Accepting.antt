-- The first fault of settings that were given, and the settings of octets.
use Rattle.std.specs.Prelude.{ℕ, ◌+◌, Bool, if◌then◌else◌, List, [], ◌∷◌, ◌++◌, length, position, Option, Some, None, option_map, Ok, Err}
use Rattle.std.specs.List.{fold, list_any}
use Rattle.std.specs.Option.{option_or}
use Rattle.gate_base.specs.declared.side.Side.{Side}
use Rattle.gate_base.specs.declared.side.Side.TheVariants.{Left, Right}
use Rattle.gate_settings.specs.Prelude.{side_settings, is_bad_pool, meets_same, host_is_taken, alias_is_outside, collides}
use Rattle.gate_settings.specs.declared.settings.Fixed.{Fixed}
use Rattle.gate_settings.specs.declared.settings.Settings.{Settings}
use Rattle.settings_file.specs.declared.fault.SettingsFault.{SettingsFault}
use Rattle.settings_file.specs.declared.fault.SettingsFault.TheVariants.{PoolSize, SameInPool, HostInPool, StaticOutsidePool, StaticRepeated, MacMissing}
use Rattle.settings_file.specs.declared.given.Given.{Given}
use Rattle.settings_file.specs.Firsts.{◌>>=◌, Found}
use Rattle.settings_file.specs.Document.{keys_of}

-- the Ethernet link of a realm lacks an address
abbrev pub lacks_mac : Given → Side → Bool
lacks_mac given Left = given.left_lacks_mac
lacks_mac given Right = given.right_lacks_mac

-- ## The first of several

-- the first realm for which a test holds, left before right
abbrev pub first_side : (Side → Bool) → (Side → SettingsFault) → Option SettingsFault
first_side test fault = if test Left then Some (fault Left) else if test Right then Some (fault Right) else None

-- the first static for which a test holds, by its number from 1
abbrev pub first_static : (Fixed → Bool) → (ℕ → SettingsFault) → List Fixed → Option SettingsFault
first_static test fault statics = option_map (λ place. fault (place + 1)) (position test statics)

-- the first static that collides with an earlier one
abbrev pub first_repeated : List Fixed → List Fixed → Option SettingsFault
first_repeated earlier [] = None
first_repeated earlier (fixed ∷ later) =
    if list_any (collides fixed) earlier then Some (StaticRepeated (length earlier + 1)) else first_repeated (earlier ++ fixed ∷ []) later

-- the first fault of a list of lines
abbrev pub first_of : List (Option SettingsFault) → Option SettingsFault
first_of lines = fold option_or None lines

-- ## The lines of faults

-- a pool of a wrong size
unfoldable pub pool_size : Settings → Option SettingsFault
pool_size settings = first_side (λ side. is_bad_pool (side_settings settings side)) PoolSize

-- a block that shares an address with a pool
unfoldable pub same_in_pool : Settings → Option SettingsFault
same_in_pool settings = first_side (λ side. meets_same settings.same (side_settings settings side)) SameInPool

-- a static whose host is taken
unfoldable pub host_in_pool : Settings → Option SettingsFault
host_in_pool settings = first_static (host_is_taken settings) HostInPool settings.statics

-- a static whose alias is outside
unfoldable pub static_outside_pool : Settings → Option SettingsFault
static_outside_pool settings = first_static (alias_is_outside settings) StaticOutsidePool settings.statics

-- a static that repeats another
unfoldable pub static_repeated : Settings → Option SettingsFault
static_repeated settings = first_repeated [] settings.statics

-- an Ethernet link without both addresses
unfoldable pub mac_missing : Given → Option SettingsFault
mac_missing given = first_side (lacks_mac given) MacMissing

-- the first of all lines, in the order of testing
unfoldable pub first_fault : Given → Option SettingsFault
first_fault given = first_of (
    pool_size given.settings
    ∷ same_in_pool given.settings
    ∷ host_in_pool given.settings
    ∷ static_outside_pool given.settings
    ∷ static_repeated given.settings
    ∷ mac_missing given
    ∷ [])

-- the settings, unless there is a fault
abbrev pub unless : Option SettingsFault → Settings → Found Settings
unless None settings = Ok settings
unless (Some fault) settings = Err fault

-- the settings of octets, or the first fault
unfoldable pub settings_of : List ℕ → Found Settings
settings_of octets = do
  given ← keys_of octets
  unless (first_fault given) given.settings
