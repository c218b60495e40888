-- The texts of faults.
use Rattle.std.specs.Prelude.{ℕ, List, ◌++◌, codes, decimal}
use Rattle.gate_base.specs.Side as sides
use Rattle.settings_file.specs.declared.fault.SettingsFault.{SettingsFault}
use Rattle.settings_file.specs.declared.fault.SettingsFault.TheVariants.{TooLong, NotToml, Missing, Kind, BadAddress, PoolSize, SameInPool, HostInPool, StaticOutsidePool, StaticRepeated, MacMissing}
use Rattle.settings_file.specs.Keys.{key_text}

-- the fault's name, and where it has one a space and its key, realm or static
unfoldable pub text_of : SettingsFault → List ℕ
text_of TooLong = codes "TooLong"
text_of NotToml = codes "NotToml"
text_of (Missing key) = codes "Missing " ++ key_text key
text_of (Kind key) = codes "Kind " ++ key_text key
text_of (BadAddress key) = codes "BadAddress " ++ key_text key
text_of (PoolSize side) = codes "PoolSize " ++ sides.name_of side
text_of (SameInPool side) = codes "SameInPool " ++ sides.name_of side
text_of (HostInPool n) = codes "HostInPool static." ++ decimal n
text_of (StaticOutsidePool n) = codes "StaticOutsidePool static." ++ decimal n
text_of (StaticRepeated n) = codes "StaticRepeated static." ++ decimal n
text_of (MacMissing side) = codes "MacMissing " ++ sides.name_of side
