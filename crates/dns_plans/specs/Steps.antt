-- Units that are read; entering addresses that stand beside what they are called, and the tests where no unit is whole.
use Rattle.std.specs.Prelude.{ℕ, if◌then◌else◌, List, [], ◌∷◌, ◌++◌}
use Rattle.std.specs.List.{fold}
use Rattle.dialogue.specs.Prelude.{Entry, is_listed}
use Rattle.dialogue.specs.declared.learns.UnitImage.{UnitImage}

-- the list with an entry behind the others, unless its address is listed
abbrev pub enter_one : List Entry → Entry → List Entry
enter_one entries one = if is_listed entries one.0.0 then entries else entries ++ one ∷ []

-- with these, one after the other
abbrev pub entered_all : List Entry → List Entry → List Entry
entered_all entries named = fold enter_one entries named

-- the octets of a unit that stands with its image
abbrev pub image_unit : UnitImage → List ℕ
image_unit one = one.unit.items
