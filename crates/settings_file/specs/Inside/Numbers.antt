-- What tells at once whether an address is taken.
use Rattle.std.specs.Prelude.{ℕ, ◌+◌, ◌*◌, Bool, ◌||◌, List}
use Rattle.gate_base.specs.declared.side.Side.{Side}
use Rattle.gate_base.specs.declared.side.Side.TheVariants.{Left, Right}
use Rattle.gate_settings.specs.Prelude.{is_in_pool, is_in_same, side_settings}
use Rattle.gate_settings.specs.declared.settings.Block.{Block}
use Rattle.gate_settings.specs.declared.settings.Fixed.{Fixed}
use Rattle.gate_settings.specs.declared.settings.Settings.{Settings}

-- the number of an address of a realm
abbrev pub number_of : Side → ℕ → ℕ
number_of Left address = 2 * address
number_of Right address = 2 * address + 1

-- whether a static's host lies in the pool of its own realm, or in one of these blocks
abbrev pub host_is_taken : Settings → List Block → Fixed → Bool
host_is_taken settings same fixed = is_in_pool fixed.host (side_settings settings fixed.side) || is_in_same fixed.host same

-- the numbers of a static's host and alias
abbrev pub host_number : Fixed → ℕ
host_number fixed = number_of fixed.side fixed.host.0

abbrev pub alias_number : Fixed → ℕ
alias_number fixed = number_of fixed.side fixed.alias.0
