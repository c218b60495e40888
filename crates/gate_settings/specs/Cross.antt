-- What the settings must be to one another.
use Rattle.std.specs.Prelude.{ℕ, ◌+◌, ◌-◌, ◌^◌, Bool, not, ◌&&◌, ◌||◌, ◌==◌, nat_lt, nat_le, List}
use Rattle.std.specs.List.{list_any}
use Rattle.gate_base.specs.declared.address.Addr.{Addr}
use Rattle.gate_base.specs.Prelude.{other, same_side}
use Rattle.gate_base.specs.declared.side.Side.{Side}
use Rattle.gate_base.specs.declared.side.Side.TheVariants.{Left, Right}
use Rattle.gate_settings.specs.declared.settings.Block.{Block}
use Rattle.gate_settings.specs.declared.settings.Fixed.{Fixed}
use Rattle.gate_settings.specs.declared.settings.Settings.{Settings}
use Rattle.gate_settings.specs.declared.settings.SideSettings.{SideSettings}
use Rattle.gate_base.specs.declared.address.TheConstants.{LARGEST_POOL}

-- ## Where an address lies

-- a realm's pool and link
abbrev pub side_settings : Settings → Side → SideSettings
side_settings settings Left = settings.left
side_settings settings Right = settings.right

-- whether an address lies in a pool
abbrev pub is_in_pool : Addr → SideSettings → Bool
is_in_pool address pool = nat_le pool.first.0 address.0 && nat_le address.0 pool.last.0

-- the greatest address of a block
unfoldable pub block_end : Block → ℕ
block_end block = block.base.0 + (2 ^ (32 - block.bits) - 1)

-- whether an address lies in a block
abbrev pub is_in_block : Addr → Block → Bool
is_in_block address block = nat_le block.base.0 address.0 && nat_le address.0 (block_end block)

-- whether an address lies in one of the blocks
abbrev pub is_in_same : Addr → List Block → Bool
is_in_same address same = list_any (is_in_block address) same

-- ## What is asked of a pool or a static

-- the last address is below the first, or there are more than LARGEST_POOL
abbrev pub is_bad_pool : SideSettings → Bool
is_bad_pool pool = nat_lt pool.last.0 pool.first.0 || nat_le LARGEST_POOL (pool.last.0 - pool.first.0)

-- the pool and a block share an address
abbrev pub meets_pool : SideSettings → Block → Bool
meets_pool pool block = nat_le block.base.0 pool.last.0 && nat_le pool.first.0 (block_end block)

-- the pool and one of the blocks share an address
abbrev pub meets_same : List Block → SideSettings → Bool
meets_same same pool = list_any (meets_pool pool) same

-- the host lies in its own realm's pool or in a block
unfoldable pub host_is_taken : Settings → Fixed → Bool
host_is_taken settings fixed = is_in_pool fixed.host (side_settings settings fixed.side) || is_in_same fixed.host settings.same

-- the alias is not in the other realm's pool
unfoldable pub alias_is_outside : Settings → Fixed → Bool
alias_is_outside settings fixed = not (is_in_pool fixed.alias (side_settings settings (other fixed.side)))

-- the two are of one realm, and have the host or the alias in common
abbrev pub collides : Fixed → Fixed → Bool
collides fixed earlier = same_side earlier.side fixed.side && (earlier.host.0 == fixed.host.0 || earlier.alias.0 == fixed.alias.0)
