-- The forms of what settings hold.
use Rattle.std.specs.Prelude.{◌≡◌, ◌-◌, ◌^◌, ◌≤◌, ◌%◌, true, All, length}
use Rattle.gate_base.specs.Prelude.{is_unicast_number, AreRules}
use Rattle.gate_base.specs.declared.address.Addr.{Addr}
use Rattle.gate_base.specs.declared.side.Side.{Side}
use Rattle.gate_settings.specs.Cross.{side_settings}
use Rattle.gate_settings.specs.declared.settings.Block.{Block}
use Rattle.gate_settings.specs.declared.settings.Fixed.{Fixed}
use Rattle.gate_settings.specs.declared.settings.Settings.{Settings}
use Rattle.gate_settings.specs.declared.settings.SideSettings.{SideSettings}

-- at most 32 bits, and none past them
pub record IsBlock (block : Block) : Type 0 where
  pub bits : block.bits ≤ 32
  pub rest : block.base.0 % 2 ^ (32 - block.bits) ≡ 0

-- the address of one host
abbrev pub IsUnicast : Addr → Type 0
IsUnicast address = is_unicast_number address.0 ≡ true

-- both ends of the pool are addresses of hosts
pub record HasUnicastPool (side : SideSettings) : Type 0 where
  pub first : IsUnicast side.first
  pub last : IsUnicast side.last

-- both MAC addresses of a realm have six octets
pub record HasMacAddresses (side : SideSettings) : Type 0 where
  pub gateway : length side.gateway_mac ≡ 6
  pub next : length side.next_mac ≡ 6

-- and of both realms
abbrev pub HaveMacAddresses : Settings → Type 0
HaveMacAddresses settings = (side : Side) → HasMacAddresses (side_settings settings side)

-- host and alias are addresses of hosts
pub record IsUnicastPair (fixed : Fixed) : Type 0 where
  pub host : IsUnicast fixed.host
  pub alias : IsUnicast fixed.alias

-- all blocks, addresses of hosts and rules have their forms
pub record HasForms (settings : Settings) : Type 0 where
  pub blocks : All IsBlock settings.same
  pub left : HasUnicastPool settings.left
  pub right : HasUnicastPool settings.right
  pub statics : All IsUnicastPair settings.statics
  pub oids : AreRules settings.oids
