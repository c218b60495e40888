-- What settings fix.
use Rattle.std.specs.Prelude.{◌≡◌, ◌⊎◌, true, Contains}
use Rattle.gate_base.specs.Prelude.{is_unicast_number}
use Rattle.gate_base.specs.declared.address.Addr.{Addr}
use Rattle.gate_base.specs.declared.side.Side.{Side}
use Rattle.gate_settings.specs.Prelude.{is_in_same}
use Rattle.gate_settings.specs.declared.settings.Settings.{Settings}

-- settings say for good what a host of a realm is called in the other one: by a static, or by a block whose addresses mean the same host in both
abbrev pub IsFixed : Settings → Side → Addr → Addr → Type 0
IsFixed settings side host alias =
    Contains settings.statics (record { side = side; host = host; alias = alias })
    ⊎ ((is_unicast_number host.0 ≡ true) × (is_in_same host settings.same ≡ true) × (alias ≡ host))
