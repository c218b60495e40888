-- Settings that fit one another.
use Rattle.std.specs.Prelude.{◌≡◌, false, All, AllPairs}
use Rattle.gate_base.specs.declared.side.Side.{Side}
use Rattle.gate_settings.specs.declared.settings.Settings.{Settings}
use Rattle.gate_settings.specs.Cross.{side_settings, is_bad_pool, meets_same, host_is_taken, alias_is_outside, collides}

-- pools have their size and share no address with a block, and no static is taken, outside or repeated
pub record IsSound (settings : Settings) : Type 0 where
  pub pools : (side : Side) → is_bad_pool (side_settings settings side) ≡ false
  pub apart : (side : Side) → meets_same settings.same (side_settings settings side) ≡ false
  pub hosts : All (λ fixed. host_is_taken settings fixed ≡ false) settings.statics
  pub aliases : All (λ fixed. alias_is_outside settings fixed ≡ false) settings.statics
  pub once : AllPairs (λ earlier fixed. collides fixed earlier ≡ false) settings.statics
