-- Bindings that last.
use Rattle.std.specs.Prelude.{◌≡◌, ◌≤◌, ◌⊎◌, ℕ, true, Some, find}
use Rattle.gate_base.specs.declared.side.Side.{Side}
use Rattle.binding_table.specs.Bindings.{Bindings, is_same, is_of_host}
use Rattle.binding_table.specs.declared.binding.Binding.{Binding}

-- a host of the realm is bound to an alias, for good or at least until a moment
pub record IsBoundTo (table : Bindings) (side : Side) (host alias until : ℕ) : Type 0 where
  pub binding : Binding
  pub found : find (is_of_host side host) table.entries ≡ Some binding
  pub alias_is : binding.alias.0 ≡ alias
  pub lasts : (binding.fixed ≡ true) ⊎ (until ≤ binding.until.0)

-- or it crosses unchanged
abbrev pub IsKnownAs : Bindings → Side → ℕ → ℕ → ℕ → Type 0
IsKnownAs table side host alias until = ((is_same table (record { 0 = host }) ≡ true) × (alias ≡ host)) ⊎ IsBoundTo table side host alias until
