-- The walk over the addresses of a message: an outline says what it has ahead.
use Rattle.std.specs.Prelude.{ℕ, ◌≡◌, ◌+◌, ◌-◌, ◌<◌, ◌≤◌, ◌==◌, Bool, length, option_to_list, Some, None}
use Rattle.snmp_gateway.specs.declared.outline.Outline.{Outline}

-- no bindings are ahead
abbrev pub is_at_end : Outline → Bool
is_at_end ahead = ahead.bindings.start == ahead.bindings.end

-- what a walk has ahead stands within so many octets, the agent address before the bindings
pub record StandsIn (size : ℕ) (ahead : Outline) : Type 0 where
  pub agent : (place : ℕ) → ahead.agent ≡ Some place → place + 4 ≤ ahead.bindings.start
  pub ordered : ahead.bindings.start ≤ ahead.bindings.end
  pub end : ahead.bindings.end ≤ size

-- how much is ahead
abbrev pub size_ahead : Outline → ℕ
size_ahead ahead = ahead.bindings.end - ahead.bindings.start + length (option_to_list ahead.agent)

-- a walk comes past an address, and has less ahead
pub record Passes (old : Outline) (place : ℕ) (new : Outline) : Type 0 where
  pub agent : new.agent ≡ None
  pub before : place + 4 ≤ new.bindings.start
  pub less : size_ahead new < size_ahead old
