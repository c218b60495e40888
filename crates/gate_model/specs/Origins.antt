-- Where bindings come from, and when they end (RFC 2663, 3.1, 3.2.3): by settings, and by the frames that passed and used them.
use Rattle.std.specs.Prelude.{◌≡◌, ◌<◌, ◌⊎◌, true, false, Contains, List, ◌∷◌, ◌++◌, map}
use Rattle.std.specs.List.{fold}
use Rattle.gate_base.specs.Prelude.{Event, other}
use Rattle.verdicts.specs.declared.verdict.Verdict.TheVariants.{Pass}
use Rattle.gate_settings.specs.declared.settings.Settings.{Settings}
use Rattle.binding_table.specs.declared.binding.Binding.{Binding}
use Rattle.binding_table.specs.Prelude.{Use, fixed_binding}
use Rattle.gate_model.specs.Called.{sent_to}
use Rattle.gate_model.specs.Frame.{datagram_in, kind_of}
use Rattle.gate_model.specs.Rules.{SessionRules}
use Rattle.gate_model.specs.Step.{next}
use Rattle.gate_model.specs.Verdict.{uses_of, verdict}
use Rattle.gate_model.specs.World.{World, at_moment, opening_world, destination_of}

-- the uses of an event's frame
abbrev pub uses_by : {S : Type 0} → SessionRules S → World S → Event → List Use
uses_by rules w e = let d = datagram_in e in uses_of rules (at_moment w e.moment) e.side e.moment d (kind_of d)

-- a use of a binding's host or of its alias, which lasts until the binding ends
pub record IsUseOf (b : Binding) (one : Use) : Type 0 where
  pub until : one.until ≡ b.until
  pub is : ((one.side ≡ b.side) × (one.address ≡ b.host)) ⊎ ((one.side ≡ other b.side) × (one.address ≡ b.alias))

-- one of these events passed, and used it so
pub record WasUsed {S : Type 0} (rules : SessionRules S) (settings : Settings) (events : List Event) (b : Binding) : Type 0 where
  pub before : List Event
  pub event : Event
  pub others : List Event
  pub split : events ≡ before ++ event ∷ others
  pub passes : verdict rules (fold (next rules) (opening_world settings) before) event ≡ Pass
  pub one : Use
  pub uses : Contains (uses_by rules (fold (next rules) (opening_world settings) before) event) one
  pub is : IsUseOf b one

-- a binding is a static one, which never ends, or ends with a use of its own
abbrev pub ComesFromUse : {S : Type 0} → SessionRules S → Settings → List Event → Binding → Type 0
ComesFromUse rules settings events b = ((b.fixed ≡ true) × Contains (map fixed_binding settings.statics) b)
    ⊎ ((b.fixed ≡ false) × WasUsed rules settings events b)

-- who is reached by an alias: the host of a binding that is static, or that a frame that passed has used until a moment that isn't over
pub record IsMeant {S : Type 0} (rules : SessionRules S) (settings : Settings) (events : List Event) (v : World S) (x : Event) : Type 0 where
  pub binding : Binding
  pub side : binding.side ≡ other x.side
  pub alias : binding.alias ≡ destination_of (datagram_in x)
  pub host : binding.host ≡ sent_to rules v x
  pub comes : ComesFromUse rules settings events binding
  pub lives : (binding.fixed ≡ true) ⊎ (x.moment < binding.until.0)
