-- The auditor: what is kept from event to event.
use Rattle.std.specs.Prelude.{◌≡◌, Bool, false, []}
use Rattle.gate_base.specs.Prelude.{Event}
use Rattle.gate_base.specs.declared.side.Side.TheVariants.{Left}
use Rattle.gate_settings.specs.declared.settings.Settings.{Settings}
use Rattle.gate_model.specs.Prelude.{world_as, whole_rules, WholeSession, next, World, opening_world}
use Rattle.lawful_files.specs.Prelude.{IsSound, begun, Exactly, wanted}
use Rattle.audit_sessions.specs.Heard.{HeardSession, session_in}
use Rattle.audit_records.specs.Kept.{Expecting}

-- the settings, what is known, what is wanted of the last frame and how far its records have come, and whether memory ran out
pub record Auditing : Type 0 where
  pub settings : Settings
  pub world : World HeardSession
  pub expecting : Expecting
  pub lost : Bool

-- what is known, by sessions over whole lists
abbrev pub whole_world : Auditing → World WholeSession
whole_world a = world_as session_in a.world

-- nothing has come
pub record IsOpening (settings : Settings) (a : Auditing) : Type 0 where
  pub settings_are : a.settings ≡ settings
  pub world_is : whole_world a ≡ opening_world settings
  pub expecting_is : a.expecting ≡ record { side = Left; moment = 0; wanted = Exactly []; so_far = begun }
  pub kept : a.lost ≡ false

-- an event is expected
pub record Expects (old new : Auditing) (e : Event) : Type 0 where
  pub settings : new.settings ≡ old.settings
  pub world : whole_world new ≡ next whole_rules (whole_world old) e
  pub expecting : new.expecting ≡ record { side = e.side; moment = e.moment; wanted = wanted (whole_world old) e; so_far = begun }
  pub sound : IsSound new.expecting.wanted
  pub kept : new.lost ≡ false
