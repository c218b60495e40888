-- What a plan says, and why there is none.
use Rattle.std.specs.Prelude.{◌≡◌, ℕ, List, map, None}
use Rattle.binding_table.specs.Prelude.{Bindings, Use}
use Rattle.dialogue.specs.Prelude.{Entry, AreImages}
use Rattle.dns_stream.specs.Prelude.{dns_units}
use Rattle.dns_plans.specs.Plans.{AreAllUses, beside, called_after, first_reason, names_in, whole_units, TellsFirst}
use Rattle.dns_plans.specs.Steps.{entered_all, image_unit}
use Rattle.dns_plans.specs.declared.plan.Endpoints.{Endpoints}
use Rattle.dns_plans.specs.declared.plan.UnitPlan.{UnitPlan}
use Rattle.dns_plans.specs.declared.stop.PlanStop.{PlanStop}

-- No test holds. The plan has the addresses to rename, each beside what it is called once all of them are used, and the units with their
-- images by the list of the sender once these are entered.
pub record IsPlan (table : Bindings) (ends : Endpoints) (listed : List Entry) (octets : List ℕ) (plan : UnitPlan) : Type 0 where
  pub passes : (uses : List Use) → AreAllUses ends octets uses → first_reason table uses ends listed octets ≡ None
  pub named : plan.named.items ≡ names_in octets
  pub entries : (uses : List Use) → AreAllUses ends octets uses
      → plan.entries.items ≡ beside (called_after table uses ends.side) (names_in octets)
  pub units : map image_unit plan.images.items ≡ whole_units octets
  pub images : AreImages (dns_units (entered_all listed plan.entries.items)) plan.images.items

-- the first test that holds is told, or memory is wanting
abbrev pub IsStopped : Bindings → Endpoints → List Entry → List ℕ → PlanStop → Type 0
IsStopped table ends listed octets stop =
    (uses : List Use) → AreAllUses ends octets uses → TellsFirst (first_reason table uses ends listed octets) stop
