-- The names of this crate that others cite most, passed on from one place. Declares nothing.
pub use Rattle.dns_plans.specs.Plans.{AreBound, IsListBound, TellsFirst, all_addresses, beside, called_after, names_in, plan_tests, whole_units}
pub use Rattle.dns_plans.specs.Steps.{enter_one, entered_all, image_unit}
pub use Rattle.dns_plans.specs.Inside.Steps.{AreRead, unit_of}
