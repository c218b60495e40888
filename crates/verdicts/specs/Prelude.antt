-- The names of this crate that others cite most, passed on from one place. Declares nothing.
pub use Rattle.verdicts.specs.Refusal.{verdict_name}
pub use Rattle.verdicts.specs.Tests.{first_that_holds, unless_refused}
