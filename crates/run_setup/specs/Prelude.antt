-- The names of this crate that others cite most, passed on from one place. Declares nothing.
pub use Rattle.run_setup.specs.Status.{code_of}
pub use Rattle.run_setup.specs.Stops.{status_of_merge, status_of_settings, status_of_take}
pub use Rattle.run_setup.specs.Causes.{Causes, Opens, StartedBy, StartsAll, StartsBefore, Stops, is_output, is_read, is_started, started_all}
pub use Rattle.run_setup.specs.Decided.{IsUnlessMemory, NoneRose}
pub use Rattle.run_setup.specs.Beginning.{Begun, EndsAtHeads, EndsAtSettings, IsAccepted, IsBeforeHead, Settled, Settles, TookCaptures, TookInputs, events_in, inputs_start, settings_start}
pub use Rattle.run_setup.specs.Telling.{Tells, TellsLine}
pub use Rattle.run_setup.specs.Command.{Command, command_of, number_behind}
