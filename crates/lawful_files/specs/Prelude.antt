-- The names of this crate that others cite most, passed on from one place. Declares nothing.
pub use Rattle.lawful_files.specs.Wanted.{Cut, Exactly, IsLawfulList, Wanted, event_in, verdict_of, wanted, wanted_of, wanted_segment}
pub use Rattle.lawful_files.specs.Files.{Given, HasLink, IsAtLast, IsLawfulAt, LawfulFor, LawfulFrom, State}
pub use Rattle.lawful_files.specs.Files.{after, given_at, given_of, last_line, line_of, opening, record_of}
pub use Rattle.lawful_files.specs.Reasons.{IsFirst}
pub use Rattle.lawful_files.specs.Progress.{IsSound, Progress, begun, behind, carries, is_closed}
pub use Rattle.lawful_files.specs.Walks.{CameTo}
