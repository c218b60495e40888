-- The names of this crate that others cite most, passed on from one place. Declares nothing.
pub use Rattle.shift_ledger.specs.Answers.{back_by, back_walk, copied_by, fore_by, fore_walk, octet_walk, rear_by, rear_walk}
pub use Rattle.shift_ledger.specs.Inside.Whole.{kept_of, unit_of}
pub use Rattle.shift_ledger.specs.Kept.{IsButForSpare, Kept, KeptUnit, StandsFor, back_of, fore_of, in_from, is_open, pruned, pushed, rear_of, units_from}
pub use Rattle.shift_ledger.specs.Inside.Order.{AreInOrder}
pub use Rattle.shift_ledger.specs.Sources.{IsPartAt, NeedsOnly, Sent, Source, Written, copied, plain_sources, resolve, sources_from}
