-- The names of this crate that others cite most, passed on from one place. Declares nothing.
pub use Rattle.expiring_table.specs.Inside.Armed.{alarm}
pub use Rattle.expiring_table.specs.Inside.Chained.{Chained, IsLast, IsNext, without_place}
pub use Rattle.expiring_table.specs.Inside.Kept.{AreHashed, AreOnce, AreWatched, HasRoom, IsIndexed, IsListed, IsPlaceOf, IsWhole, bucket_of, count_due, is_cell_of, is_watched, row_at, rows_in}
pub use Rattle.expiring_table.specs.Rows.{AreDistinct, IsTakenOut, Table, is_before, lives, living, no_rows, row_of, with_row, without}
