-- The names of this crate that others cite most, passed on from one place. Declares nothing.
pub use Rattle.binding_table.specs.Bindings.{Bindings, IsNew, alias_of, bound, cross, expired, extend_through, extended, fixed_binding, free, host_of}
pub use Rattle.binding_table.specs.Bindings.{in_pool, is_live, is_of_alias, is_of_host, is_same, is_settled, is_through, is_used, known_or, lasting}
pub use Rattle.binding_table.specs.Bindings.{new_or_empty, opening, pool_of, pool_with, range_of, seen, seen_by, with_binding, without_bindings}
pub use Rattle.binding_table.specs.Lawful.{IsInPlace, IsLawful, collides}
pub use Rattle.binding_table.specs.Lasting.{IsBoundTo, IsKnownAs}
pub use Rattle.binding_table.specs.Inside.Entries.{AreApart, all_rows, fixed_rows}
pub use Rattle.binding_table.specs.Inside.Whole.{IsWhole, bindings_of}
pub use Rattle.binding_table.specs.Plan.{AreUsesOf, Use, after_uses, fresh_after, image_after, images_after, is_address, is_among, is_fresh, needed, needs_binding, unless_same, used, used_by}
pub use Rattle.binding_table.specs.Inside.Steps.{Aliases, AreFirsts, AreKept, AreTaken, CanHold, EndsAtOnce, aliases_of, aliases_with, changed, ending, entries_in, extended_by, filed, given_image, host_at, lasts, moving_row, needing, next_alias, number_of, plain_table, planned_by, unless_fixed}
