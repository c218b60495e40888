-- The names of this crate that others cite most, passed on from one place. Declares nothing.
pub use Rattle.dialogue.specs.Meaning.{HoldsAtMost, IsLawful, IsReleased, IsRest, IsUnit, Meaning, is_empty, is_held, is_released}
pub use Rattle.dialogue.specs.Repeats.{differ, is_unlike}
pub use Rattle.dialogue.specs.Places.{AllProper, Changed, IsProper, Plain, Push, Span, back_in, changed_ends, end_from, fore_at, fore_in, image_len, joined, open_in, plain_spans, push_spans, rear_at, rear_in, spans_from}
pub use Rattle.dialogue.specs.Stream.{AllUnits, Cut, add_octet, back, back_if, cut, cut_at, due, due_of, due_rest, fore, image, image_of, open_units, push_if, push_of, pushes_of, rear, spans}
pub use Rattle.dialogue.specs.Learning.{AllListed, AllUnitsListed, AreImages, Entry, IsLearning, ReadAlike, is_listed, is_of, listed_image}
