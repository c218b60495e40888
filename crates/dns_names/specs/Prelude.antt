-- The names of this crate that others cite most, passed on from one place. Declares nothing.
pub use Rattle.dns_names.specs.Names.{AtLabel, AtPointer, AtRoot, IsLabel, IsName, IsSpelled, Label, NameAt, Nothing, Pointer, Root, Stands, piece_at, spelled, spelled_label}
pub use Rattle.dns_names.specs.Inside.Names.{labels_in}
pub use Rattle.dns_names.specs.Walk.{name_at}
pub use Rattle.dns_names.specs.Inside.Memo.{AreKnown, Here, IsMemo, Joins, Knows, Leads, Trail, known_by, octets_of}
pub use Rattle.dns_names.specs.Stops.{Fails, ReturnsRead}
pub use Rattle.dns_names.specs.Inside.Ends.{first_label, key, key_of}
pub use Rattle.dns_names.specs.Spelling.{Added, BeginsWith, Start, Text, add, found, pointer, put_name, spell, spell_by, with_start}
pub use Rattle.dns_names.specs.Inside.Writers.{GrewBy, IsIndex, starts_in}
pub use Rattle.dns_names.specs.Inside.Longest.{Ends, EndsAt, IsLongest, skipped}
pub use Rattle.dns_names.specs.Texts.{nothing}
pub use Rattle.dns_names.specs.Reverse.{full_reverse, numbers, with_address}
pub use Rattle.dns_names.specs.Inside.Octets.{behind, label_in, reverse_in}
