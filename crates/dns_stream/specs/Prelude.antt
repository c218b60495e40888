-- The names of this crate that others cite most, passed on from one place. Declares nothing.
pub use Rattle.dns_stream.specs.Units.{addresses_of, message_in, unit_addresses, unit_end}
pub use Rattle.dns_stream.specs.Images.{dns_units, grows_by, image_in, renamed}
pub use Rattle.dns_stream.specs.Inside.Lawful.{dns_units-lawful, dns_units-learning, image-stays, rests-short}
pub use Rattle.dns_stream.specs.Inside.Order.{AreOneList}
