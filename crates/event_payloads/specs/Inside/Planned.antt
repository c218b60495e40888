-- What addresses are called once both of a header are used.
use Rattle.std.specs.Prelude.{ℕ, ◌==◌, if◌then◌else◌, Option, Some}
use Rattle.binding_table.specs.Prelude.{Bindings}
use Rattle.gate_model.specs.Prelude.{number_seen}
use Rattle.event_payloads.specs.Ways.{image_by}
use Rattle.event_payloads.specs.declared.addresses.Way.{Way}

-- the source is called by its image, and any other address of the realm as before
abbrev pub number_planned : Bindings → Way → ℕ → Option ℕ
number_planned table way address = if address == way.source.0 then Some (image_by way.of_source way.source).0 else number_seen table way.side address
