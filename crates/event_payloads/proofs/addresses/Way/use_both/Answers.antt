use Rattle.std.proofs.Common.{◌+◌, sym, ap, ◌∙◌}
use Rattle.binding_table.specs.Prelude.{cross}
use Rattle.event_payloads.proofs.Crossings.{stays}
use Rattle.event_payloads.proofs.addresses.Way.use_both.Goals as goal

pub use_by-requires-2 : goal.use_by-requires-2
use_by-requires-2 c =
    stays c.args.table.now c.args.self.now.destination
    (record { side = c.args.self.now.side; address = c.args.self.now.source; until = record { 0 = c.args.self.now.moment.0 + c.args.timeout } })
    c.args.self.now.of_destination c.requires.way.destination c.requires.settled
    ∙ ap (λ t. cross t c.args.self.now.side c.args.self.now.destination) (sym c.use_by.ensures)
