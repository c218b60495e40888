-- The tests of a frame before those of its kind.
use Rattle.std.proofs.Common.{◌≡◌, Option, None, sym, ap, ◌∙◌}
use Rattle.std.specs.Option.{option_or}
use Rattle.gate_base.specs.Prelude.{Event}
use Rattle.verdicts.specs.Prelude.{first_that_holds}
use Rattle.verdicts.specs.declared.refusal.Refusal.{Refusal}
use Rattle.event_frame.specs.Judged.{front_tests}
use Rattle.event_frame.proofs.Tests.{first-append}
use Rattle.gate_model.specs.Prelude.{datagram_in, address_tests, World}
use Rattle.event_state.specs.Lost.{early_tests}

-- where none holds of the frame by itself, the first is that of its addresses
pub first_early : {S : Type 0} (live : World S) (e : Event) → first_that_holds (front_tests e) ≡ None
    → first_that_holds (address_tests live.table e.side (datagram_in e)) ≡ first_that_holds (early_tests live e)
first_early live e none =
    sym (first-append (front_tests e) (address_tests live.table e.side (datagram_in e))
    ∙ ap (λ (o : Option Refusal). option_or o (first_that_holds (address_tests live.table e.side (datagram_in e)))) none)
