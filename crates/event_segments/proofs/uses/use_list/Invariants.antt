use Rattle.std.specs.Prelude.{◌≡◌, take}
use Rattle.binding_table.specs.Prelude.{after_uses}
use Rattle.gate_model.specs.Prelude.{renamed_in, uses_until}
use Rattle.event_segments.proofs.uses.use_list.Given as goal

abbrev pub invariant-loop-place : goal.invariant-loop-place
invariant-loop-place g l =
    l.table ≡ after_uses l.initial.table (uses_until l.side l.until.0 (renamed_in (take l.place (g.S.Session.rules.listed l.host l.session))))
