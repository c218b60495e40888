use Rattle.std.proofs.Common.{◌≡◌, take, fold}
use Rattle.binding_table.specs.Prelude.{used}
use Rattle.event_payloads.proofs.dns.use_all.Given as goal

-- those so far are used
abbrev pub invariant-loop-address : goal.invariant-loop-address
invariant-loop-address l =
    l.table ≡ fold (λ now address. used now (record { side = l.side; address = address; until = l.until })) l.initial.table
    (take l.address-index l.addresses)
