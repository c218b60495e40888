use Rattle.std.proofs.Common.{◌≡◌, ◌≤◌, ◌++◌, length, take}
use Rattle.dns_plans.specs.Prelude.{entered_all}
use Rattle.dns_plans.proofs.entered.new_entries.Given as goal

abbrev pub invariant-loop-one : goal.invariant-loop-one
invariant-loop-one g l =
    let es = g.S.Session.rules.listed l.sender.host l.sender.session.now in
    (es ++ l.new ≡ entered_all es (take l.one-index l.named)) × (length (es ++ l.new) ≤ 256)
