use Rattle.std.proofs.Common.{List, ◌++◌, ◌∙◌, ap, sym}
use Rattle.gate_base.specs.declared.address.Addr.{Addr}
use Rattle.dns_stream.specs.Prelude.{addresses_of}
use Rattle.dns_plans.proofs.NamedLemmas.{of_unit}
use Rattle.dns_plans.proofs.named.add_unit.Goals as goal

pub returns-clause-named : goal.returns-clause-named
returns-clause-named c =
    c.in_ok-push.ensures.named
    ∙ ap (λ (xs : List Addr). c.args.read.now.named.items ++ xs)
    (c.deref.ensures.value
    ∙ of_unit c.in_ok-addresses.addresses.items c.args.unit.now
    (c.in_ok-addresses.ensures ∙ sym (ap addresses_of c.in_ok-message.ensures.message)))
