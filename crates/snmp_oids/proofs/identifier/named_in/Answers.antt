use Rattle.std.proofs.Common.{◌∙◌, ℕ, Some, None, option_map, ap, length, ◌+◌, List}
use Rattle.gate_base.specs.declared.address.Addr.{Addr}
use Rattle.snmp_oids.proofs.Named.{named_first}
use Rattle.snmp_oids.proofs.identifier.named_in.Goals as goal

pub returns-in_err-rule : goal.returns-in_err-rule
returns-in_err-rule c = record {
  value = ap (option_map (λ (p : ℕ × Addr). (p.0, p.1.0))) c.from_residual.ensures
      ∙ named_first c.args.rules.now c.args.content.now None c.in_err-rule.ensures.first tt;
}

pub returns : goal.returns
returns c = record {
  value = ap (λ (xs : List ℕ). Some (length xs + c.in_ok-rule.rule.now.skip, c.in_ok-rule.address.0)) c.items.ensures
      ∙ named_first c.args.rules.now c.args.content.now (Some (c.in_ok-rule.rule.now, c.in_ok-rule.address.0)) c.in_ok-rule.ensures.first
      c.in_ok-rule.ensures.names;
}
