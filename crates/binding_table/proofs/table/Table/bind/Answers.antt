use Rattle.std.proofs.Common.{◌∙◌, ap, refl, sym}
use Rattle.gate_base.specs.declared.side.Side.{Side}
use Rattle.realm_pools.specs.Addresses.{least_free}
use Rattle.binding_table.specs.Prelude.{pool_of}
use Rattle.binding_table.proofs.Bind.{unbound_of, can_bind, least_is_free, bound_is, not_empty}
use Rattle.binding_table.proofs.table.Table.bind.Goals as goal

pub append-requires : goal.append-requires
append-requires c =
    let pool = c.pool.ensures.value ∙ ap (λ (s : Side). pool_of c.args.self.now s) c.other.ensures in
    let least = ap least_free (sym pool) ∙ sym c.least_free.ensures.value ∙ c.in-Some.is in
    record {
      place = can_bind c.args.self.now c.args.side c.args.host c.in-Some.alias c.args.until c.pool.ensures.lawful
          (unbound_of c.args.self.now c.args.side c.args.host c.requires) (least_is_free _ _ _ c.pool.ensures.lawful least);
      moving = refl;
    }

pub returns-in-Some : goal.returns-in-Some
returns-in-Some c =
    let pool = c.pool.ensures.value ∙ ap (λ (s : Side). pool_of c.args.self.now s) c.other.ensures in
    let least = ap least_free (sym pool) ∙ sym c.least_free.ensures.value ∙ c.in-Some.is in
    c.append.ensures ∙ sym (bound_is c.args.self.now c.args.side c.args.host c.in-Some.alias c.args.until
    (unbound_of c.args.self.now c.args.side c.args.host c.requires) least)

pub returns-in_default : goal.returns-in_default
returns-in_default c =
    let pool = c.pool.ensures.value ∙ ap (λ (s : Side). pool_of c.args.self.now s) c.other.ensures in
    absurd (not_empty c.args.self.now c.args.side c.args.host c.requires
    (ap least_free (sym pool) ∙ sym c.least_free.ensures.value ∙ c.in_default.is))
