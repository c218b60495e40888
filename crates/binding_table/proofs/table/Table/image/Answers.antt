use Rattle.std.proofs.Common.{◌≡◌, ◌≢◌, Bool, true, false, not, ◌&&◌, Option, Some, None, position, ap, sym, ◌∙◌}
use Rattle.gate_base.specs.Prelude.{other}
use Rattle.gate_base.specs.declared.side.Side.{Side}
use Rattle.realm_pools.specs.Addresses.{Addresses}
use Rattle.binding_table.specs.Prelude.{cross, pool_of, is_address, needs_binding, given_image, needing, next_alias}
use Rattle.gate_base.specs.declared.address.Addr.{Addr}
use Rattle.binding_table.specs.declared.binding.Crossing.{Crossing}
use Rattle.binding_table.specs.declared.binding.Crossing.TheVariants.{Same, Bound, Unbound}
use Rattle.binding_table.proofs.Places.{among_is, needs_of, planned_fresh}
use Rattle.binding_table.proofs.table.Table.image.Goals as goal

-- the address needs a binding
fresh : (found crossing : Crossing) → found ≡ crossing → (found ≡ Same → ⊥) → ((image : Addr) → found ≡ Bound image → ⊥) → crossing ≢ Unbound
    → needs_binding crossing ≡ true
fresh found crossing e same known bound = ap needs_binding (sym e) ∙ needs_of found same known (λ u. bound (sym e ∙ u))

pub returns-in-Some : goal.returns-in-Some
returns-in-Some c =
    let table = c.args.self.now in
    let side = c.args.side in
    let pool = pool_of table (other side) in
    let earlier = c.args.earlier.now in
    let images = c.args.images.now in
    let needs = fresh c.cross.result (cross table side c.args.address) c.cross.ensures c.in_default.not-Same c.in_default.not-Bound
    c.requires.bound in
    let place : position (is_address c.args.address) earlier ≡ Some c.in-Some.place =
    sym (c.first_place.ensures.place (needing table side) c.requires.seen_addresses needs) ∙ c.in-Some.is in
    record {
      value = ap (λ (image : Option Addr). (image, c.args.given)) c.address_at.ensures
          ∙ sym (planned_fresh pool earlier images c.args.given c.args.address (cross table side c.args.address) needs
          ∙ ap (given_image pool images c.args.given) place);
      fresh = sym (ap (λ (b : Bool). needing table side c.args.address && not b) (among_is earlier c.args.address (Some c.in-Some.place) place)
          ∙ ap (λ (b : Bool). b && false) needs);
      seen_addresses = c.first_place.ensures.seen_addresses (needing table side) c.requires.seen_addresses needs;
    }

pub returns-in-None : goal.returns-in-None
returns-in-None c =
    let table = c.args.self.now in
    let side = c.args.side in
    let pool = pool_of table (other side) in
    let earlier = c.args.earlier.now in
    let images = c.args.images.now in
    let needs = fresh c.cross.result (cross table side c.args.address) c.cross.ensures c.in_default.not-Same c.in_default.not-Bound
    c.requires.bound in
    let none : position (is_address c.args.address) earlier ≡ None =
    sym (c.first_place.ensures.place (needing table side) c.requires.seen_addresses needs) ∙ c.in-None.is in
    let given = c.next_alias-alias.ensures ∙ ap (λ (one : Addresses). next_alias one c.args.given)
    (c.pool.ensures.value ∙ ap (λ (s : Side). pool_of table s) c.other.ensures) in
    record {
      value = ap (λ (image : Option Addr). (image, image)) given
          ∙ sym (planned_fresh pool earlier images c.args.given c.args.address (cross table side c.args.address) needs
          ∙ ap (given_image pool images c.args.given) none);
      fresh = sym (ap (λ (b : Bool). needing table side c.args.address && not b) (among_is earlier c.args.address None none)
          ∙ ap (λ (b : Bool). b && true) needs);
      seen_addresses = c.first_place.ensures.seen_addresses (needing table side) c.requires.seen_addresses needs;
    }
