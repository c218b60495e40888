use Rattle.std.proofs.Common.{◌≡◌, ℕ, ◌+◌, Bool, true, false, cond, [], List, length, set, Option, sym, ap, subst, arith}
use mir.Val.{bool_byte}
use Rattle.std.proofs.lemmas.List.{take_more}
use Rattle.gate_base.specs.Prelude.{other}
use Rattle.gate_base.specs.declared.address.Addr.{Addr}
use Rattle.expiring_table.specs.Prelude.{Table}
use Rattle.binding_table.specs.Prelude.{fresh_after, AreFirsts, needing}
use Rattle.binding_table.proofs.Fresh.{needed_small, fresh_step}
use Rattle.binding_table.proofs.Places.{no_firsts}
use Rattle.binding_table.proofs.Planned.{IsAt, at_start, at_step, at_end}
use Rattle.binding_table.proofs.table.Table.write_images.Goals as goal

from_nothing : (n : ℕ) → 0 + n ≡ n
from_nothing n = omega arith

-- an address that stands first is counted once
counted : (fresh first : Bool) → fresh ≡ first → bool_byte fresh ≡ cond first 1 0
counted true first e = ap (λ (b : Bool). cond b 1 0) e
counted false first e = ap (λ (b : Bool). cond b 1 0) e

pub overflow_add-count : goal.overflow_add-count
overflow_add-count c =
    let step = fresh_step c.args.self.now c.args.side c.args.addresses.now c.loop-place.place (record { 0 = 0 }) c.loop-place-test.true in
    omega (
      arith,
      c.loop-place.invariant.count,
      step,
      counted c.image-planned.result.fresh _ c.image-planned.ensures.fresh,
      needed_small c.args.self.now c.args.side c.args.addresses.now,
    )

pub loop-place-init : goal.loop-place-init
loop-place-init c =
    let needs = needing c.args.self.now c.args.side in
    record {
      plan = λ room uses e. at_start c.args.self.now c.args.side c.args.addresses.now c.args.images.now uses room;
      count = from_nothing (length (fresh_after c.args.self.now c.args.side [] c.args.addresses.now));
      seen_addresses = subst (λ (seen_addresses : Table ℕ). AreFirsts needs [] seen_addresses) (sym c.requires.empty) (no_firsts needs);
    }

pub loop-place-preserved : goal.loop-place-preserved
loop-place-preserved c =
    let table = c.args.self.now in
    let side = c.args.side in
    let addresses = c.args.addresses.now in
    let place = c.loop-place.place in
    let zero : Addr = record { 0 = 0 } in
    let within = c.loop-place-test.true in
    let long : length c.loop-place.images ≡ length addresses = omega arith in
    let bound = c.requires.bound place zero within in
    let step = fresh_step table side addresses place zero within in
    record {
      plan = λ room uses e.
          subst (λ (p : Option Addr × Option Addr). IsAt table side addresses (place + 1) (set c.loop-place.images place p.0) p.1 uses)
          (sym c.image-planned.ensures.value)
          (at_step table side addresses place c.loop-place.images c.loop-place.given uses zero (c.keeps_apart.ensures.ranges (other side)) e within
          long bound (c.loop-place.invariant.plan room uses e));
      count = omega (arith, c.loop-place.invariant.count, step, counted c.image-planned.result.fresh _ c.image-planned.ensures.fresh);
      seen_addresses = subst (λ (earlier : List Addr). AreFirsts (needing table side) earlier c.image-planned.new.seen_addresses)
          (sym (take_more addresses place zero within)) c.image-planned.ensures.seen_addresses;
    }

pub returns-clause-images : goal.returns-clause-images
returns-clause-images c = λ room uses e.
    let addresses = c.args.addresses.now in
    let long : length c.loop-place.images ≡ length addresses = omega arith in
    let done : c.loop-place.place ≡ length addresses = omega arith in
    let P : ℕ → Type 0 = λ place. IsAt c.args.self.now c.args.side addresses place c.loop-place.images c.loop-place.given uses in
    at_end c.args.self.now c.args.side addresses c.loop-place.images c.loop-place.given uses e long
    (subst P done (c.loop-place.invariant.plan room uses e))
