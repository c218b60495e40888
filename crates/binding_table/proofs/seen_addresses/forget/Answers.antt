use Rattle.std.proofs.Common.{◌∙◌, ap, sym, subst, arith, All, length, ℕ}
use Rattle.std.proofs.lemmas.List.Elements.{All-filter}
use Rattle.expiring_table.specs.Prelude.{Table, living, no_rows}
use Rattle.expiring_table.proofs.Taken.{taken_fewer}
use Rattle.binding_table.specs.Prelude.{EndsAtOnce}
use Rattle.binding_table.proofs.Filed.{same_table}
use Rattle.binding_table.proofs.Places.{none_left}
use Rattle.binding_table.proofs.seen_addresses.forget.Goals as goal

pub loop-smaller : goal.loop-smaller
loop-smaller c =
    let taken = c.in-Some.ensures.some in
    omega (arith, taken_fewer c.in-Some.field-0 c.loop.seen_addresses.rows c.next_ended.ensures.distinct taken.1.there, ap length taken.1.rest)

pub loop-preserved : goal.loop-preserved
loop-preserved c =
    let taken = c.in-Some.ensures.some in
    record {
      most = taken.0 ∙ c.loop.invariant.most;
      ends = subst (All EndsAtOnce) (sym taken.1.rest) (All-filter _ EndsAtOnce c.loop.seen_addresses.rows c.loop.invariant.ends);
    }

pub returns : goal.returns
returns c =
    let rest = c.in_default.ensures in
    let rows = ap (λ (t : Table ℕ). t.rows) rest.none in
    rest.none ∙ same_table c.loop.seen_addresses (no_rows c.args.seen_addresses.now.most) c.loop.invariant.most
    (none_left c.loop.seen_addresses.rows c.loop.invariant.ends (ap (living 0) (sym rows) ∙ rest.live ∙ rows))
