use Rattle.std.proofs.Common.{◌/◌, ℕ, slice_set, subst, sym}
use Rattle.realm_pools.specs.Inside.Places.{IsSet}
use Rattle.realm_pools.proofs.Bits.{placed}
use Rattle.realm_pools.proofs.words.set_bit.Goals as goal

pub returns-clause-set : goal.returns-clause-set
returns-clause-set c =
    let P : ℕ → Type 0 = λ word. IsSet c.args.words.now (slice_set c.args.words.now (c.args.place / 64) word) c.args.place c.args.one in
    subst P (sym c.with_bit.ensures) (placed c.args.words.now c.args.place c.args.one c.requires)
