use Rattle.std.proofs.Common.{◌∙◌, ap, Some, None}
use Rattle.realm_pools.specs.Addresses.{free_from}
use Rattle.realm_pools.proofs.Free.{first_place}
use Rattle.realm_pools.proofs.pool.Pool.free_from.Goals as goal

pub returns-in-Some-clause-value : goal.returns-in-Some-clause-value
returns-in-Some-clause-value c =
    let pool = c.self.inside in
    first_place (record { first = pool.first; last = pool.last }) pool.places pool.taken.items c.args.place (Some c.in-Some.found)
    c.self.invariant.free_places c.in-Some.ensures ∙ ap (free_from c.args.place) c.self.view_is

pub returns-in-None-clause-value : goal.returns-in-None-clause-value
returns-in-None-clause-value c =
    let pool = c.self.inside in
    first_place (record { first = pool.first; last = pool.last }) pool.places pool.taken.items c.args.place None c.self.invariant.free_places
    c.in-None.ensures ∙ ap (free_from c.args.place) c.self.view_is
