use Rattle.std.proofs.Common.{List, ℕ, [], length, get_or, slice_range, arith, ap, ◌∙◌}
use Rattle.resegment.proofs.Boxes.{ends_count, found, found_octets, range_short}
use Rattle.resegment.proofs.datagrams.Datagrams.datagram.Goals as goal

pub start_of-start-requires : goal.start_of-start-requires
start_of-start-requires c =
    omega (
      arith,
      ap length c.self.view_is,
      ends_count 0 c.self.inside.octets.items c.self.inside.ends.items,
      c.requires,
      ap length c.deref.ensures.value,
    )

pub index-requires : goal.index-requires
index-requires c = let e = c.self.inside.ends.ok.0 in
    omega (arith, ap length c.self.view_is, ends_count 0 c.self.inside.octets.items c.self.inside.ends.items, c.requires, e)

pub slice_bounds-result-count : goal.slice_bounds-result-count
slice_bounds-result-count c =
    let f = found c.self.inside.octets.items c.self.inside.ends.items c.deref.result.now c.args.self.now c.args.place c.start_of-start.result
    c.index.result.now c.self.invariant.bounds c.self.view_is c.requires c.deref.ensures.value c.start_of-start.ensures c.index.ensures in
    f.bounds_are.ordered

pub slice_bounds-result-start : goal.slice_bounds-result-start
slice_bounds-result-start c =
    let f = found c.self.inside.octets.items c.self.inside.ends.items c.deref.result.now c.args.self.now c.args.place c.start_of-start.result
    c.index.result.now c.self.invariant.bounds c.self.view_is c.requires c.deref.ensures.value c.start_of-start.ensures c.index.ensures in
    omega (arith, f.bounds_are.ordered, f.bounds_are.within, ap length c.deref-2.ensures.value)

pub slice_bounds-result-end : goal.slice_bounds-result-end
slice_bounds-result-end c =
    let f = found c.self.inside.octets.items c.self.inside.ends.items c.deref.result.now c.args.self.now c.args.place c.start_of-start.result
    c.index.result.now c.self.invariant.bounds c.self.view_is c.requires c.deref.ensures.value c.start_of-start.ensures c.index.ensures in
    omega (arith, f.bounds_are.ordered, f.bounds_are.within, ap length c.deref-2.ensures.value)

pub returns-clause-octets : goal.returns-clause-octets
returns-clause-octets c =
    let f = found c.self.inside.octets.items c.self.inside.ends.items c.deref.result.now c.args.self.now c.args.place c.start_of-start.result
    c.index.result.now c.self.invariant.bounds c.self.view_is c.requires c.deref.ensures.value c.start_of-start.ensures c.index.ensures in
    ap (λ (xs : List ℕ). slice_range xs c.start_of-start.result c.index.result.now) c.deref-2.ensures.value
    ∙ found_octets c.self.inside.octets.items c.self.inside.ends.items c.args.place c.start_of-start.result c.index.result.now f
    ∙ ap (λ (ds : List (List ℕ)). get_or ds c.args.place []) c.self.view_is

pub returns-clause-short : goal.returns-clause-short
returns-clause-short c =
    let f = found c.self.inside.octets.items c.self.inside.ends.items c.deref.result.now c.args.self.now c.args.place c.start_of-start.result
    c.index.result.now c.self.invariant.bounds c.self.view_is c.requires c.deref.ensures.value c.start_of-start.ensures c.index.ensures in
    omega (
      arith,
      range_short c.self.inside.octets.items c.start_of-start.result c.index.result.now f.bounds_are,
      ap (λ (xs : List ℕ). length (slice_range xs c.start_of-start.result c.index.result.now)) c.deref-2.ensures.value,
    )
