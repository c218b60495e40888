use Rattle.std.proofs.Common.{ℕ, ◌<◌, Option, None, length, sym, ◌∙◌, ap, subst}
use Rattle.std.proofs.lemmas.List.{get_or_read}
use Rattle.expiring_table.specs.Prelude.{IsLast, is_cell_of}
use Rattle.expiring_table.proofs.Walk.{walk_start, walk_on, walk_found, IsWalk, met_within}
use Rattle.expiring_table.proofs.store.Store.place_of.Goals as goal

pub loop-at-init : goal.loop-at-init
loop-at-init g c =
    let chained = c.args.self.now.chains in
    let P : ℕ → Type 0 = λ bucket. IsLast bucket chained.buckets (length chained.buckets) c.last-at.result in
    walk_start c.args.key c.args.self.now.cells.items chained c.last-at.result c.requires.indexed.links c.requires.indexed.hashed
    (subst P c.bucket_of.ensures.value c.last-at.ensures)

pub returns-then-is_cell_of : goal.returns-then-is_cell_of
returns-then-is_cell_of g c =
    let cells = c.args.self.now.cells.items in
    let P : Option ℕ → Type 0 = λ at. IsWalk c.args.key cells c.args.self.now.chains at in
    let within = met_within c.args.key cells c.args.self.now.chains c.in-Some.place c.requires.indexed.links
    (subst P c.in-Some.is c.loop-at.invariant) in
    walk_found c.args.key cells c.in-Some.place within c.index.result.now
    (sym (get_or_read cells c.in-Some.place c.index.result.now within c.index.ensures None)) (sym c.is_cell_of.ensures ∙ c.if-is_cell_of.true)

pub loop-at-preserved : goal.loop-at-preserved
loop-at-preserved g c =
    let cells = c.args.self.now.cells.items in
    let P : Option ℕ → Type 0 = λ at. IsWalk c.args.key cells c.args.self.now.chains at in
    let walk = subst P c.in-Some.is c.loop-at.invariant in
    let within = met_within c.args.key cells c.args.self.now.chains c.in-Some.place c.requires.indexed.links walk in
    let read = get_or_read cells c.in-Some.place c.index.result.now within c.index.ensures None in
    walk_on c.args.key cells c.args.self.now.chains c.in-Some.place c.before-at.result c.requires.indexed.hashed walk
    (ap (is_cell_of c.args.key) (sym read) ∙ sym c.is_cell_of.ensures ∙ c.if-is_cell_of.false) c.before-at.ensures

pub before-at-requires-clause-there : goal.before-at-requires-clause-there
before-at-requires-clause-there g c =
    let chained = c.args.self.now.chains in
    let P : Option ℕ → Type 0 = λ at. IsWalk c.args.key c.args.self.now.cells.items chained at in
    let walk = subst P c.in-Some.is c.loop-at.invariant in
    let Q : ℕ → Type 0 = λ bucket. bucket < chained.width in
    subst Q (sym (walk.bucket.1)) (subst Q c.bucket_of.ensures.value c.bucket_of.ensures.within)
