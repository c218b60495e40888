use Rattle.std.proofs.Common.{◌≡◌, ◌≤◌, ◌<◌, ◌++◌, List, length, take, drop, sym, ◌∙◌, ap, subst, arith, rules, tests, ◌^◌, nat_le, slice_get}
use Rattle.std.proofs.lemmas.List.Sorted.{IsPartitionPoint-from_clause}
use Rattle.dialogue.specs.Prelude.{back_in}
use Rattle.audit_streams.specs.declared.transcript.ChangedUnit.{ChangedUnit}
use Rattle.audit_streams.specs.Inside.Transcripts.{Transcribed, InOrder}
use Rattle.audit_streams.proofs.Places.{Parted, parted, ends_parted, octets_end, until, until-le, below_is}
use Rattle.audit_streams.proofs.transcript.Transcript.below.Goals as goal
use Rattle.audit_streams.proofs.transcript.Transcript.below.Goals.{After-ends_of-octet, in-Some, in-None}

-- the units in two parts
parts : (c : After-ends_of-octet) → Parted (λ u. u.end) c.split_at.result.0.now c.split_at.result.1.now c.args.place
parts c =
    let xs = c.deref.result.now in
    let q = c.args.place in
    let i = c.partition_point-next.result in
    let order : InOrder 0 0 xs = subst (λ (us : List ChangedUnit). InOrder 0 0 us) (sym c.deref.ensures.value) c.self.invariant.order in
    let point =
    IsPartitionPoint-from_clause (λ (u : ChangedUnit). nat_le u.end q) xs i c.partition_point-next.ensures.partitioned (ends_parted xs q order)
    (λ a r f k. search (rules, tests)) in
    let same : c.deref-2.result.now ≡ xs = c.deref-2.ensures.value ∙ sym c.deref.ensures.value in
    parted (λ (u : ChangedUnit). u.end) xs _ _ q i c.partition_point-next.ensures.bound point
    (c.split_at.ensures.front ∙ ap (take i) same)
    (c.split_at.ensures.back ∙ ap (drop i) same)

joined : (c : After-ends_of-octet) → c.split_at.result.0.now ++ c.split_at.result.1.now ≡ c.self.inside.units.items
joined c = sym c.split_at.ensures.by_index.0 ∙ c.deref-2.ensures.value

until_is : (c : After-ends_of-octet) → c.match-first.until ≡ until (length c.self.inside.octets.items) (slice_get c.split_at.result.1.now 0)
until_is c =
    let n = length c.self.inside.octets.items in
    elim c.match-first.branch [
      | in-Some w ↦ w.until-is ∙ w.from-until.ensures ∙ ap (until n) w.in-Some.ensures.value
      | in-None w ↦ w.until-is ∙ w.len.ensures ∙ c.self.inside.octets.ok.0 ∙ ap (until n) w.in-None.ensures.value
    ]

-- the next unit lies behind
above : (c : After-ends_of-octet) → (c.ends_of-octet.result.0 ≤ c.match-first.until) × (c.match-first.until < 2 ^ 30)
above c =
    let a = c.self.inside in
    let i = c.self.invariant in
    let all : octets_end 0 a.units.items ≤ length a.octets.items = omega (arith, i.before, i.within) in
    let l = until-le a.units.items c.split_at.result.0.now c.split_at.result.1.now (length a.octets.items) i.order (joined c) all in
    (omega (arith, l.0, until_is c, c.ends_of-octet.ensures.past), omega (arith, l.1, until_is c, i.few))

pub overflow_sub-place : goal.overflow_sub-place
overflow_sub-place c = omega (arith, (parts c).upto, c.ends_of-octet.ensures.end)

pub overflow_sub-until : goal.overflow_sub-until
overflow_sub-until c = (above (goal.at.overflow_sub-until c).After-ends_of-octet).0

pub returns-clause-back : goal.returns-clause-back
returns-clause-back c =
    let d = (goal.at.returns-clause-back c).After-ends_of-octet in
    let a = c.self.inside in
    let n = length a.octets.items in
    let q = c.args.place in
    let before = c.split_at.result.0.now in
    let next = slice_get c.split_at.result.1.now 0 in
    let is = below_is a.units.items before c.split_at.result.1.now n q c.self.invariant.order (joined d) (parts d) in
    omega (arith, c.min.ensures, c.ends_of-octet.ensures.past, c.ends_of-octet.ensures.end, until_is d, is)
    ∙ ap (λ (l : Transcribed). back_in l.places q) c.self.view_is

pub returns-clause-few : goal.returns-clause-few
returns-clause-few c =
    let d = (goal.at.returns-clause-few c).After-ends_of-octet in
    omega (arith, c.min.ensures, (above d).0, (above d).1)
