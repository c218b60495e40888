use Rattle.std.proofs.Common.{◌-◌, List, sym, ◌∙◌, ap, subst, rules, tests, map, nat_le, nat_lt, count_by}
use Rattle.std.proofs.lemmas.List.Sorted.{IsPartitionPoint-from_clause}
use Rattle.audit_streams.specs.declared.transcript.ChangedUnit.{ChangedUnit}
use Rattle.audit_streams.specs.Inside.Transcripts.{Transcribed, InOrder}
use Rattle.audit_streams.proofs.Rising.{above_by_point}
use Rattle.audit_streams.proofs.Places.{ends_parted, ends_rise}
use Rattle.audit_streams.proofs.transcript.Transcript.above.Goals as goal

pub returns : goal.returns
returns c =
    let xs = c.deref.result.now in
    let q = c.args.place in
    let i = c.partition_point.result in
    let order : InOrder 0 0 xs = subst (λ (us : List ChangedUnit). InOrder 0 0 us) (sym c.deref.ensures.value) c.self.invariant.order in
    let point =
    IsPartitionPoint-from_clause (λ (u : ChangedUnit). nat_le u.end q) xs i c.partition_point.ensures.partitioned (ends_parted xs q order)
    (λ a r f k. search (rules, tests)) in
    let unit : ChangedUnit = record { first = 0; past = 0; at = 0; end = 0 } in
    let all = above_by_point (λ (u : ChangedUnit). u.end) xs q 0 i unit (ends_rise xs 0 0 order) c.partition_point.ensures.bound point in
    ap (λ n. n - i) (c.len.ensures ∙ sym c.deref.ensures.len)
    ∙ all
    ∙ ap (λ (us : List ChangedUnit). count_by (λ e. nat_lt q e) (map (λ (u : ChangedUnit). u.end) us)) c.deref.ensures.value
    ∙ ap (λ (l : Transcribed). count_by (λ e. nat_lt q e) l.ends) c.self.view_is
