use Rattle.std.proofs.Common.{◌≡◌, ◌≤◌, ◌<◌, ◌++◌, List, length, take, drop, sym, ◌∙◌, ap, subst, arith, rules, tests, Option, Some, IfSome, nat_le, slice_get}
use Rattle.std.proofs.lemmas.List.Sorted.{IsPartitionPoint-from_clause}
use Rattle.std.proofs.lemmas.Option.{slice_get_past}
use Rattle.dialogue.specs.Prelude.{Span}
use Rattle.audit_streams.specs.declared.transcript.ChangedUnit.{ChangedUnit}
use Rattle.audit_streams.specs.Inside.Transcripts.{Transcribed, InOrder, places_from, span_of}
use Rattle.audit_streams.proofs.Places.{Parted, parted, pasts_parted, octets_end, image_end, span_at, span_of_unit, span_of_other, place_is, length-kept}
use Rattle.audit_streams.proofs.transcript.Transcript.place.Goals as goal
use Rattle.audit_streams.proofs.transcript.Transcript.place.Goals.{After-first}

-- the units in two parts
parts : (c : After-first) → Parted (λ u. u.past) c.split_at.result.0.now c.split_at.result.1.now c.args.octet
parts c =
    let xs = c.deref.result.now in
    let k = c.args.octet in
    let i = c.partition_point-next.result in
    let order : InOrder 0 0 xs = subst (λ (us : List ChangedUnit). InOrder 0 0 us) (sym c.deref.ensures.value) c.self.invariant.order in
    let point =
    IsPartitionPoint-from_clause (λ (u : ChangedUnit). nat_le u.past k) xs i c.partition_point-next.ensures.partitioned (pasts_parted xs k order)
    (λ a r f g. search (rules, tests)) in
    let same : c.deref-2.result.now ≡ xs = c.deref-2.ensures.value ∙ sym c.deref.ensures.value in
    parted (λ (u : ChangedUnit). u.past) xs _ _ k i c.partition_point-next.ensures.bound point
    (c.split_at.ensures.front ∙ ap (take i) same)
    (c.split_at.ensures.back ∙ ap (drop i) same)

-- the octet's place, by the next unit
here : (c : After-first) → (s : Span)
    → s ≡ span_at (octets_end 0 c.split_at.result.0.now) (image_end 0 c.split_at.result.0.now) (slice_get c.split_at.result.1.now 0) c.args.octet
    → Some s ≡ slice_get c.args.self.now.places c.args.octet
here c s is =
    let a = c.self.inside in
    let joined : c.split_at.result.0.now ++ c.split_at.result.1.now ≡ a.units.items = sym c.split_at.ensures.by_index.0 ∙ c.deref-2.ensures.value in
    ap Some is
    ∙ place_is a.units.items _ _ (length a.octets.items) c.args.octet c.self.invariant.order joined
    (omega (arith, c.if-octet-len.false, c.len.ensures, a.octets.ok.0)) (parts c)
    ∙ ap (λ (l : Transcribed). slice_get l.places c.args.octet) c.self.view_is

pub returns-then-octet-len : goal.returns-then-octet-len
returns-then-octet-len c =
    let a = c.self.inside in
    let places = places_from 0 0 a.units.items (length a.octets.items) in
    let many : length places ≤ c.args.octet =
    omega (
      arith,
      length-kept a.octets.items a.image.items a.units.items a.rest c.self.invariant,
      c.if-octet-len.true,
      c.len.ensures,
      a.octets.ok.0,
    ) in
    sym (slice_get_past places c.args.octet many) ∙ ap (λ (l : Transcribed). slice_get l.places c.args.octet) c.self.view_is

pub returns-then-from-octet : goal.returns-then-from-octet
returns-then-from-octet c =
    here (goal.at.returns-then-from-octet c).After-first _
    (span_of_unit _ _ c.args.octet c.in-Some.unit.now _ _ c.in-Some.ensures.value
    (omega (arith, c.if-from-octet.true, c.from.ensures)) c.from-then-from-octet.ensures c.from-then-from-octet-2.ensures)

pub returns-else-from-octet : goal.returns-else-from-octet
returns-else-from-octet c =
    let ahead : IfSome (slice_get c.split_at.result.1.now 0) (λ u. c.args.octet < u.first) =
    subst (λ (o : Option ChangedUnit). IfSome o (λ u. c.args.octet < u.first)) c.in-Some.ensures.value
    (omega (arith, c.if-from-octet.false, c.from.ensures))
    in
    here (goal.at.returns-else-from-octet c).After-first _
    (span_of_other _ _ c.args.octet _ (span_of c.place_behind.result) ahead c.place_behind.ensures.first c.place_behind.ensures.past)

pub returns-in-None : goal.returns-in-None
returns-in-None c =
    let none : IfSome (slice_get c.split_at.result.1.now 0) (λ u. c.args.octet < u.first) =
    subst (λ (o : Option ChangedUnit). IfSome o (λ u. c.args.octet < u.first)) c.in-None.ensures.value tt
    in
    here (goal.at.returns-in-None c).After-first _
    (span_of_other _ _ c.args.octet _
    (span_of c.place_behind-in-None.result) none c.place_behind-in-None.ensures.first c.place_behind-in-None.ensures.past)

pub place_behind-requires-clause-behind : goal.place_behind-requires-clause-behind
place_behind-requires-clause-behind c = (parts (goal.at.place_behind-requires-clause-behind c).After-first).upto

pub place_behind-requires-in-None-clause-behind : goal.place_behind-requires-in-None-clause-behind
place_behind-requires-in-None-clause-behind c = (parts (goal.at.place_behind-requires-in-None-clause-behind c).After-first).upto
