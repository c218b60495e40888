use Rattle.std.proofs.Common.{◌∙◌, refl, arith, rules}
use Rattle.snmp_oids.specs.Arcs.{numbers_of}
use Rattle.snmp_oids.specs.Inside.Arcs.{numbers_in}
use Rattle.snmp_oids.proofs.Small.{drop_next, kept_next, left_next, none_left, nothing_kept}
use Rattle.snmp_oids.proofs.SubIdentifiers as one
use Rattle.snmp_oids.proofs.numbers.small_numbers.Goals as goal

pub loop-place-init : goal.loop-place-init
loop-place-init c = record {
  all = refl;
  some = c.requires;
  rest = refl;
  kept = λ k l. absurd (omega (arith, l));
  left = λ k l. nothing_kept 194 k;
}

pub returns-in_default : goal.returns-in_default
returns-in_default c = λ place below.
    none_left (numbers_in c.args.octets.now) c.loop-place.place c.loop-place.kept place
    (c.loop-place.invariant.rest ∙ one.none_left (numbers_of c.loop-place.rest.now)
    (c.in_default.ensures.none c.loop-place.invariant.some)) c.loop-place.invariant.kept c.loop-place.invariant.left

pub loop-place-preserved : goal.loop-place-preserved
loop-place-preserved c =
    let more = one.one_more (numbers_of c.loop-place.rest.now)
    (numbers_of c.in-Some.more.now) c.in-Some.number c.in-Some.ensures.found c.loop-place.invariant.some in
    let ns = numbers_in c.args.octets.now in
    let here = c.loop-place.invariant.rest ∙ more.is in
    record {
      all = search rules;
      some = more.some;
      rest = drop_next ns c.loop-place.place c.in-Some.number (numbers_in c.in-Some.more.now) here;
      kept = λ k l. kept_next ns c.loop-place.place c.in-Some.number (numbers_in c.in-Some.more.now) c.loop-place.kept c.small.result k
          (omega (arith, c.loop-place.invariant.all, c.loop-place-test.true)) here c.small.ensures c.loop-place.invariant.kept l;
      left = λ k l. left_next c.loop-place.place c.loop-place.kept c.small.result k c.loop-place.invariant.left l;
    }
