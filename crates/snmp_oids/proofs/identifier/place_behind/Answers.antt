use Rattle.std.proofs.Common.{◌∙◌, ap, ◌+◌, ℕ, drop, arith}
use Rattle.snmp_oids.specs.Identifier.{place_behind}
use Rattle.snmp_oids.proofs.Places.{behind_zero, behind_end, behind_less, behind_same}
use Rattle.snmp_oids.proofs.identifier.place_behind.Goals as goal
use Rattle.snmp_oids.proofs.identifier.place_behind.Goals.{then-octet-lt128, else-octet-lt128}

pub returns-then-left-eq0-clause-value : goal.returns-then-left-eq0-clause-value
returns-then-left-eq0-clause-value c =
    let none = ap (λ (left : ℕ). place_behind left (drop c.loop-place.place c.args.octets.now)) c.if-left-eq0.true
    ∙ behind_zero (drop c.loop-place.place c.args.octets.now) in
    omega (arith, none, c.loop-place.invariant)

pub loop-place-preserved : goal.loop-place-preserved
loop-place-preserved c = elim c.if-octet-lt128.branch [
  | then-octet-lt128 w ↦
      let e = behind_less c.loop-place.left c.if-octet-lt128.left c.args.octets.now c.loop-place.place c.if-left-eq0.false c.loop-place-test.true
      w.if-octet-lt128.true w.left-is in
      omega (arith, e, c.loop-place.invariant)
  | else-octet-lt128 w ↦
      let e = behind_same c.loop-place.left c.args.octets.now c.loop-place.place c.if-left-eq0.false c.loop-place-test.true w.if-octet-lt128.false in
      let same = ap (λ (left : ℕ). place_behind left (drop (c.loop-place.place + 1) c.args.octets.now)) w.left-is in
      omega (arith, e, same, c.loop-place.invariant)
]

pub returns-clause-value : goal.returns-clause-value
returns-clause-value c =
    let e = behind_end c.loop-place.left c.args.octets.now c.loop-place.place c.loop-place-test.false in
    omega (arith, e, c.loop-place.invariant)
