use Rattle.std.proofs.Common.{◌≡◌, ◌+◌, ◌-◌, ◌++◌, ◌∷◌, [], ℕ, true, false, List, take, drop, sym, ◌∙◌, ap, subst, arith, Some, None, Err, map}
use Rattle.std.proofs.lemmas.Result.{err_from_is_err_and}
use Rattle.std.proofs.lemmas.List.{take_rest}
use Rattle.dns_stream.specs.declared.stop.UnitStop.TheVariants as stop
use Rattle.dns_stream.specs.Inside.Ends.{within}
use Rattle.dns_stream.specs.Prelude.{unit_end}
use Rattle.gate_model.specs.Prelude.{is_bad, addresses_in}
use Rattle.dns_plans.proofs.NamedLemmas.{goes_on, all_named, all_good, one_bad, reads_on, all_read}
use Rattle.dns_plans.specs.Prelude.{unit_of}
use Rattle.dns_plans.proofs.named.read_units.Goals as goal

pub loop-end-preserved : goal.loop-end-preserved
loop-end-preserved c =
    let octets : List ℕ = c.args.octets.now in
    let at : ℕ = c.loop-end.at in
    let n : ℕ = c.in-Some.end in
    let first : unit_end (drop at octets) ≡ Some n = ap unit_end (sym (take_rest octets at)) ∙ sym c.unit_end.ensures ∙ c.in-Some.is in
    let unit : take (at + n - at) (drop at octets) ≡ take n (drop at octets) = ap (λ (i : ℕ). take i (drop at octets)) (omega arith) in
    let so_far = c.loop-end.invariant in (
      goes_on octets at n c.loop-end.read.named.items c.add_unit.new.read.named.items so_far.0 first (within (drop at octets) n first).1
          (subst (λ (u : List ℕ). c.add_unit.new.read.named.items ≡ c.loop-end.read.named.items ++ addresses_in (u ∷ [])) unit
          c.in_ok-add_unit.ensures.named)
          (subst (λ (u : List ℕ). is_bad u ≡ false) unit c.in_ok-add_unit.ensures.good),
      reads_on octets at n c.loop-end.read.units.items c.add_unit.new.read.units.items so_far.1 first
          (subst (λ (u : List ℕ). map unit_of c.add_unit.new.read.units.items ≡ map unit_of c.loop-end.read.units.items ++ u ∷ []) unit
          c.in_ok-add_unit.ensures.units)
          (c.in_ok-add_unit.ensures.each so_far.1.each),
    )

pub returns-clause-named : goal.returns-clause-named
returns-clause-named c =
    let octets : List ℕ = c.args.octets.now in
    let at : ℕ = c.loop-end.at in
    let none : unit_end (drop at octets) ≡ None = ap unit_end (sym (take_rest octets at)) ∙ sym c.unit_end.ensures ∙ c.in_default.is in
    all_named octets at c.loop-end.read.named.items c.loop-end.invariant.0 none

pub returns-clause-units : goal.returns-clause-units
returns-clause-units c =
    let octets : List ℕ = c.args.octets.now in
    let at : ℕ = c.loop-end.at in
    let none : unit_end (drop at octets) ≡ None = ap unit_end (sym (take_rest octets at)) ∙ sym c.unit_end.ensures ∙ c.in_default.is in
    all_read octets at c.loop-end.read.units.items c.loop-end.invariant.1 none

pub returns-clause-good : goal.returns-clause-good
returns-clause-good c =
    let octets : List ℕ = c.args.octets.now in
    let at : ℕ = c.loop-end.at in
    let none : unit_end (drop at octets) ≡ None = ap unit_end (sym (take_rest octets at)) ∙ sym c.unit_end.ensures ∙ c.in_default.is in
    all_good octets at c.loop-end.read.named.items c.loop-end.invariant.0 none

pub returns-in_err-add_unit-clause-bad : goal.returns-in_err-add_unit-clause-bad
returns-in_err-add_unit-clause-bad c =
    let octets : List ℕ = c.args.octets.now in
    let at : ℕ = c.loop-end.at in
    let n : ℕ = c.in-Some.end in
    let first : unit_end (drop at octets) ≡ Some n = ap unit_end (sym (take_rest octets at)) ∙ sym c.unit_end.ensures ∙ c.in-Some.is in
    let unit : take (at + n - at) (drop at octets) ≡ take n (drop at octets) = ap (λ (i : ℕ). take i (drop at octets)) (omega arith) in
    let handed = err_from_is_err_and c.from_residual.result c.from_residual.ensures.1 in
    λ e.
    let why : c.in_err-add_unit.field-0.0 ≡ stop.BadUnit = (let f = e in let g = handed in cc) in
    one_bad octets at n c.loop-end.read.named.items c.loop-end.invariant.0 first
    (subst (λ (u : List ℕ). is_bad u ≡ true) unit (c.in_err-add_unit.ensures.bad (ap Err why)))
