use Rattle.std.proofs.Common.{sym, ◌∙◌, ap, is_some, ◌∷◌, ◌+◌, ℕ, drop}
use Rattle.gate_base.proofs.Options.{some_mapped}
use Rattle.snmp_oids.specs.Arcs.{arcs_for, numbers_of, numbers_from}
use Rattle.snmp_oids.proofs.SubIdentifiers.{numbers_stop, numbers_go, numbers_end, numbers_past, some_test, whole_goes}
use Rattle.snmp_oids.proofs.arcs.has_arcs.Goals as goal
use Rattle.snmp_oids.proofs.arcs.has_arcs.Goals.{then-octet-lt128, else-octet-lt128}

pub returns-in-None : goal.returns-in-None
returns-in-None c =
    sym (ap is_some (numbers_stop c.loop-octet.number c.args.content.now c.loop-octet.octet-index c.joined.result c.loop-octet-test.true
    c.joined.ensures c.in-None.is))
    ∙ c.loop-octet.invariant
    ∙ sym (some_mapped arcs_for (numbers_of c.args.content.now))

pub loop-octet-preserved : goal.loop-octet-preserved
loop-octet-preserved c =
    let turn = λ (n : ℕ). is_some (numbers_from n (drop (c.loop-octet.octet-index + 1) c.args.content.now)) in
    elim c.if-octet-lt128.branch [
      | then-octet-lt128 w ↦
          ap turn w.number-is
          ∙ sym (some_mapped (λ numbers. c.in-Some.more ∷ numbers) (numbers_of (drop (c.loop-octet.octet-index + 1) c.args.content.now)))
          ∙ sym (ap is_some (numbers_end c.loop-octet.number c.args.content.now c.loop-octet.octet-index c.joined.result c.in-Some.more
          c.loop-octet-test.true c.joined.ensures c.in-Some.is w.if-octet-lt128.true))
          ∙ c.loop-octet.invariant
      | else-octet-lt128 w ↦
          ap turn w.number-is
          ∙ sym (ap is_some (numbers_go c.loop-octet.number c.args.content.now c.loop-octet.octet-index c.joined.result c.in-Some.more
          c.loop-octet-test.true c.joined.ensures c.in-Some.is w.if-octet-lt128.false))
          ∙ c.loop-octet.invariant
    ]

pub loop-octet-preserved-then-is_whole : goal.loop-octet-preserved-then-is_whole
loop-octet-preserved-then-is_whole c = whole_goes c.loop-octet.number c.args.content.now c.loop-octet.octet-index c.is_whole.result
    c.loop-octet-test.true c.is_whole.ensures c.if-is_whole.true ∙ c.loop-octet.invariant

pub returns : goal.returns
returns c =
    sym (some_test _ _)
    ∙ sym (ap is_some (numbers_past c.loop-octet.number c.args.content.now c.loop-octet.octet-index c.loop-octet-test.false))
    ∙ c.loop-octet.invariant
    ∙ sym (some_mapped arcs_for (numbers_of c.args.content.now))
