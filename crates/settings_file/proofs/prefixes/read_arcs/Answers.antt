use Rattle.std.proofs.Common.{◌∙◌, sym, ap, option_map, ◌-◌, arith}
use Rattle.settings_file.specs.Prefixes.{arcs_text}
use Rattle.settings_file.proofs.ArcTexts.{behind-none, arcs-next, arcs-none, arcs-last, arcs-end, if_read}
use Rattle.settings_file.proofs.prefixes.read_arcs.Goals as goal

pub loop-init : goal.loop-init
loop-init c = rw c.new-arcs.ensures.items (behind-none (arcs_text 64 c.args.text.now))

pub returns-in_default : goal.returns-in_default
returns-in_default c =
    if_read (λ v. v.items) c.with_arc.result _ _ c.with_arc.ensures
    (arcs-last c.loop.counter c.loop.arcs.items c.loop.rest.now (omega arith) c.in_default.ensures ∙ c.loop.invariant)

pub returns-in_default-2 : goal.returns-in_default-2
returns-in_default-2 c =
    arcs-none c.loop.counter c.loop.arcs.items c.loop.rest.now c.in-Some.first.now c.in-Some.others.now (omega arith) c.in-Some.ensures
    (sym (ap (option_map (λ v. v.items)) c.in_default-2.is) ∙ c.in_ok-longer.ensures) ∙ c.loop.invariant

pub loop-preserved : goal.loop-preserved
loop-preserved c =
    arcs-next c.loop.counter c.loop.arcs.items c.loop.rest.now c.in-Some.first.now c.in-Some.others.now c.in-Some-2.longer.items
    (omega arith) c.in-Some.ensures (sym (ap (option_map (λ v. v.items)) c.in-Some-2.is) ∙ c.in_ok-longer.ensures) ∙ c.loop.invariant

pub returns : goal.returns
returns c = arcs-end (64 - c.loop.counter) c.loop.arcs.items c.loop.rest.now (omega arith) ∙ c.loop.invariant
