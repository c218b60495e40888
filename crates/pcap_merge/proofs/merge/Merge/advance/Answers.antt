use Rattle.std.proofs.Common.{◌≡◌, Some, None, option_map, sym, refl, ap, ◌∙◌}
use Rattle.pcap_merge.specs.Prelude.{earlier}
use Rattle.pcap_merge.proofs.Steps.{gives, finishes, stops}
use Rattle.pcap_merge.proofs.merge.Merge.advance.Goals as goal

pub returns-in-Err-clause-first : goal.returns-in-Err-clause-first
returns-in-Err-clause-first g c = rw (← c.self.view_is) (λ none.
    let m = c.self.inside in
    (refl, stops c.in-Err.stop m.left c.read_sides.new.left m.right c.read_sides.new.right m.clock m.last m.stopped _ _ c.in-Err.ensures.reads))

pub returns-in-Some-earlier-clause-first : goal.returns-in-Some-earlier-clause-first
returns-in-Some-earlier-clause-first g c = rw (← c.self.view_is) (λ none.
    let m = c.self.inside in
    let read = c.in_default-read_sides.ensures.reads in
    let next : earlier (option_map (λ p. p.stamp) c.read_sides.new.left.packet) (option_map (λ p. p.stamp) c.read_sides.new.right.packet)
    ≡ Some (c.in-Some-earlier.side, c.in-Some-earlier.stamp) =
    ap (λ o. earlier o (option_map (λ p. p.stamp) c.read_sides.new.right.packet)) (sym c.stamp.ensures)
    ∙ ap (earlier c.stamp.result) (sym c.stamp-2.ensures) ∙ sym c.earlier.ensures ∙ c.in-Some-earlier.is in
    gives m.left c.read_sides.new.left m.right c.read_sides.new.right m.clock c.max-moment.result m.last
    (c.in-Some-earlier.side, c.in-Some-earlier.stamp) m.stopped _ read.0 _ c.self.invariant none read.1 read.2 next c.max-moment.ensures)

pub returns-in-None-clause-first : goal.returns-in-None-clause-first
returns-in-None-clause-first g c = rw (← c.self.view_is) (λ none.
    let m = c.self.inside in
    let read = c.in_default-read_sides.ensures.reads in
    let next : earlier (option_map (λ p. p.stamp) c.read_sides.new.left.packet) (option_map (λ p. p.stamp) c.read_sides.new.right.packet) ≡ None =
    ap (λ o. earlier o (option_map (λ p. p.stamp) c.read_sides.new.right.packet)) (sym c.stamp.ensures)
    ∙ ap (earlier c.stamp.result) (sym c.stamp-2.ensures) ∙ sym c.earlier.ensures ∙ c.in-None.is in
    finishes m.left c.read_sides.new.left m.right c.read_sides.new.right m.clock m.last m.stopped _ read.0 _ none read.1 read.2 next)
