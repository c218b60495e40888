use Rattle.std.proofs.Common.{◌≡◌, Some, ◌∙◌, sym, ap}
use Rattle.std.proofs.lemmas.List.Elements.{All-pop}
use Rattle.std.proofs.lemmas.Slice.Eq.{bytes_eq-Decides}
use Rattle.dialogue.specs.declared.learns.UnitImage.{UnitImage}
use Rattle.dns_stream.proofs.units.next_image.Goals as goal

pub returns-then-eq : goal.returns-then-eq
returns-then-eq c m all =
    let both = All-pop (λ (one : UnitImage). one.image.items ≡ m.image one.unit.items) _ _ (Some c.in_ok-next.next) c.in_ok-next.ensures.items all in
    let same = (bytes_eq-Decides c.as_slice.result.now c.args.unit.now).0 (sym c.eq.ensures ∙ c.if-eq.true) in
    (both.0, both.1 ∙ ap m.image (sym c.as_slice.ensures.value ∙ same))
