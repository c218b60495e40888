use Rattle.std.proofs.Common.{◌≡◌, ◌∙◌, ◌++◌, None, sym}
use Rattle.dns_names.specs.Inside.Ends.{key}
use Rattle.dns_names.specs.Inside.Targets.{one_at_most}
use Rattle.dns_names.specs.Inside.Writers.{place_in}
use Rattle.dns_names.proofs.Placing.{place-none, place-some}
use Rattle.dns_names.proofs.targets.Targets.get.Goals as goal

pub returns-in-Some : goal.returns-in-Some
returns-in-Some c = rw (← c.self.view_is) (sym (place-some (one_at_most c.self.inside.last)
    (c.self.inside.rising.items ++ c.self.inside.others.entries) (key c.args.suffix.now) c.in-Some.place
    (sym c.place_at.ensures ∙ c.in-Some.is)))

pub returns-in-None : goal.returns-in-None
returns-in-None c =
    let none : place_in (one_at_most c.self.inside.last) (key c.args.suffix.now) ≡ None = sym c.place_at.ensures ∙ c.in-None.is in
    let items : c.deref.result.now ≡ c.self.inside.rising.items = c.deref.ensures.value in
    rw (← c.self.view_is, ← items) (c.place_behind.ensures ∙ sym (place-none (one_at_most c.self.inside.last)
    (c.deref.result.now ++ c.self.inside.others.entries) (key c.args.suffix.now) none))
