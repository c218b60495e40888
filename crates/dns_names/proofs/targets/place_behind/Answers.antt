use Rattle.std.proofs.Common.{◌≡◌, ◌∙◌, None, rules, sym}
use Rattle.dns_names.specs.Inside.Ends.{key}
use Rattle.dns_names.specs.Inside.Writers.{place_in}
use Rattle.dns_names.proofs.Placing.{place-none, place-some}
use Rattle.dns_names.proofs.targets.place_behind.Goals as goal

pub returns-in-Some : goal.returns-in-Some
returns-in-Some c = sym (place-some c.args.rising.now c.args.others.now.entries (key c.args.suffix.now) c.in-Some.place
    (sym c.place_among.ensures ∙ c.in-Some.is))

pub returns-in-None : goal.returns-in-None
returns-in-None c =
    let none : place_in c.args.rising.now (key c.args.suffix.now) ≡ None = sym c.place_among.ensures ∙ c.in-None.is in
    let found : c.copied.result ≡ place_in c.args.others.now.entries (key c.args.suffix.now) = search rules in
    found ∙ sym (place-none c.args.rising.now c.args.others.now.entries (key c.args.suffix.now) none)
