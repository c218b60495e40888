use Rattle.std.proofs.Common.{◌≡◌, length}
use Rattle.dns_names.specs.Inside.Ends.{key}
use Rattle.dns_names.specs.Inside.Targets.{Rises}
use Rattle.dns_names.specs.Inside.Writers.{place_in}
use Rattle.dns_names.proofs.targets.place_among.Given as goal

abbrev pub invariant-parts : goal.invariant-parts
invariant-parts l = Rises l.part × (place_in l.fn.rising (key l.fn.suffix) ≡ place_in l.part (key l.fn.suffix))

abbrev pub decreases-parts : goal.decreases-parts
decreases-parts l = length l.part
