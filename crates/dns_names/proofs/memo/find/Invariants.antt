use Rattle.std.proofs.Common.{◌≡◌, length}
use Rattle.dns_names.specs.Prelude.{IsMemo, Leads}
use Rattle.dns_names.proofs.memo.find.Given as goal

abbrev pub invariant-back : goal.invariant-back
invariant-back l = Leads l.message l.memo.kept.items l.place l.memo.path.items l.known × IsMemo l.message l.memo × (l.end ≡ length l.memo.kept.items)

abbrev pub decreases-back : goal.decreases-back
decreases-back l = length l.memo.path.items
