use Rattle.std.proofs.Common.{length}
use Rattle.dns_names.specs.Prelude.{labels_in, IsLongest, starts_in, GrewBy}
use Rattle.dns_names.specs.Inside.Longest.{IsEdge}
use Rattle.dns_names.specs.Inside.Met.{AreMet}
use Rattle.dns_names.specs.Inside.Writers.{IsPending}
use Rattle.dns_names.proofs.Longest.{Closing}
use Rattle.dns_names.proofs.Putting.{Puts}
use Rattle.dns_names.proofs.writer.put_labels.Given as goal

abbrev pub invariant-labels : goal.invariant-labels
invariant-labels l = Puts (starts_in l.fn.places) (labels_in l.name) l.fn.out.items l.rest l.out.items (starts_in l.places)
    × IsPending l.places l.rest (length l.out.items)
    × GrewBy (starts_in l.fn.places) l.fn.out.items (starts_in l.places) l.out.items
    × IsLongest (starts_in l.fn.places) l.rest l.left l.end
    × Closing (starts_in l.places) l.edge.octets.now l.rest (length l.out.items)
    × IsEdge (starts_in l.places) l.edge
    × AreMet (starts_in l.places) l.met

abbrev pub decreases-labels : goal.decreases-labels
decreases-labels l = length l.rest
