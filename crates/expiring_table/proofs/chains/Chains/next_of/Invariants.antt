use Rattle.expiring_table.proofs.Links.{IsStep, steps_left}
use Rattle.expiring_table.proofs.chains.Chains.next_of.Given as goal

abbrev pub invariant-loop-at : goal.invariant-loop-at
invariant-loop-at l = IsStep l.self.buckets l.place l.next l.at

abbrev pub decreases-loop-at : goal.decreases-loop-at
decreases-loop-at l = steps_left l.at
