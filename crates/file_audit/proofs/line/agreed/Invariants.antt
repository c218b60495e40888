use Rattle.std.proofs.Common.{◌≡◌, ◌+◌, drop}
use Rattle.file_audit.specs.Inside.Lines.{agreed}
use Rattle.file_audit.proofs.line.agreed.Given as goal

abbrev pub invariant-loop-place : goal.invariant-loop-place
invariant-loop-place l = agreed l.line l.octets ≡ l.place + agreed (drop l.place l.line) (drop l.place l.octets)
