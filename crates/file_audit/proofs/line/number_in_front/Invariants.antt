use Rattle.std.proofs.Common.{◌≡◌, drop}
use Rattle.file_audit.specs.Inside.Lines.{number_after}
use Rattle.file_audit.proofs.line.number_in_front.Given as goal

abbrev pub invariant-loop-octet : goal.invariant-loop-octet
invariant-loop-octet l = number_after 0 l.octets ≡ number_after l.number (drop l.octet-index l.octets)
