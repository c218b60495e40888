-- What is asked of a representation of sessions.
use Rattle.std.specs.Prelude.{◌≤◌, length, Option}
use Rattle.gate_base.specs.declared.address.Addr.{Addr}
use Rattle.gate_base.specs.declared.host.Host.{Host}
use Rattle.stream_model.specs.Prelude.{Segment}
use Rattle.gate_model.specs.Rules.{SessionRules}

-- something goes out of each segment
abbrev pub Answers : {S : Type 0} → SessionRules S → Type 0
Answers {S = S} rules = (image : Addr → Option Addr) (from : Host) (s : S) (g : Segment) → 1 ≤ length (rules.out image from s g)
