-- A world without sessions, over which it is said what becomes of a datagram that no session takes.
use Rattle.std.specs.Prelude.{false, [], None}
use Rattle.gate_model.specs.Prelude.{SessionRules}

-- a session that knows nothing
abbrev pub PlainSession : Type 0
PlainSession = Unit {0}

abbrev pub plain_rules : SessionRules PlainSession
plain_rules = record {
  made = λ port pair sequence mss. tt;
  refusal = λ from x segment. None;
  units = λ from x segment. [];
  listed = λ host x. [];
  next = λ image from x segment. tt;
  out = λ image from x segment. [];
  ends = λ from x segment. false;
  inner = λ host x number. None;
  pending = λ x. 0;
}
