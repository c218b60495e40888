-- What a session that begins refuses depends neither on its hosts nor on what they speak.
use Rattle.std.proofs.Common.{◌≡◌, ℕ, Option, Some, None, refl, sym, ◌∙◌}
use Rattle.gate_base.specs.declared.event.Pair.{Pair}
use Rattle.verdicts.specs.declared.refusal.Refusal.{Refusal}
use Rattle.gate_base.specs.declared.host.Host.TheVariants.{Client}
use Rattle.stream_model.specs.Prelude.{Segment}
use Rattle.gate_model.specs.Prelude.{Lists, lists_at}
use Rattle.audit_sessions.specs.Heard.{heard_rules}

abbrev pub verdict_by : (port : ℕ) (p : Pair) (initial mss : ℕ) (g : Segment) → Option Lists → Pair → Option Refusal
verdict_by port p initial mss g lists pair =
    heard_rules.refusal Client
    (record {
      pair = pair;
      lists = lists;
      client = (heard_rules.made port p initial mss).client;
      server =
          (heard_rules.made port p initial mss).server;
    }) g

by_lists : (port : ℕ) (p q : Pair) (initial mss : ℕ) (g : Segment) (lists : Option Lists)
    → verdict_by port p initial mss g None p ≡ verdict_by port p initial mss g lists q
by_lists port p q initial mss g None = refl
by_lists port p q initial mss g (Some lists) = refl

-- that of lines
pub lines_verdict : (port : ℕ) (p : Pair) (initial mss : ℕ) (g : Segment)
    → verdict_by port p initial mss g None p ≡ heard_rules.refusal Client (heard_rules.made port p initial mss) g
lines_verdict port p initial mss g = by_lists port p p initial mss g (lists_at port)

pub fresh_verdict : (port : ℕ) (p q : Pair) (initial mss : ℕ) (g : Segment)
    → heard_rules.refusal Client (heard_rules.made port p initial mss) g ≡ heard_rules.refusal Client (heard_rules.made port q initial mss) g
fresh_verdict port p q initial mss g = sym (lines_verdict port p initial mss g) ∙ by_lists port p q initial mss g (lists_at port)
