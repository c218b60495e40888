-- An event for which memory runs out.
use Rattle.std.proofs.Common.{ℕ, List}
use Rattle.gate_base.specs.Prelude.{Event}
use Rattle.verdicts.specs.Prelude.{first_that_holds}
use Rattle.gate_model.specs.Prelude.{World, at_moment, datagram_in, kind_of, whole_rules, world_as}
use Rattle.audit_sessions.specs.Gives.{heard_gives}
use Rattle.audit_sessions.specs.Heard.{HeardSession, heard_rules, session_in}
use Rattle.audit_sessions.proofs.HeardLaws.{reads_whole}
use Rattle.event_state.specs.Lost.{IsLost, early_tests}
use Rattle.event_state.proofs.ReadMemory.{memory_as}
use Rattle.gate_audit.specs.Memory.{AuditorMayWant}

pub wanted : (w : World HeardSession) (e : Event) (after : World HeardSession) (sent : List (List ℕ))
    → IsLost heard_rules heard_gives (first_that_holds (early_tests (at_moment w e.moment) e)) (kind_of (datagram_in e)) (at_moment w e.moment) e.side
    (datagram_in e) after sent → AuditorMayWant (at_moment (world_as session_in w) e.moment) e
wanted w e after sent h =
    memory_as session_in heard_rules whole_rules reads_whole (λ from s g. Unit {0}) (λ from x g. Unit {0}) (λ from s g none u. tt) w e
    (record { early = h.allowed; needs = h.wants })
