-- An event that is expected, by its first test that holds.
use Rattle.std.proofs.Common.{◌≡◌, Option, Some, None, List, ℕ, refl, sym, ap, ◌∙◌}
use Rattle.gate_base.specs.Prelude.{Event}
use Rattle.verdicts.specs.Prelude.{first_that_holds}
use Rattle.verdicts.specs.declared.refusal.Refusal.{Refusal}
use Rattle.gate_base.specs.declared.side.Side.{Side}
use Rattle.ipv4_frames.specs.Ipv4.{Datagram}
use Rattle.gate_model.specs.Prelude.{Whole, Kind, Stream, datagram_in, kind_of, world_as, whole_rules, next, next_by, tests, verdict_of, World, at_moment}
use Rattle.gate_model.specs.Verdict.{verdict}
use Rattle.gate_model.proofs.ReadWorlds.{verdict_as}
use Rattle.gate_model.proofs.ReadSteps.{next_as}
use Rattle.lawful_files.specs.Prelude.{wanted}
use Rattle.lawful_files.specs.Wanted.{wanted_kind, wanted_by, wanted_in}
use Rattle.lawful_files.proofs.ReadWanted.{wanted_as}
use Rattle.audit_sessions.specs.Heard.{HeardSession, heard_rules, heard_sent, session_in}
use Rattle.audit_sessions.proofs.HeardLaws.{reads_whole}
use Rattle.event_segments.specs.Prelude.{told_by, told_kind}
use Rattle.event_segments.proofs.Stepping.{left_next}
use Rattle.audit_records.specs.Cutting.{Cutting}
use Rattle.audit_sessions.specs.Gives.{audit_tells, heard_gives}
use Rattle.event_state.specs.Given.{refusal_of, given_by, IsGiven}
use Rattle.event_state.specs.declared.taken.Taken.{Taken}

kind_wanted : (live : World HeardSession) (side : Side) (d : Datagram) (kind : Kind)
    → told_kind heard_rules audit_tells live side d kind ≡ wanted_kind heard_rules heard_sent live side live.clock d kind
kind_wanted live side d (Whole payload) = refl
kind_wanted live side d Stream = refl

event_wanted : (live : World HeardSession) (e : Event) (r : Option Refusal) → live.clock ≡ e.moment
    → told_by audit_tells r (told_kind heard_rules audit_tells live e.side (datagram_in e) (kind_of (datagram_in e)))
    ≡ wanted_by heard_rules heard_sent live e (verdict_of r)
event_wanted live e None m = kind_wanted live e.side (datagram_in e) (kind_of (datagram_in e))
    ∙ ap (λ moment. wanted_kind heard_rules heard_sent live e.side moment (datagram_in e) (kind_of (datagram_in e))) m
event_wanted live e (Some r) m = refl

-- what is asked of an event, over whole lists
pub record IsExpected (w : World HeardSession) (e : Event) (taken : Taken Cutting) (after : World HeardSession) (sent : List (List ℕ)) : Type 0 where
  pub verdict_is : verdict_of (refusal_of taken) ≡ verdict whole_rules (world_as session_in w) e
  pub kept_is : after ≡ next heard_rules w e
  pub next_is : world_as session_in after ≡ next whole_rules (world_as session_in w) e
  pub wanted_is : given_by heard_gives taken sent ≡ wanted (world_as session_in w) e

pub expected : (w : World HeardSession) (e : Event) (taken : Taken Cutting) (after : World HeardSession) (sent : List (List ℕ))
    → IsGiven heard_rules heard_gives (first_that_holds (tests heard_rules (at_moment w e.moment) e)) (kind_of (datagram_in e)) (at_moment w e.moment)
    e.side (datagram_in e) taken after sent → IsExpected w e taken after sent
unfolding verdict
expected w e taken after sent h =
    let live = at_moment w e.moment in
    let answer : verdict_of (refusal_of taken) ≡ verdict heard_rules w e = ap verdict_of h.answer in
    let left : after ≡ next heard_rules w e = h.left ∙ left_next heard_rules live e (refusal_of taken) refl
    ∙ ap (next_by heard_rules live e) answer in
    let gone : given_by heard_gives taken sent ≡ wanted_in heard_rules heard_sent w e = h.gone ∙ event_wanted live e (refusal_of taken) refl
    ∙ ap (wanted_by heard_rules heard_sent live e) answer in
    record {
      verdict_is = answer ∙ sym (verdict_as session_in heard_rules whole_rules reads_whole w e);
      kept_is = left;
      next_is = ap (world_as session_in) left ∙ sym (next_as session_in heard_rules whole_rules reads_whole w e);
      wanted_is = gone ∙ sym (wanted_as session_in heard_rules heard_sent reads_whole (λ image f h g n. refl) w e);
    }
