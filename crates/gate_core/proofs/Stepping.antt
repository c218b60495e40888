-- An event, by its first test that holds.
use Rattle.std.proofs.Common.{◌≡◌, ℕ, List, Option, Some, None, refl, ap, subst, ◌∙◌}
use Rattle.gate_base.specs.Prelude.{Event}
use Rattle.verdicts.specs.Prelude.{first_that_holds}
use Rattle.verdicts.specs.declared.refusal.Refusal.{Refusal}
use Rattle.gate_base.specs.declared.side.Side.{Side}
use Rattle.ipv4_frames.specs.Ipv4.{Datagram}
use Rattle.gate_model.specs.Prelude.{Whole, Kind, Stream, World, at_moment, datagram_in, kind_of, next, next_by, out, out_by, out_kind, tests, verdict_of}
use Rattle.gate_model.specs.Verdict.{verdict}
use Rattle.gate_sessions.specs.Compact.{CompactSession, compact_rules}
use Rattle.event_state.specs.Given.{IsGiven, given_by, refusal_of}
use Rattle.event_state.specs.declared.taken.Taken.{Taken}
use Rattle.event_state.specs.declared.taken.Taken.TheVariants as takes
use Rattle.gate_sessions.specs.Gives.{gate_tells, kept_gives}
use Rattle.event_segments.specs.Prelude.{IsPassed, told_by, told_kind}
use Rattle.event_segments.proofs.Stepping.{left_next}

kind_out : (live : World CompactSession) (side : Side) (d : Datagram) (kind : Kind)
    → told_kind compact_rules gate_tells live side d kind ≡ out_kind compact_rules live side live.clock d kind
kind_out live side d (Whole payload) = refl
kind_out live side d Stream = refl

sent_out : (live : World CompactSession) (e : Event) (r : Option Refusal) → live.clock ≡ e.moment
    → told_by gate_tells r (told_kind compact_rules gate_tells live e.side (datagram_in e) (kind_of (datagram_in e))) ≡ out_by compact_rules live e
    (verdict_of r)
sent_out live e None m = kind_out live e.side (datagram_in e) (kind_of (datagram_in e))
    ∙ ap (λ moment. out_kind compact_rules live e.side moment (datagram_in e) (kind_of (datagram_in e))) m
sent_out live e (Some r) m = refl

-- what is asked of an event
pub record IsStepped (w : World CompactSession) (e : Event) (r : Option Refusal) (after : World CompactSession) (sent : List (List ℕ)) : Type 0 where
  pub verdict_is : verdict_of r ≡ verdict compact_rules w e
  pub next_is : after ≡ next compact_rules w e
  pub out_is : sent ≡ out compact_rules w e

pub stepped : (w : World CompactSession) (e : Event) (r : Option Refusal) (after : World CompactSession) (sent : List (List ℕ))
    → IsPassed compact_rules gate_tells (first_that_holds (tests compact_rules (at_moment w e.moment) e)) (kind_of (datagram_in e))
    (at_moment w e.moment) e.side (datagram_in e) r after sent → IsStepped w e r after sent
unfolding verdict
stepped w e r after sent h = record {
  verdict_is = ap verdict_of h.answer;
  next_is = h.left ∙ left_next compact_rules (at_moment w e.moment) e r refl
      ∙ ap (λ (o : Option Refusal). next_by compact_rules (at_moment w e.moment) e (verdict_of o)) h.answer;
  out_is = h.gone ∙ sent_out (at_moment w e.moment) e r refl
      ∙ ap (λ (o : Option Refusal). out_by compact_rules (at_moment w e.moment) e (verdict_of o)) h.answer;
}

-- what is given of it is what was put
pub put_is : {P : Type 0} (taken : Taken P) (sent : List (List ℕ)) → given_by kept_gives taken sent ≡ sent
put_is (takes.Refused refusal) sent = refl
put_is takes.Whole sent = refl
put_is (takes.Cut x) sent = refl

-- the same of a datagram that was taken by what lives at the event's moment
pub stepped_by : {P : Type 0} (w live after : World CompactSession) (e : Event) (taken : Taken P) (sent : List (List ℕ)) → live ≡ at_moment w e.moment
    → IsGiven compact_rules kept_gives (first_that_holds (tests compact_rules live e)) (kind_of (datagram_in e)) live e.side (datagram_in e) taken
    after sent → IsStepped w e (refusal_of taken) after (given_by kept_gives taken sent)
stepped_by w live after e taken sent same h =
    stepped w e (refusal_of taken) after (given_by kept_gives taken sent)
    (subst (λ (x : World CompactSession). IsGiven compact_rules kept_gives (first_that_holds (tests compact_rules x e)) (kind_of (datagram_in e)) x
    e.side (datagram_in e) taken after sent) same h)
