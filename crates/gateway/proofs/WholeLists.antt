-- What is kept of sessions gives what the sessions over whole lists give.
use Rattle.std.proofs.Common.{◌≡◌, ℕ, ◌+◌, List, [], ◌∷◌, ◌++◌, length, refl, ap, ◌∙◌}
use Rattle.gate_base.specs.Prelude.{Event, other}
use Rattle.frag_join.specs.Prelude.{Arrival, Reaches, Stopped}
use Rattle.verdicts.specs.declared.verdict.Verdict.{Verdict}
use Rattle.gate_settings.specs.declared.settings.Settings.{Settings as GateSettings}
use Rattle.pcap_merge.specs.Prelude.{Ending, Done, Fault}
use Rattle.gate_model.specs.Prelude.{AreRelated, whole_rules, WholeSession, out, verdict}
use Rattle.gate_model.proofs.Related.{related_verdict, related_out, related_next, opening_related}
use Rattle.gate_sessions.specs.Compact.{CompactSession, compact_rules, StandsFor}
use Rattle.gate_sessions.proofs.Agreed.{agreed, pending_related}
use Rattle.gate_report.specs.declared.line.Line.{Line}
use Rattle.gate_report.specs.declared.totals.Totals.{Totals}
use Rattle.gateway.specs.Prelude.{Piece, State, opening, after_one, after, sent, event_piece, frames_of, given_by, ended_by, line_piece, line_after}
use Rattle.gate_report.specs.Counts.{counted, done_line}

-- the world of what is kept stands for the other, and both are counted alike
pub record AreAlike (v : State CompactSession) (w : State WholeSession) : Type 0 where
  pub related : AreRelated StandsFor w.world v.world
  pub totals : v.totals ≡ w.totals

same_verdict : (v : State CompactSession) (w : State WholeSession) (e : Event) → AreAlike v w
    → verdict compact_rules v.world e ≡ verdict whole_rules w.world e
same_verdict v w e h = related_verdict StandsFor whole_rules compact_rules agreed w.world v.world h.related e

same_out : (v : State CompactSession) (w : State WholeSession) (e : Event) → AreAlike v w → out compact_rules v.world e ≡ out whole_rules w.world e
same_out v w e h = related_out StandsFor whole_rules compact_rules agreed w.world v.world h.related e

alike_one : (v : State CompactSession) (w : State WholeSession) (a : Arrival) → AreAlike v w
    → AreAlike (after_one compact_rules v a) (after_one whole_rules w a)
alike_one v w (Reaches e) h = record {
  related = related_next StandsFor whole_rules compact_rules agreed w.world v.world h.related e;
  totals =
      ap (λ (t : Totals). counted t e.side (verdict compact_rules v.world e) (length (out compact_rules v.world e))) h.totals
      ∙ ap (λ (x : Verdict). counted w.totals e.side x (length (out compact_rules v.world e))) (same_verdict v w e h)
      ∙ ap (λ (xs : List (List ℕ)). counted w.totals e.side (verdict whole_rules w.world e) (length xs)) (same_out v w e h);
}
alike_one v w (Stopped e verdict) h = record { related = h.related; totals = ap (λ (t : Totals). counted t e.side verdict 0) h.totals }

alike_all : (arrivals : List Arrival) (v : State CompactSession) (w : State WholeSession) → AreAlike v w
    → AreAlike (after compact_rules v arrivals) (after whole_rules w arrivals)
alike_all [] v w h = h
alike_all (a ∷ arrivals) v w h = alike_all arrivals (after_one compact_rules v a) (after_one whole_rules w a) (alike_one v w a h)

-- after any frames
pub alike_after : (settings : GateSettings) (arrivals : List Arrival)
    → AreAlike (after compact_rules (opening settings) arrivals) (after whole_rules (opening settings) arrivals)
alike_after settings arrivals =
    alike_all arrivals (opening settings) (opening settings) (record { related = opening_related StandsFor settings; totals = refl })

pub same_given : (settings : GateSettings) (v : State CompactSession) (w : State WholeSession) (a : Arrival) → AreAlike v w
    → given_by compact_rules settings v a ≡ given_by whole_rules settings w a
same_given settings v w (Reaches e) h =
    let gives : Totals → Verdict → List (List ℕ) → List Piece =
    λ t x xs. sent settings (other e.side) e.moment xs ++ event_piece settings.report (t.events + 1) e.side e.moment x (length xs) ∷ [] in
    ap (λ (t : Totals). gives t (verdict compact_rules v.world e) (out compact_rules v.world e)) h.totals
    ∙ ap (λ (x : Verdict). gives w.totals x (out compact_rules v.world e)) (same_verdict v w e h)
    ∙ ap (gives w.totals (verdict whole_rules w.world e)) (same_out v w e h)
same_given settings v w (Stopped e verdict) h =
    ap (λ (t : Totals). event_piece settings.report (t.events + 1) e.side e.moment verdict 0 ∷ []) h.totals

pub same_frames : (settings : GateSettings) (v : State CompactSession) (w : State WholeSession) (a : Arrival) → AreAlike v w
    → frames_of compact_rules settings v a ≡ frames_of whole_rules settings w a
same_frames settings v w (Reaches e) h = ap (sent settings (other e.side) e.moment) (same_out v w e h)
same_frames settings v w (Stopped e verdict) h = refl

pub same_line : (v : State CompactSession) (w : State WholeSession) → AreAlike v w → done_line v.totals v.world.pending ≡ line_after w
same_line v w h = ap (λ (t : Totals). done_line t v.world.pending) h.totals ∙ ap (done_line w.totals) (pending_related w.world v.world h.related)

pub same_end : (settings : GateSettings) (v : State CompactSession) (w : State WholeSession) (ending : Ending) → AreAlike v w
    → ended_by settings v ending ≡ ended_by settings w ending
same_end settings v w Done h = ap (λ (l : Line). line_piece settings.report l ∷ []) (same_line v w h)
same_end settings v w (Fault side fault place) h = refl
