-- A run over a workload in memory.
use Rattle.std.proofs.Common.{◌≡◌, ◌⊎◌, inl, inr, ℕ, List, [], ◌∷◌, ◌≤◌, Result, Ok, Err, MatchResult, refl, sym, ap, subst, ◌∙◌, arith}
use Rattle.std.proofs.lemmas.Bool.{false≢true}
use Rattle.gate_desk.specs.declared.slot.Slot.{Slot}
use Rattle.gate_desk.specs.declared.slot.Slot.TheVariants.{Report}
use Rattle.gate_desk.specs.declared.slot.PerSlot.{PerSlot}
use Rattle.gate_desk.specs.Discarded.{told_by}
use Rattle.gate_desk.specs.Outside.{Outside, Trace, FailsToStart, HasFailed, HasFailedToStart}
use Rattle.gate_desk.proofs.Laws.{at-each, grows_on, grows_fails_to_start, none_failed_on, failed_since}
use Rattle.gate_desk.specs.Slots.{inputs}
use Rattle.gate_report.specs.declared.line.Line.{Line}
use Rattle.gate_settings.specs.declared.settings.ReportForm.TheVariants.{Text}
use Rattle.gate_workload.specs.declared.workload.Workload.{Workload}
use Rattle.gate_workload.specs.Workloads.{workload}
use Rattle.run_setup.specs.declared.status.Status.{Status}
use Rattle.run_setup.specs.declared.status.Status.TheVariants.{Done, SettingsRefused, CaptureRefused, ReadFault, WriteFault, OpenFault, OutOfMemory}
use Rattle.run_setup.specs.Prelude.{StartsAll}
use Rattle.run_setup.specs.RunNames.{Names, make_starts}
use Rattle.gateway.specs.Prelude.{WritesReportLine, wrote_pieces, WritesAll, IsFront, workload_in, IsLineOf, IsMake, Runs}
use Rattle.gateway.specs.Making.{made_piece}
use Rattle.gateway.proofs.Accepted.{never_refused, never_faulty}

-- no count of a desk that discards rises
never_failed : (s : Slot) (l k : PerSlot (List ℕ)) → HasFailed s (told_by l) (told_by k) → ⊥
never_failed s l k h = omega (arith, h, at-each {A = ℕ} 0 s)

never_failed_to_start : (s : Slot) (l k : PerSlot (List ℕ)) → HasFailedToStart s (told_by l) (told_by k) → ⊥
never_failed_to_start s l k h = omega (arith, h, at-each {A = ℕ} 0 s)

-- the run over the workload is done
rehearsed : (line : Line) (names : Names) (number count : ℕ) (k : PerSlot (List ℕ))
    → Runs (Ok line) names (told_by (workload_in number count)) (told_by k) → IsLineOf line number count
rehearsed line names number count k h = record { settings = h.1.0; accepted = h.1.1; ended = h.0.ends.cause.0.2; line_is = h.1.2 }

-- or memory was wanting
not_rehearsed : (e : Status) (names : Names) (number count : ℕ) (k : PerSlot (List ℕ)) → count ≤ 100000
    → Runs (Err e) names (told_by (workload_in number count)) (told_by k) → e ≡ OutOfMemory
not_rehearsed Done names number count k few h = absurd h
not_rehearsed (SettingsRefused f) names number count k few h = absurd (never_refused f h.ends.cause.0)
not_rehearsed (CaptureRefused side f place) names number count k few h = absurd (never_faulty number count side f place few h.ends.cause.0.2)
not_rehearsed (ReadFault s) names number count k few h = absurd (never_failed s (workload_in number count) k h.ends.cause.1)
not_rehearsed (WriteFault s) names number count k few h = absurd (never_failed s (workload_in number count) k h.ends.cause.1)
not_rehearsed (OpenFault s) names number count k few h = absurd (never_failed_to_start s (workload_in number count) k h.ends.cause.1)
not_rehearsed OutOfMemory names number count k few h = refl
not_rehearsed e names number count k few h = absurd h.ends.cause

-- the desk holds the workload
pub holds_workload : (number count : ℕ) (made : Workload) (desk : PerSlot (List ℕ)) (settings left right : List ℕ) → made ≡ workload number count
    → desk ≡ inputs settings left right → settings ≡ made.settings → left ≡ made.left → right ≡ made.right → desk ≡ workload_in number count
holds_workload number count made desk settings left right is holds a b c =
    holds ∙ ap (λ xs. inputs xs left right) a ∙ ap (λ xs. inputs made.settings xs right) b ∙ ap (λ xs. inputs made.settings made.left xs) c
    ∙ ap (λ (w : Workload). inputs w.settings w.left w.right) is

-- the run over the workload is done, unless memory is wanting
pub rehearses : (r : Result Line Status) (names : Names) (number count : ℕ) (desk k : PerSlot (List ℕ)) → count ≤ 100000
    → desk ≡ workload_in number count
    → Runs r names (told_by desk) (told_by k) → MatchResult r (λ line. IsLineOf line number count) (λ status. status ≡ OutOfMemory)
rehearses (Ok line) names number count desk k few is h =
    rehearsed line names number count k (subst (λ (d : PerSlot (List ℕ)). Runs (Ok line) names (told_by d) (told_by k)) is h)
rehearses (Err e) names number count desk k few is h =
    not_rehearsed e names number count k few (subst (λ (d : PerSlot (List ℕ)). Runs (Err e) names (told_by d) (told_by k)) is h)

-- the report could not be started
pub not_opened : (number count : ℕ) (report : List ℕ) (a b : Outside) → FailsToStart Report a b → IsMake (OpenFault Report) number count report a b
not_opened number count report a b h = record { made = (h.cause, h.starts, h.written); left = h.left; grows = grows_fails_to_start Report a b h }

-- memory was wanting for the run over the workload
pub not_made : (e : Status) (number count : ℕ) (report : List ℕ) (a b : Outside) → e ≡ OutOfMemory → StartsAll (make_starts report) a b
    → IsMake e number count report a b
not_made e number count report a b is h =
    subst (λ (s : Status). IsMake s number count report a b) (sym is) (record { made = (h.starts, h.written); left = h.left; grows = h.grows })

-- the line was written
pub made : (line : Line) (number count : ℕ) (report : List ℕ) (a b c : Outside) → StartsAll (make_starts report) a b → IsLineOf line number count
    → WritesAll (made_piece line ∷ []) b c → IsMake Done number count report a c
made line number count report a b c h is k = record {
  made = (line, is, k.only.starts ∙ h.starts, k.written ∙ ap (wrote_pieces (made_piece line ∷ [])) h.written, none_failed_on a b c h.counts k.counts);
  left = k.only.left ∙ h.left;
  grows = grows_on a b c h.grows k.only.grows;
}

-- or it wasn't, for which memory is never the reason
pub not_written : (e : Status) (line : Line) (number count : ℕ) (report : List ℕ) (a b c : Outside) → StartsAll (make_starts report) a b
    → IsLineOf line number count
    → (e ≡ OutOfMemory) ⊎ (e ≡ WriteFault Report) → WritesReportLine (Err e) Text (made_piece line ∷ []) b c → IsMake e number count report a c
not_written e line number count report a b c h is (inl same) k =
    let wanted = subst (λ (s : Status). WritesReportLine (Err s) Text (made_piece line ∷ []) b c) same k in
    absurd (false≢true wanted.0)
not_written e line number count report a b c h is (inr same) k =
    let failed = subst (λ (s : Status). WritesReportLine (Err s) Text (made_piece line ∷ []) b c) same k in
    subst (λ (s : Status). IsMake s number count report a c) (sym same) (record {
      made = (
        failed_since Report a b c h.grows failed.0.1,
        line,
        is,
        failed.1.only.starts ∙ h.starts,
        subst (λ (t : Trace). IsFront (made_piece line ∷ []) t c.written) h.written failed.1.front,
      );
      left = failed.1.only.left ∙ h.left;
      grows = grows_on a b c h.grows failed.1.only.grows;
    })
