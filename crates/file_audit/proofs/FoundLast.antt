-- What is found behind the last event.
use Rattle.std.proofs.Common.{◌≡◌, ◌<◌, ◌+◌, ◌^◌, ℕ, List, [], ◌++◌, true, false, Some, None, Ok, IfSome, length, refl, sym, ap, subst, ◌∙◌, arith}
use Rattle.gate_settings.specs.declared.settings.ReportForm.{ReportForm}
use Rattle.gate_report.specs.Lines.{line_octets}
use Rattle.gate_desk.specs.declared.slot.Slot.{Slot}
use Rattle.gate_desk.specs.declared.slot.Slot.TheVariants.{LeftGiven, RightGiven, ReportGiven}
use Rattle.gate_desk.specs.Outside.{Outside, Trace, Takes, told_at}
use Rattle.gate_desk.specs.Slots.{same_slot}
use Rattle.gate_desk.proofs.Laws.{told_at-took_other}
use Rattle.gate_report.specs.Counts.{done_line}
use Rattle.gate_report.specs.declared.line.Line.{Line}
use Rattle.gate_report.specs.declared.totals.Totals.{Totals}
use Rattle.gate_settings.specs.declared.settings.Settings.{Settings}
use Rattle.pcap_files.specs.Prelude.{Whole, records_from, Reading}
use Rattle.pcap_merge.specs.Prelude.{Done}
use Rattle.lawful_files.specs.declared.reason.AuditReason.TheVariants as reasons
use Rattle.lawful_files.specs.Prelude.{Given, State, IsAtLast, last_line, IsFirst}
use Rattle.file_audit.specs.declared.given.GivenFiles.{GivenFiles}
use Rattle.file_audit.specs.Given.{Fits, given_told}
use Rattle.file_audit.specs.Inside.Lines.{IsLast}
use Rattle.file_audit.specs.Inside.Records.{FindsEnd, TakesSome}
use Rattle.gate_report.proofs.Lines.{last_short}

-- nothing is left of a capture
abbrev pub IsUsedUp : Reading → List ℕ → Type 0
IsUsedUp r octets = records_from r.form r.place octets ≡ record { packets = []; ending = Whole }

-- the last line, by what was counted
pub last_is : (settings : Settings) (form : ReportForm) (s : State) (line : Line) → form ≡ settings.report → line ≡ done_line s.totals s.world.pending
    → line_octets form line ≡ last_line settings s
last_is settings form s line is e = ap (λ (j : ReportForm). line_octets j line) is ∙ ap (line_octets settings.report) e

abbrev Left : Settings → State → ℕ → Given → Type 0
Left settings s number g = IsFirst settings s [] Done g number reasons.Left

pub left_over : (settings : Settings) (s : State) (r : GivenFiles) (number : ℕ) (t : Trace) → number ≡ s.totals.events + 1
    → IfSome (told_at t LeftGiven) (λ octets. IsUsedUp r.left octets → ⊥) → IfSome (given_told r t) (Left settings s number)
unfolding given_told told_at
left_over settings s r number None is h = tt
left_over settings s r number (Some p) is h = (is, refl, λ at. h at.left)

pub right_over : (settings : Settings) (s : State) (r : GivenFiles) (number : ℕ) (t : Trace) → number ≡ s.totals.events + 1
    → IfSome (told_at t RightGiven) (λ octets. IsUsedUp r.right octets → ⊥) → IfSome (given_told r t) (Left settings s number)
unfolding given_told told_at
right_over settings s r number None is h = tt
right_over settings s r number (Some p) is h = (is, refl, λ at. h at.right)

pub report_over : (settings : Settings) (form : ReportForm) (line : Line) (s : State) (r : GivenFiles) (number : ℕ) (t : Trace)
    → number ≡ s.totals.events + 1 → line_octets form line ≡ last_line settings s
    → IfSome (told_at t ReportGiven) (λ all. IsLast false form line (r.report ++ all)) → IfSome (given_told r t) (Left settings s number)
unfolding given_told told_at
report_over settings form line s r number None is e h = tt
report_over settings form line s r number (Some p) is e h = (is, refl, λ at. h (at.report ∙ sym e))

pub nothing_left : (settings : Settings) (form : ReportForm) (line : Line) (s : State) (r : GivenFiles) (t : Trace)
    → line_octets form line ≡ last_line settings s → IfSome (told_at t LeftGiven) (IsUsedUp r.left) → IfSome (told_at t RightGiven) (IsUsedUp r.right)
    → IfSome (told_at t ReportGiven) (λ all. IsLast true form line (r.report ++ all)) → IfSome (given_told r t) (IsAtLast settings s)
unfolding given_told told_at
nothing_left settings form line s r None e left right report = tt
nothing_left settings form line s r (Some p) e left right report = record { left = left; right = right; report = report ∙ e }

pub done_short : (form : ReportForm) (line : Line) (totals : Totals) (pending : ℕ) (r : GivenFiles) → line ≡ done_line totals pending
    → totals.events < 2 ^ 42 → Fits totals r → pending < 2 ^ 64 → length (line_octets form line) < 256
done_short form line totals pending r e few fits small = subst (λ (l : Line). length (line_octets form l) < 256) (sym e)
    (omega (
      arith,
      last_short form totals pending (record {
        events = omega (arith, few);
        passed = omega (arith, few, fits.passed);
        refused = omega (arith, few, fits.refused);
        to_left = omega (arith, fits.left, fits.left_place);
        to_right = omega (arith, fits.right, fits.right_place);
      }) small,
    ))

-- what is read of one slot leaves the others
pub beside : (s t : Slot) (r : Reading) (old new : Outside) → r.slot ≡ s → same_slot s t ≡ false → TakesSome r old new
    → told_at new.left t ≡ told_at old.left t
beside s t r old new is apart h = ap (λ (o : Trace). told_at o t) (subst (λ (u : Slot). Takes u h.0 old new) is h.1).left
    ∙ told_at-took_other s t h.0 old.left apart

pub used_up : (s : Slot) (r : Reading) (old new : Outside) → r.slot ≡ s → FindsEnd (Ok true) r old new → IfSome (told_at old.left s) (IsUsedUp r)
used_up s r old new is h = subst (λ (u : Slot). IfSome (told_at old.left u) (IsUsedUp r)) is h.1

pub not_used_up : (s : Slot) (r : Reading) (old new : Outside) → r.slot ≡ s → FindsEnd (Ok false) r old new
    → IfSome (told_at old.left s) (λ octets. IsUsedUp r octets → ⊥)
not_used_up s r old new is h = subst (λ (u : Slot). IfSome (told_at old.left u) (λ octets. IsUsedUp r octets → ⊥)) is h.1
