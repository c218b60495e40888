-- The given report, as far as it was read ahead.
use Rattle.std.proofs.Common.{◌≡◌, ◌<◌, ◌≤◌, ◌+◌, ◌-◌, ◌^◌, ℕ, Bool, true, false, nat_eq, List, ◌++◌, length, take, drop, Option, Some, None, IfSome, refl, sym, ap, subst, ◌∙◌, arith, append_assoc, length-take, eq-eqb, eqb-true, true≢false, take_all, drop_at, take-append-drop}
use Rattle.std.proofs.Math.Seq.{take-append-add}
use Rattle.gate_settings.specs.declared.settings.ReportForm.{ReportForm}
use Rattle.gate_desk.specs.Outside.{Outside, Takes, TakesFewer, told_at}
use Rattle.gate_desk.specs.declared.slot.Slot.TheVariants.{ReportGiven}
use Rattle.gate_report.specs.Lines.{line_octets}
use Rattle.gate_report.specs.declared.line.Line.{Line}
use Rattle.gate_report.proofs.Lines.{line_short}
use Rattle.file_audit.specs.declared.line.Extent.{Extent}
use Rattle.file_audit.specs.declared.line.LineFound.{LineFound}
use Rattle.file_audit.specs.declared.line.LineHead.{LineHead}
use Rattle.file_audit.specs.Inside.Given.{Fills}
use Rattle.file_audit.specs.Inside.Stops.{FailsAt}
use Rattle.run_setup.specs.declared.status.Status.{Status}
use Rattle.run_setup.specs.declared.status.Status.TheVariants.{ReadFault}
use Rattle.file_audit.specs.Inside.Lines.{agreement, line_with, FindsLine, HasNoLine, IsLast, StopsLine, TakesFrames, TakesReport}
use Rattle.file_audit.proofs.FoundLines.{whole}

-- ## Octets that were read ahead

first-of : (ahead octets : List ℕ) (wanted : ℕ) (o : Option (List ℕ)) → length ahead + wanted ≡ 256 → IfSome o (λ all. octets ≡ take wanted all)
    → IfSome o (λ all. ahead ++ octets ≡ take 256 (ahead ++ all))
first-of ahead octets wanted None full e = tt
first-of ahead octets wanted (Some all) full e = ap (λ (xs : List ℕ). ahead ++ xs) e ∙ sym (take-append-add ahead all wanted)
    ∙ ap (λ (n : ℕ). take n (ahead ++ all)) full

taken_front : (octets all : List ℕ) (wanted : ℕ) → octets ≡ take wanted all → octets ++ drop (length octets) all ≡ all
taken_front octets all wanted e =
    let parts : take wanted all ++ drop wanted all ≡ all = take-append-drop wanted all in
    let behind : drop (length octets) all ≡ drop wanted all =
    ap (drop (length octets)) (sym parts ∙ ap (λ (xs : List ℕ). xs ++ drop wanted all) (sym e))
    ∙ drop_at octets (drop wanted all) (length octets) refl in
    ap (λ (xs : List ℕ). octets ++ xs) behind ∙ ap (λ (xs : List ℕ). xs ++ drop wanted all) e ∙ parts

whole-of : (ahead octets : List ℕ) (count wanted : ℕ) (o : Option (List ℕ)) → length octets ≡ count → IfSome o (λ all. octets ≡ take wanted all)
    → IfSome o (λ all. (ahead ++ octets) ++ drop count all ≡ ahead ++ all)
whole-of ahead octets count wanted None size e = tt
whole-of ahead octets count wanted (Some all) size e =
    append_assoc ahead octets (drop count all) ∙ ap (λ (n : ℕ). ahead ++ (octets ++ drop n all)) (sym size)
    ∙ ap (λ (xs : List ℕ). ahead ++ xs) (taken_front octets all wanted e)

pub fills : (ahead octets ahead' : List ℕ) (count wanted : ℕ) (old new : Outside) → ahead' ≡ ahead ++ octets → length octets ≡ count
    → length ahead + wanted ≡ 256 → Takes ReportGiven count old new → IfSome (told_at old.left ReportGiven) (λ all. octets ≡ take wanted all)
    → Fills ahead ahead' old new
fills ahead octets ahead' count wanted old new is size full takes next = subst (λ (xs : List ℕ). Fills ahead xs old new) (sym is) (record {
  count = count;
  takes = takes;
  first = first-of ahead octets wanted (told_at old.left ReportGiven) full next;
  whole = whole-of ahead octets count wanted (told_at old.left ReportGiven) size next;
})

-- ## A line that is taken

frames-of : (ahead ahead' line : List ℕ) (count n : ℕ) (o : Option (List ℕ)) → take n ahead' ≡ line
    → IfSome o (λ all. ahead' ++ drop count all ≡ ahead ++ all) → IfSome o (λ all. ahead ++ all ≡ line ++ (drop n ahead' ++ drop count all))
frames-of ahead ahead' line count n None e h = tt
frames-of ahead ahead' line count n (Some all) e h =
    sym h ∙ ap (λ (xs : List ℕ). xs ++ drop count all) (sym (take-append-drop n ahead') ∙ ap (λ (xs : List ℕ). xs ++ drop n ahead') e)
    ∙ append_assoc line (drop n ahead') (drop count all)

pub takes_frames : (found : LineFound) (form : ReportForm) (h : LineHead) (ahead mid ahead' : List ℕ) (old new : Outside) → Fills ahead mid old new
    → FindsLine (Some found) form h mid → ahead' ≡ drop found.length mid → TakesFrames found.frames form h ahead ahead' old new
takes_frames found form h ahead mid ahead' old new filled line is =
    subst (λ (xs : List ℕ). TakesFrames found.frames form h ahead xs old new) (sym is) (record {
      few = line.0;
      count = filled.count;
      takes = filled.takes;
      goes = frames-of ahead mid (line_octets form (line_with h found.frames)) filled.count found.length
          (told_at old.left ReportGiven) line.2 filled.whole;
    })

-- ## No line

no_line-of : (ahead mid : List ℕ) (form : ReportForm) (h : LineHead) (o : Option (List ℕ)) → h.number < 2 ^ 64 → h.moment.0 < 2 ^ 64
    → HasNoLine form h mid → IfSome o (λ all. mid ≡ take 256 (ahead ++ all)) → IfSome o (λ all. HasNoLine form h (ahead ++ all))
no_line-of ahead mid form h None a b none e = tt
no_line-of ahead mid form h (Some all) a b none e = λ frames rest small goes.
    let line = line_octets form (line_with h frames) in
    let short = line_short form h.number h.side h.moment.0 h.verdict frames a b small in
    let room : length line + (256 - length line) ≡ 256 = omega (arith, short) in
    none frames (take (256 - length line) rest) small
    (e ∙ ap (take 256) goes ∙ ap (λ (n : ℕ). take n (line ++ rest)) (let back : 256 ≡ length line + (256 - length line) = omega (arith, room) in back)
    ∙ take-append-add line rest (256 - length line))

pub takes_none : (form : ReportForm) (h : LineHead) (ahead mid : List ℕ) (old new : Outside) → h.number < 2 ^ 64 → h.moment.0 < 2 ^ 64
    → Fills ahead mid old new → HasNoLine form h mid → IfSome (told_at old.left ReportGiven) (λ all. HasNoLine form h (ahead ++ all))
takes_none form h ahead mid old new a b filled none = no_line-of ahead mid form h (told_at old.left ReportGiven) a b none filled.first

-- ## The last line

-- octets that agree with all of a line are it where they are as many
pub is_it : (found : Extent) (form : ReportForm) (line : Line) (octets : List ℕ) (b : Bool) → found ≡ agreement (line_octets form line) octets
    → found.whole ≡ true → nat_eq found.count (length octets) ≡ b → IsLast b form line octets
is_it found form line octets true e w same =
    let all = whole found (line_octets form line) octets e w in
    let size : found.count ≡ length octets = eqb-true found.count (length octets) same in
    sym (take_all found.count octets (omega (arith, size))) ∙ all.1
is_it found form line octets false e w other = λ same.
    let all = whole found (line_octets form line) octets e w in
    let size : found.count ≡ length octets = all.0 ∙ ap (λ (xs : List ℕ). length xs) (sym same) in
    true≢false (sym (eq-eqb found.count (length octets) size) ∙ other)

last-of : (answer : Bool) (form : ReportForm) (line : Line) (ahead mid : List ℕ) (o : Option (List ℕ)) → length (line_octets form line) < 256
    → IsLast answer form line mid → IfSome o (λ all. mid ≡ take 256 (ahead ++ all)) → IfSome o (λ all. IsLast answer form line (ahead ++ all))
last-of answer form line ahead mid None short h e = tt
last-of true form line ahead mid (Some all) short h e =
    let few : length (take 256 (ahead ++ all)) < 256 = omega (arith, short, ap (λ (xs : List ℕ). length xs) (sym e ∙ h)) in
    let size : length (ahead ++ all) ≤ 256 = omega (arith, few, length-take 256 (ahead ++ all)) in
    sym (take_all 256 (ahead ++ all) size) ∙ sym e ∙ h
last-of false form line ahead mid (Some all) short h e = λ same.
    h (e ∙ ap (take 256) same ∙ take_all 256 (line_octets form line) (omega (arith, short)))

pub takes_last : (answer : Bool) (form : ReportForm) (line : Line) (ahead mid : List ℕ) (old new : Outside) → length (line_octets form line) < 256
    → Fills ahead mid old new → IsLast answer form line mid → IfSome (told_at old.left ReportGiven) (λ all. IsLast answer form line (ahead ++ all))
takes_last answer form line ahead mid old new short filled h = last-of answer form line ahead mid (told_at old.left ReportGiven) short h filled.first

-- ## A read that failed

pub fewer_of : {old new : Outside} → TakesFewer ReportGiven 256 old new → TakesReport old new
fewer_of h = (h.0, h.2)

pub stops_at_report : (stop : Status) (form : ReportForm) (old new : Outside) → FailsAt stop ReportGiven old new → StopsLine stop form old new
stops_at_report (ReadFault slot) form old new h = h
stops_at_report stop form old new h = absurd h
