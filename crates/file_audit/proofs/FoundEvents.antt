-- What is found at a frame, by what is taken for it.
use Rattle.std.proofs.Common.{◌≡◌, ◌<◌, ◌≤◌, ◌+◌, ◌^◌, ℕ, List, ◌++◌, true, false, inl, inr, Option, Some, None, IfSome, length, take, drop, fold, refl, sym, ap, subst, ◌∙◌, arith, length-append}
use Rattle.std.proofs.lemmas.List.{length-map, take_at}
use Rattle.audit_records.specs.Kept.{Expecting}
use Rattle.frag_join.specs.Prelude.{Arrival}
use Rattle.gate_base.specs.Prelude.{other}
use Rattle.verdicts.specs.declared.verdict.Verdict.{Verdict}
use Rattle.gate_base.specs.declared.side.Side.{Side}
use Rattle.gate_base.specs.declared.side.Side.TheVariants.{Left, Right}
use Rattle.gate_desk.specs.Outside.{Outside, Trace, told_at, took}
use Rattle.gate_desk.specs.declared.slot.Slot.TheVariants.{ReportGiven}
use Rattle.gate_report.specs.Counts.{counted}
use Rattle.gate_report.proofs.Counts.{few_passed, few_refused}
use Rattle.gate_report.specs.declared.totals.Totals.{Totals}
use Rattle.gate_report.specs.Lines.{line_octets, event_line}
use Rattle.gate_settings.specs.Prelude.{HaveMacAddresses}
use Rattle.gate_settings.specs.declared.settings.ReportForm.{ReportForm}
use Rattle.gate_settings.specs.declared.settings.Settings.{Settings}
use Rattle.pcap_files.specs.Prelude.{Packet, Records}
use Rattle.pcap_merge.specs.Prelude.{with_records}
use Rattle.lawful_files.specs.declared.reason.AuditReason.TheVariants as reasons
use Rattle.lawful_files.specs.Prelude.{Given, given_at, State, line_of, record_of, IsSound, behind, is_closed, event_in, verdict_of, wanted_of}
use Rattle.lawful_files.specs.Progress.{behind_all}
use Rattle.lawful_files.proofs.Judged.{not_lawful}
use Rattle.lawful_files.proofs.Progressed.{is_whole}
use Rattle.file_audit.specs.declared.given.GivenFiles.{GivenFiles}
use Rattle.file_audit.specs.declared.line.LineHead.{LineHead}
use Rattle.file_audit.specs.Inside.Events.{FoundLawful, IsExpecting, IsHead, IsLawfulWith, IsReasonAt, state_of}
use Rattle.file_audit.specs.Inside.Frames.{TookNext}
use Rattle.file_audit.specs.Given.{Fits, given_told}
use Rattle.file_audit.specs.Inside.Given.{Alike}
use Rattle.file_audit.specs.Inside.Lines.{HasNoLine, TakesFrames, line_with}
use Rattle.file_audit.specs.Inside.Records.{judged}
use Rattle.gate_audit.specs.Auditing.{Auditing, whole_world}
use Rattle.file_audit.proofs.Alikes.{alike_back, alike_join, alike_map, any}

-- ## The line

line_is : (settings : Settings) (form : ReportForm) (h : LineHead) (s : State) (x : Arrival) (n : ℕ) → form ≡ settings.report
    → IsHead h (s.totals.events + 1) s.world x
    → line_octets form (line_with h n) ≡ line_of settings s x n
line_is settings form h s x n is head =
    ap (λ (f : ReportForm). line_octets f (line_with h n)) is
    ∙ ap (λ (k : ℕ). line_octets settings.report (event_line k h.side h.moment.0 h.verdict n)) head.number_is
    ∙ ap (λ (k : Side). line_octets settings.report (event_line (s.totals.events + 1) k h.moment.0 h.verdict n)) head.side
    ∙ ap (λ (k : ℕ). line_octets settings.report (event_line (s.totals.events + 1) (event_in x).side k h.verdict n)) head.moment
    ∙ ap (λ (v : Verdict). line_octets settings.report (event_line (s.totals.events + 1) (event_in x).side (event_in x).moment v n)) head.verdict

none_told : (form : ReportForm) (h : LineHead) (r : GivenFiles) (t : Trace)
    → IfSome (told_at t ReportGiven) (λ all. HasNoLine form h (r.report ++ all)) → IfSome (given_told r t) (λ g. HasNoLine form h g.report)
unfolding given_told told_at
none_told form h r None k = tt
none_told form h r (Some p) k = k

reason_line : (settings : Settings) (form : ReportForm) (h : LineHead) (s : State) (x : Arrival) (o : Option Given) → form ≡ settings.report
    → IsHead h (s.totals.events + 1) s.world x → IfSome o (λ g. HasNoLine form h g.report)
    → IfSome o (λ g. IsReasonAt settings s x g h.number reasons.Line)
reason_line settings form h s x None is head k = tt
reason_line settings form h s x (Some g) is head k = λ arrivals ending.
    inl (
      head.number_is,
      refl,
      λ frames rest goes. k frames rest goes.0 (goes.1 ∙ ap (λ (xs : List ℕ). xs ++ rest) (sym (line_is settings form h s x frames is head))),
    )

pub found_line : (form : ReportForm) (h : LineHead) (totals : Totals) (a : Auditing) (s : State) (x : Arrival) (r : GivenFiles) (old : Outside)
    → form ≡ a.settings.report → IsExpecting h totals a s x → IfSome (told_at old.left ReportGiven) (λ all. HasNoLine form h (r.report ++ all))
    → IfSome (given_told r old.left) (λ g. IsReasonAt a.settings s x g h.number reasons.Line)
found_line form h totals a s x r old is e none =
    reason_line a.settings form h s x (given_told r old.left) is e.head (none_told form h r old.left none)

-- ## What is left behind the line, and behind the records

abbrev Behind : List ℕ → Given → Given → Type 0
Behind line g next = (g.report ≡ line ++ next.report) × (next ≡ record g { report = next.report })

behind_line-of : (line ahead' : List ℕ) (count : ℕ) (r : GivenFiles) (t : Trace)
    → IfSome (told_at t ReportGiven) (λ all. r.report ++ all ≡ line ++ (ahead' ++ drop count all))
    → Alike (Behind line) (given_told r t) (given_told (record r { report = ahead' }) (took ReportGiven count t))
unfolding given_told told_at took
behind_line-of line ahead' count r None h = tt
behind_line-of line ahead' count r (Some p) h = (h, refl)

behind_line : (frames : ℕ) (form : ReportForm) (h : LineHead) (r : GivenFiles) (ahead' : List ℕ) (old mid : Outside)
    → TakesFrames frames form h r.report ahead' old mid
    → Alike (Behind (line_octets form (line_with h frames))) (given_told r old.left) (given_told (record r { report = ahead' }) mid.left)
behind_line frames form h r ahead' old mid took =
    subst (λ (t : Trace). Alike (Behind (line_octets form (line_with h frames))) (given_told r old.left)
    (given_told (record r { report = ahead' }) t)) (sym took.takes.left)
    (behind_line-of (line_octets form (line_with h frames)) ahead' took.count r old.left took.goes)

same_capture : (side : Side) (g next : Given) → next ≡ record g { report = next.report } → given_at side next ≡ given_at side g
same_capture Left g next e = ap (λ (x : Given). x.left) e
same_capture Right g next e = ap (λ (x : Given). x.right) e

pub found_missing : (frames : ℕ) (form : ReportForm) (h : LineHead) (totals : Totals) (a : Auditing) (s : State) (x : Arrival) (r : GivenFiles)
    (ahead' : List ℕ) (old mid : Outside) → form ≡ a.settings.report → IsExpecting h totals a s x → TakesFrames frames form h r.report ahead' old mid
    → IfSome (given_told (record r { report = ahead' }) mid.left) (λ g. length (given_at (other h.side) g).packets < frames)
    → IfSome (given_told r old.left) (λ g. IsReasonAt a.settings s x g h.number reasons.Missing)
found_missing frames form h totals a s x r ahead' old mid is e took few =
    alike_back (Behind (line_octets form (line_with h frames))) (λ g. length (given_at (other h.side) g).packets < frames)
    (λ g. IsReasonAt a.settings s x g h.number reasons.Missing)
    (given_told r old.left) (given_told (record r { report = ahead' }) mid.left) (behind_line frames form h r ahead' old mid took) few
    (λ g next line less. λ arrivals ending.
    let there : length (given_at (other (event_in x).side) g).packets < frames =
    subst (λ (side : Side). length (given_at (other side) g).packets < frames) e.head.side
    (subst (λ (c : Records). length c.packets < frames) (same_capture (other h.side) g next line.1) less) in
    inr (inl (
      e.head.number_is,
      refl,
      frames,
      next.report,
      (took.few, line.0 ∙ ap (λ (xs : List ℕ). xs ++ next.report) (line_is a.settings form h s x frames is e.head)),
      there,
    )))

-- the line and these records were taken
record Went (settings : Settings) (s : State) (x : Arrival) (frames : ℕ) (packets : List Packet) (g next : Given) : Type 0 where
  line : g.report ≡ line_of settings s x frames ++ next.report
  records : given_at (other (event_in x).side) g ≡ with_records packets (given_at (other (event_in x).side) next)
  others : given_at (event_in x).side next ≡ given_at (event_in x).side g

went : (frames : ℕ) (form : ReportForm) (h : LineHead) (totals : Totals) (a a' : Auditing) (s : State) (x : Arrival) (r r' : GivenFiles)
    (ahead' : List ℕ) (old mid new : Outside) → form ≡ a.settings.report → IsExpecting h totals a s x
    → TakesFrames frames form h r.report ahead' old mid
    → (t : TookNext frames h.side (record r { report = ahead' }) r' a a' mid new)
    → Alike (Went a.settings s x frames t.packets) (given_told r old.left) (given_told r' new.left)
went frames form h totals a a' s x r r' ahead' old mid new is e took t =
    alike_join (Behind (line_octets form (line_with h frames)))
    (λ g next. (given_at (other h.side) g ≡ with_records t.packets (given_at (other h.side) next)) × (given_at h.side next ≡ given_at h.side g)
    × (next.report ≡ g.report)) (Went a.settings s x frames t.packets)
    (given_told r old.left) (given_told (record r { report = ahead' }) mid.left) (given_told r' new.left)
    (behind_line frames form h r ahead' old mid took) t.files
    (λ g middle next line files. record {
      line = line.0 ∙ ap (λ (xs : List ℕ). xs ++ middle.report) (line_is a.settings form h s x frames is e.head)
          ∙ ap (λ (xs : List ℕ). line_of a.settings s x frames ++ xs) (sym files.2);
      records =
          subst (λ (side : Side). given_at (other side) g ≡ with_records t.packets (given_at (other side) next)) e.head.side
          (sym (same_capture (other h.side) g middle line.1) ∙ files.0);
      others = subst (λ (side : Side). given_at side next ≡ given_at side g) e.head.side (files.1 ∙ same_capture h.side g middle line.1);
    })

-- ## The records

closed_is : (h : LineHead) (totals : Totals) (a a' : Auditing) (s : State) (x : Arrival) (packets : List Packet) → IsExpecting h totals a s x
    → a' ≡ judged a packets
    → is_closed a'.expecting.wanted a'.expecting.so_far ≡ is_closed (wanted_of s.world x)
    (behind_all a.settings (other (event_in x).side) (event_in x).moment (wanted_of s.world x) packets)
closed_is h totals a a' s x packets e is =
    ap (λ (b : Auditing). is_closed b.expecting.wanted b.expecting.so_far) is
    ∙ ap (λ (w : Expecting). is_closed w.wanted (fold (behind a.settings (other w.side) w.moment w.wanted) w.so_far packets)) e.expecting

reason_frame : (settings : Settings) (s : State) (x : Arrival) (number frames : ℕ) (packets : List Packet) (g next : Given)
    → HaveMacAddresses settings → IsSound (wanted_of s.world x) → number ≡ s.totals.events + 1 → frames < 2 ^ 32 → length packets ≡ frames
    → is_closed (wanted_of s.world x) (behind_all settings (other (event_in x).side) (event_in x).moment (wanted_of s.world x) packets) ≡ false
    → Went settings s x frames packets g next → IsReasonAt settings s x g number reasons.Frame
reason_frame settings s x number frames packets g next addresses sound is few count wrong w = λ arrivals ending.
    let to = other (event_in x).side in
    let all : (given_at to g).packets ≡ packets ++ (given_at to next).packets = ap (λ (c : Records). c.packets) w.records in
    let first : take frames (given_at to g).packets ≡ packets = ap (take frames) all ∙ take_at packets (given_at to next).packets frames count in
    let enough : frames ≤ length (given_at to g).packets =
    omega (arith, count, ap (λ (ps : List Packet). length ps) all, length-append packets (given_at to next).packets) in
    inr (inr (inl (
      is,
      refl,
      frames,
      next.report,
      (few, w.line),
      enough,
      not_lawful settings s x g frames next.report addresses sound (few, w.line)
          (ap (λ (ps : List Packet). is_closed (wanted_of s.world x) (behind_all settings to (event_in x).moment (wanted_of s.world x) ps)) first
          ∙ wrong),
    )))

pub found_frame : (frames : ℕ) (form : ReportForm) (h : LineHead) (totals : Totals) (a a' : Auditing) (s : State) (x : Arrival) (r r' : GivenFiles)
    (ahead' : List ℕ) (old mid new : Outside) → HaveMacAddresses a.settings → form ≡ a.settings.report → IsExpecting h totals a s x
    → TakesFrames frames form h r.report ahead' old mid
    → TookNext frames h.side (record r { report = ahead' }) r' a a' mid new → is_closed a'.expecting.wanted a'.expecting.so_far ≡ false
    → IfSome (given_told r old.left) (λ g. IsReasonAt a.settings s x g h.number reasons.Frame)
found_frame frames form h totals a a' s x r r' ahead' old mid new addresses is e took t wrong =
    alike_back (Went a.settings s x frames t.packets) (λ g. Unit {0}) (λ g. IsReasonAt a.settings s x g h.number reasons.Frame)
    (given_told r old.left) (given_told r' new.left) (went frames form h totals a a' s x r r' ahead' old mid new is e took t)
    (any (given_told r' new.left))
    (λ g next w u. reason_frame a.settings s x h.number frames t.packets g next addresses e.sound e.head.number_is took.few t.count
    (sym (closed_is h totals a a' s x t.packets e t.audited) ∙ wrong) w)

lawful_with : (settings : Settings) (s : State) (x : Arrival) (frames : ℕ) (packets : List Packet) (g next : Given) → HaveMacAddresses settings
    → IsSound (wanted_of s.world x) → frames < 2 ^ 32 → length packets ≡ frames
    → is_closed (wanted_of s.world x) (behind_all settings (other (event_in x).side) (event_in x).moment (wanted_of s.world x) packets) ≡ true
    → Went settings s x frames packets g next → IsLawfulWith settings s x frames g next
lawful_with settings s x frames packets g next addresses sound few count right w =
    let to = other (event_in x).side in
    let lawful = is_whole settings to (event_in x).moment (addresses to) (wanted_of s.world x) packets sound right in
    let size : length lawful.0 ≡ frames = sym (length-map lawful.0 (record_of settings to (event_in x).moment))
    ∙ sym (ap (λ (ps : List Packet). length ps) lawful.2) ∙ count in (
      record {
        list = lawful.0;
        lawful = lawful.1;
        few = omega (arith, size, few);
        line = w.line ∙ ap (λ (n : ℕ). line_of settings s x n ++ next.report) (sym size);
        records = ap (λ (c : Records). c.packets) w.records ∙ ap (λ (ps : List Packet). ps ++ (given_at to next).packets) lawful.2;
        ending = sym (ap (λ (c : Records). c.ending) w.records);
        others = w.others;
      },
      size,
    )

fits_on : (frames : ℕ) (h : LineHead) (totals totals' : Totals) (a a' : Auditing) (r r' : GivenFiles) (ahead' : List ℕ) (mid new : Outside)
    → Fits totals r → TookNext frames h.side (record r { report = ahead' }) r' a a' mid new → totals' ≡ counted totals h.side h.verdict frames
    → Fits totals' r'
fits_on frames h totals totals' a a' r r' ahead' mid new f t is = subst (λ (x : Totals). Fits x r') (sym is) (record {
  left = omega (arith, f.left, t.left);
  right = omega (arith, f.right, t.right);
  left_place = t.left_small f.left_place;
  right_place = t.right_small f.right_place;
  passed = omega (arith, f.passed, few_passed h.verdict);
  refused = omega (arith, f.refused, few_refused h.verdict);
})

pub found_lawful : (frames : ℕ) (form : ReportForm) (h : LineHead) (totals totals' : Totals) (a a' : Auditing) (s : State) (x : Arrival)
    (r r' : GivenFiles) (ahead' : List ℕ) (old mid new : Outside) → HaveMacAddresses a.settings → form ≡ a.settings.report
    → IsExpecting h totals a s x → a.lost ≡ false → Fits totals r
    → TakesFrames frames form h r.report ahead' old mid → TookNext frames h.side (record r { report = ahead' }) r' a a' mid new
    → is_closed a'.expecting.wanted a'.expecting.so_far ≡ true → totals' ≡ counted totals h.side h.verdict frames
    → FoundLawful frames totals' s x r r' a a' old new
found_lawful frames form h totals totals' a a' s x r r' ahead' old mid new addresses is e kept fits took t right count =
    let one : totals' ≡ counted s.totals (event_in x).side (verdict_of s.world x) frames =
    count ∙ ap (λ (n : Totals). counted n h.side h.verdict frames) e.totals_are
    ∙ ap (λ (side : Side). counted s.totals side h.verdict frames) e.head.side
    ∙ ap (λ (v : Verdict). counted s.totals (event_in x).side v frames) e.head.verdict in
    record {
      state_is =
          ap (λ (n : Totals). state_of a' n) one
          ∙ ap (λ w. let y : State = record { world = w; totals = counted s.totals (event_in x).side (verdict_of s.world x) frames } in y)
          (ap whole_world t.audited ∙ e.world);
      lawful =
          alike_map (Went a.settings s x frames t.packets) (IsLawfulWith a.settings s x frames) (given_told r old.left) (given_told r' new.left)
          (went frames form h totals a a' s x r r' ahead' old mid new is e took t)
          (λ g next w. lawful_with a.settings s x frames t.packets g next addresses e.sound took.few t.count
          (sym (closed_is h totals a a' s x t.packets e t.audited) ∙ right) w);
      settings_are = ap (λ (b : Auditing). b.settings) t.audited;
      kept = ap (λ (b : Auditing). b.lost) t.audited ∙ kept;
      running = t.running;
      fits = fits_on frames h totals totals' a a' r r' ahead' mid new fits t count;
    }
