-- What is taken of the given files, and what is left of them.
use Rattle.std.proofs.Common.{◌≡◌, ◌<◌, ◌+◌, ◌-◌, ℕ, List, Bool, true, false, Result, Ok, Err, Option, Some, None, IfSome, length, drop, refl, sym, ap, subst, ◌∙◌, arith, drop-drop}
use Rattle.gate_settings.specs.declared.settings.ReportForm.{ReportForm}
use Rattle.gate_base.specs.declared.side.Side.TheVariants.{Left, Right}
use Rattle.gate_desk.specs.declared.slot.Slot.TheVariants.{LeftGiven, RightGiven, ReportGiven}
use Rattle.gate_desk.specs.Outside.{Outside, Trace, Takes, told_at, took}
use Rattle.gate_desk.proofs.Laws.{grows_takes, grows_on, took-none}
use Rattle.gate_report.specs.declared.line.Line.{Line}
use Rattle.pcap_files.specs.Prelude.{Packet, records_from, Reading}
use Rattle.pcap_merge.specs.Prelude.{with_records}
use Rattle.lawful_files.specs.Prelude.{Given}
use Rattle.file_audit.specs.declared.given.GivenFiles.{GivenFiles}
use Rattle.file_audit.specs.declared.line.LineHead.{LineHead}
use Rattle.run_setup.specs.declared.status.Status.{Status}
use Rattle.file_audit.specs.Inside.Frames.{TookNext, TakesNext}
use Rattle.file_audit.specs.Given.{IsRunning, ReadsGiven, given_told}
use Rattle.file_audit.specs.Inside.Given.{Alike}
use Rattle.file_audit.specs.Inside.Lines.{TakesLast, TakesLine, TakesReport}
use Rattle.file_audit.specs.Inside.Records.{FindsEnd, TakesSome, TakesRecords}
use Rattle.gate_audit.specs.Auditing.{Auditing}
use Rattle.file_audit.specs.Inside.Stops.{FailsAt}
use Rattle.file_audit.proofs.Wanting.{fails_in_audit}

-- ## Reads

pub reads_left : (n : ℕ) (a b : Outside) → Takes LeftGiven n a b → ReadsGiven a b
reads_left n a b h = record {
  left_count = n;
  right_count = 0;
  report_count = 0;
  left = h.left ∙ sym (took-none ReportGiven (took RightGiven 0 (took LeftGiven n a.left)) ∙ took-none RightGiven (took LeftGiven n a.left));
  written = h.written;
  starts = h.starts;
  start_faults = h.start_faults;
  grows = grows_takes LeftGiven n a b h;
}

pub reads_right : (n : ℕ) (a b : Outside) → Takes RightGiven n a b → ReadsGiven a b
reads_right n a b h = record {
  left_count = 0;
  right_count = n;
  report_count = 0;
  left = h.left ∙ sym (took-none ReportGiven (took RightGiven n (took LeftGiven 0 a.left)) ∙ ap (took RightGiven n) (took-none LeftGiven a.left));
  written = h.written;
  starts = h.starts;
  start_faults = h.start_faults;
  grows = grows_takes RightGiven n a b h;
}

pub reads_report : (a b : Outside) → TakesReport a b → ReadsGiven a b
reads_report a b h = record {
  left_count = 0;
  right_count = 0;
  report_count = h.0;
  left = h.1.left ∙ sym (ap (took ReportGiven h.0) (took-none RightGiven (took LeftGiven 0 a.left) ∙ took-none LeftGiven a.left));
  written = h.1.written;
  starts = h.1.starts;
  start_faults = h.1.start_faults;
  grows = grows_takes ReportGiven h.0 a b h.1;
}

took_more : (m n k m' n' k' : ℕ) (t : Trace)
    → took ReportGiven k' (took RightGiven n' (took LeftGiven m' (took ReportGiven k (took RightGiven n (took LeftGiven m t))))) ≡ took ReportGiven
    (k + k') (took RightGiven (n + n') (took LeftGiven (m + m') t))
unfolding took
took_more m n k m' n' k' None = refl
took_more m n k m' n' k' (Some p) =
    ap (λ (xs : List ℕ). let x : Trace =
    Some (record p { left_given = xs; right_given = drop n' (drop n p.right_given); report_given = drop k' (drop k p.report_given) }) in x)
    (drop-drop m' m p.left_given)
    ∙ ap (λ (xs : List ℕ). let x : Trace =
    Some (record p { left_given = drop (m + m') p.left_given; right_given = xs; report_given = drop k' (drop k p.report_given) }) in x)
    (drop-drop n' n p.right_given)
    ∙ ap (λ (xs : List ℕ). let x : Trace =
    Some (record p { left_given = drop (m + m') p.left_given; right_given = drop (n + n') p.right_given; report_given = xs }) in x)
    (drop-drop k' k p.report_given)

pub reads_on : (a b c : Outside) → ReadsGiven a b → ReadsGiven b c → ReadsGiven a c
reads_on a b c h k = record {
  left_count = h.left_count + k.left_count;
  right_count = h.right_count + k.right_count;
  report_count = h.report_count + k.report_count;
  left = k.left ∙ ap (λ (t : Trace). took ReportGiven k.report_count (took RightGiven k.right_count (took LeftGiven k.left_count t))) h.left
      ∙ took_more h.left_count h.right_count h.report_count k.left_count k.right_count k.report_count a.left;
  written = k.written ∙ h.written;
  starts = k.starts ∙ h.starts;
  start_faults = k.start_faults ∙ h.start_faults;
  grows = grows_on a b c h.grows k.grows;
}

-- what a capture's reader takes
pub some_left : (r : Reading) (a b : Outside) → r.slot ≡ LeftGiven → TakesSome r a b → ReadsGiven a b
some_left r a b is h = reads_left h.0 a b (subst (λ s. Takes s h.0 a b) is h.1)

pub some_right : (r : Reading) (a b : Outside) → r.slot ≡ RightGiven → TakesSome r a b → ReadsGiven a b
some_right r a b is h = reads_right h.0 a b (subst (λ s. Takes s h.0 a b) is h.1)

-- what is taken by records
pub records_some : (result : Result Bool Status) (frames : ℕ) (r r' : Reading) (a a' : Auditing) (old new : Outside)
    → TakesRecords result frames r r' a a' old new → TakesSome r old new
records_some (Ok true) frames r r' a a' old new h = (r'.place - r.place, h.2.takes)
records_some (Ok false) frames r r' a a' old new h = h.0
records_some (Err stop) frames r r' a a' old new h = h.0

-- ## Records of a capture

-- what is read of one file leaves what is told of the others
left_files : (r : GivenFiles) (r' : Reading) (packets : List Packet) (n : ℕ) (t : Trace) → r'.form ≡ r.left.form
    → IfSome (told_at t LeftGiven)
    (λ octets. records_from r.left.form r.left.place octets ≡ with_records packets (records_from r.left.form r'.place (drop n octets)))
    → Alike (λ (g next : Given). (g.left ≡ with_records packets next.left) × (next.right ≡ g.right) × (next.report ≡ g.report)) (given_told r t)
    (given_told (record r { left = r' }) (took LeftGiven n t))
unfolding given_told told_at took
left_files r r' packets n None form h = tt
left_files r r' packets n (Some p) form h =
    (h ∙ ap (λ f. with_records packets (records_from f r'.place (drop n p.left_given))) (sym form), refl, refl)

right_files : (r : GivenFiles) (r' : Reading) (packets : List Packet) (n : ℕ) (t : Trace) → r'.form ≡ r.right.form
    → IfSome (told_at t RightGiven)
    (λ octets. records_from r.right.form r.right.place octets ≡ with_records packets (records_from r.right.form r'.place (drop n octets)))
    → Alike (λ (g next : Given). (g.right ≡ with_records packets next.right) × (next.left ≡ g.left) × (next.report ≡ g.report)) (given_told r t)
    (given_told (record r { right = r' }) (took RightGiven n t))
unfolding given_told told_at took
right_files r r' packets n None form h = tt
right_files r r' packets n (Some p) form h =
    (h ∙ ap (λ f. with_records packets (records_from f r'.place (drop n p.right_given))) (sym form), refl, refl)

pub took_left : (frames : ℕ) (r : GivenFiles) (r' : Reading) (a a' : Auditing) (old new : Outside) → IsRunning r
    → TakesRecords (Ok true) frames r.left r' a a' old new → TookNext frames Right r (record r { left = r' }) a a' old new
took_left frames r r' a a' old new running h =
    let t = h.2 in
    let count = r'.place - r.left.place in
    let ahead =
    subst (λ s. IfSome (told_at old.left s)
    (λ octets. records_from r.left.form r.left.place octets ≡ with_records h.0 (records_from r.left.form r'.place (drop count octets))))
    running.left_slot t.ahead in
    let takes = subst (λ s. Takes s count old new) running.left_slot t.takes in
    record {
      packets = h.0;
      count = h.1;
      audited = t.audited;
      files = subst
          (λ (x : Trace). Alike (λ (g next : Given). (g.left ≡ with_records h.0 next.left) × (next.right ≡ g.right) × (next.report ≡ g.report))
          (given_told r old.left) (given_told (record r { left = r' }) x)) (sym takes.left) (left_files r r' h.0 count old.left t.form ahead);
      running = record { left_slot = t.slot ∙ running.left_slot; right_slot = running.right_slot; left = t.running; right = running.right };
      left = omega (arith, t.further, h.1);
      right = omega arith;
      left_small = t.small;
      right_small = λ small. small;
    }

pub took_right : (frames : ℕ) (r : GivenFiles) (r' : Reading) (a a' : Auditing) (old new : Outside) → IsRunning r
    → TakesRecords (Ok true) frames r.right r' a a' old new → TookNext frames Left r (record r { right = r' }) a a' old new
took_right frames r r' a a' old new running h =
    let t = h.2 in
    let count = r'.place - r.right.place in
    let ahead =
    subst (λ s. IfSome (told_at old.left s)
    (λ octets. records_from r.right.form r.right.place octets ≡ with_records h.0 (records_from r.right.form r'.place (drop count octets))))
    running.right_slot t.ahead in
    let takes = subst (λ s. Takes s count old new) running.right_slot t.takes in
    record {
      packets = h.0;
      count = h.1;
      audited = t.audited;
      files = subst
          (λ (x : Trace). Alike (λ (g next : Given). (g.right ≡ with_records h.0 next.right) × (next.left ≡ g.left) × (next.report ≡ g.report))
          (given_told r old.left) (given_told (record r { right = r' }) x)) (sym takes.left) (right_files r r' h.0 count old.left t.form ahead);
      running = record { left_slot = running.left_slot; right_slot = t.slot ∙ running.right_slot; left = running.left; right = t.running };
      left = omega arith;
      right = omega (arith, t.further, h.1);
      left_small = λ small. small;
      right_small = t.small;
    }

few_left : (frames : ℕ) (r : GivenFiles) (t : Trace)
    → IfSome (told_at t LeftGiven) (λ octets. length (records_from r.left.form r.left.place octets).packets < frames)
    → IfSome (given_told r t) (λ g. length g.left.packets < frames)
unfolding given_told told_at
few_left frames r None h = tt
few_left frames r (Some p) h = h

few_right : (frames : ℕ) (r : GivenFiles) (t : Trace)
    → IfSome (told_at t RightGiven) (λ octets. length (records_from r.right.form r.right.place octets).packets < frames)
    → IfSome (given_told r t) (λ g. length g.right.packets < frames)
unfolding given_told told_at
few_right frames r None h = tt
few_right frames r (Some p) h = h

pub next_left : (result : Result Bool Status) (frames : ℕ) (r : GivenFiles) (r' : Reading) (a a' : Auditing) (old new : Outside) → IsRunning r
    → TakesRecords result frames r.left r' a a' old new → TakesNext result frames Right r (record r { left = r' }) a a' old new
next_left (Ok true) frames r r' a a' old new running h = took_left frames r r' a a' old new running h
next_left (Ok false) frames r r' a a' old new running h =
    few_left frames r old.left (subst (λ s. IfSome (told_at old.left s)
    (λ octets. length (records_from r.left.form r.left.place octets).packets < frames)) running.left_slot h.1)
next_left (Err stop) frames r r' a a' old new running h =
    fails_in_audit stop LeftGiven old new tt (subst (λ slot. FailsAt stop slot old new) running.left_slot h.1)

pub next_right : (result : Result Bool Status) (frames : ℕ) (r : GivenFiles) (r' : Reading) (a a' : Auditing) (old new : Outside) → IsRunning r
    → TakesRecords result frames r.right r' a a' old new → TakesNext result frames Left r (record r { right = r' }) a a' old new
next_right (Ok true) frames r r' a a' old new running h = took_right frames r r' a a' old new running h
next_right (Ok false) frames r r' a a' old new running h =
    few_right frames r old.left (subst (λ s. IfSome (told_at old.left s)
    (λ octets. length (records_from r.right.form r.right.place octets).packets < frames)) running.right_slot h.1)
next_right (Err stop) frames r r' a a' old new running h =
    fails_in_audit stop RightGiven old new tt (subst (λ slot. FailsAt stop slot old new) running.right_slot h.1)

-- what is taken for a line
pub line_some : (result : Result (Option ℕ) Status) (form : ReportForm) (h : LineHead) (ahead ahead' : List ℕ) (old new : Outside)
    → TakesLine result form h ahead ahead' old new → ReadsGiven old new
line_some (Ok (Some frames)) form h ahead ahead' old new k = reads_report old new (k.count, k.takes)
line_some (Ok None) form h ahead ahead' old new k = reads_report old new k.0
line_some (Err stop) form h ahead ahead' old new k = reads_report old new k.0

pub end_some : (result : Result Bool Status) (r : Reading) (old new : Outside) → FindsEnd result r old new → TakesSome r old new
end_some (Ok true) r old new k = k.0
end_some (Ok false) r old new k = k.0
end_some (Err stop) r old new k = k.0

-- what is taken where both captures are read at their ends
pub ends_read : (left right : Result Bool Status) (r : GivenFiles) (old mid new : Outside) → IsRunning r → FindsEnd left r.left old mid
    → FindsEnd right r.right mid new → ReadsGiven old new
ends_read left right r old mid new running h k =
    reads_on old mid new (some_left r.left old mid running.left_slot (end_some left r.left old mid h))
    (some_right r.right mid new running.right_slot (end_some right r.right mid new k))

-- and for the last line
pub last_some : (result : Result Bool Status) (form : ReportForm) (line : Line) (ahead ahead' : List ℕ) (old new : Outside)
    → TakesLast result form line ahead ahead' old new → ReadsGiven old new
last_some (Ok answer) form line ahead ahead' old new k = reads_report old new k.0
last_some (Err stop) form line ahead ahead' old new k = reads_report old new k.0
