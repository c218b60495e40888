-- A whole audit, by its parts.
use Rattle.std.proofs.Common.{◌≡◌, ◌+◌, ℕ, List, [], true, Option, Some, None, Result, Ok, Err, IfSome, OnOk, option_map, take, length, inl, inr, refl, sym, ap, subst, ◌∙◌, ◌⊎◌}
use Rattle.std.proofs.lemmas.Option.{IfSome_then}
use Rattle.gate_base.specs.declared.side.Side.{Side}
use Rattle.gate_base.specs.declared.side.Side.TheVariants.{Left, Right}
use Rattle.gate_desk.specs.declared.slot.Slot.{Slot}
use Rattle.gate_desk.specs.declared.slot.Slot.TheVariants.{Settings, LeftIn, RightIn, LeftGiven, RightGiven, ReportGiven, Report}
use Rattle.gate_desk.specs.declared.slot.PerSlot.{PerSlot}
use Rattle.gate_desk.specs.declared.slot.Access.TheVariants.{Read}
use Rattle.gate_desk.specs.Outside.{Outside, Trace, Grows, NoneFailed, IsAtEnd, HasFailed, Writes, WritesPart, took, told_at, wrote}
use Rattle.gate_desk.proofs.Laws.{grows_not, grows_on, none_failed_on, grows_writes, failed_since, failed_to_start_since, took-none}
use Rattle.gate_settings.specs.declared.settings.Settings.{Settings as GateSettings}
use Rattle.frag_join.specs.Prelude.{arrivals_of}
use Rattle.pcap_merge.specs.Prelude.{Merged, Done as BothEnded, Fault as EndsFaulty, have_good_heads, TakenFor, Merging, ahead, slot_of}
use Rattle.pcap_merge.specs.Merge.{all_events}
use Rattle.pcap_merge.proofs.Given.{given_few, taken_later}
use Rattle.pcap_merge.proofs.Steps.{both as with_some}
use Rattle.lawful_files.specs.declared.reason.AuditReason.TheVariants.{Capture}
use Rattle.lawful_files.specs.Prelude.{Given, HasLink, LawfulFrom, opening, IsFirst}
use Rattle.file_audit.specs.declared.given.GivenFiles.{GivenFiles}
use Rattle.file_audit.specs.Events.{Finds, IsLawfulFront, IsReadInAudit, TookFew, WantsAt}
use Rattle.file_audit.specs.Stops.{LeavesCounts}
use Rattle.file_audit.specs.Given.{IfBoth, ReadsGiven, TookFiles, given_slot, given_told}
use Rattle.file_audit.proofs.IncomingEnds.{ends_kept, left_kept, right_kept}
use Rattle.file_audit.proofs.Wanting.{given_later, incoming_kept}
use Rattle.file_audit.proofs.Files.{files_given, files_later, files_more, files_none, files_on}
use Rattle.file_audit.proofs.Walked.{ahead_kept, lawful_none}
use Rattle.run_setup.specs.declared.status.Status.{Status}
use Rattle.run_setup.specs.declared.status.Status.TheVariants as statuses
use Rattle.run_setup.specs.declared.status.Status.TheVariants.{CaptureRefused, ReadFault, WriteFault, OpenFault, OutOfMemory}
use Rattle.run_setup.specs.Prelude.{IsAccepted, TookInputs, events_in, started_all}
use Rattle.run_setup.proofs.Causes.{all_on, before_on, access_of}
use Rattle.run_setup.proofs.Beginning.{told_heads}
use Rattle.gateway_audit.specs.declared.verdict.AuditVerdict.{AuditVerdict}
use Rattle.gateway_audit.specs.declared.verdict.AuditVerdict.TheVariants.{Lawful, Unlawful}
use Rattle.gateway_audit.specs.Inside.Stops.{verdict_of}
use Rattle.run_setup.specs.AuditNames.{Names, first_starts, given_starts, plan}
use Rattle.gateway_audit.specs.Lines.{answer_line}
use Rattle.gateway_audit.specs.Causes.{AreLawful, IsRead, IsVerdict, MayHaveWanted}
use Rattle.gateway_audit.specs.Audits.{IsAudit, HasStartedToRead, HasAnswered, TookForEvents, TookRead, refused_starts}
use Rattle.gateway_audit.specs.Inside.Phases.{Prepared, HaveLinks, LeavesIncoming, Readied, StopsAtGiven, AreToWalk, Walks, WasRead, Judged, Judges, Says, status_of, given_in}
use Rattle.gateway_audit.proofs.Phases.{behind_inputs}

-- ## What is told

-- what stays of the given files where the settings and the incoming captures are read, and of the incoming captures where the given files are
given_kept : (i j k : ℕ) (t : Trace) → option_map given_in (took RightIn k (took LeftIn j (took Settings i t))) ≡ option_map given_in t
unfolding took
given_kept i j k None = refl
given_kept i j k (Some all) = refl

heads_kept : (P : List ℕ → List ℕ → Type 0) (i j k : ℕ) (t : Trace)
    → IfSome (took RightIn k (took LeftIn j (took Settings i t))) (λ all. P all.left_given all.right_given)
    → IfSome t (λ all. P all.left_given all.right_given)
unfolding took
heads_kept P i j k None h = tt
heads_kept P i j k (Some all) h = h

both_told : (t : Trace) (o : Option Merged) (p : Option Given) (R : Merged → Given → Type 0) → all_events t ≡ o → p ≡ option_map given_in t
    → IfBoth o p R → IfSome t (λ all. R (events_in all) (given_in all))
unfolding all_events
both_told None o p R e f h = tt
both_told (Some all) o p R e f h = subst (λ q. IfSome q (R (events_in all))) f (subst (λ q. IfBoth q p R) (sym e) h)

-- what was read of the given files left the incoming captures as they were
incoming_left : (m n k : ℕ) (b c : Outside) → c.left ≡ took ReportGiven k (took RightGiven n (took LeftGiven m b.left)) → (side : Side)
    → told_at c.left (slot_of side) ≡ told_at b.left (slot_of side)
incoming_left m n k b c e Left = ap (λ (t : Trace). told_at t LeftIn) e ∙ left_kept m n k b.left
incoming_left m n k b c e Right = ap (λ (t : Trace). told_at t RightIn) e ∙ right_kept m n k b.left

-- ## The parts before the events, joined

started : (found : Option GivenFiles) (settings : GateSettings) (m : Merging) (names : Names) (a b c : Outside) → Prepared settings m names a b
    → Readied found settings names b c → c.starts ≡ started_all (plan names) a.starts
started found settings m names a b c h k = all_on (first_starts names) (behind_inputs names) a b c h.starts k.starts

-- a given head could not be read
unread : (side : Side) (settings : GateSettings) (m : Merging) (names : Names) (a b c : Outside) → Prepared settings m names a b
    → StopsAtGiven (ReadFault (given_slot side)) names b c → IsAudit (ReadFault (given_slot side)) names a c
unread Left settings m names a b c h k = record {
  cause = (tt, failed_since LeftGiven a b c h.grows k.cause.1);
  starts = inl (all_on (first_starts names) (given_starts names) a b c h.starts k.started);
  written = k.written ∙ h.written;
  grows = grows_on a b c h.grows k.grows;
}
unread Right settings m names a b c h k = record {
  cause = (tt, failed_since RightGiven a b c h.grows k.cause.1);
  starts = inl (all_on (first_starts names) (given_starts names) a b c h.starts k.started);
  written = k.written ∙ h.written;
  grows = grows_on a b c h.grows k.grows;
}

-- the given files could not be begun
pub not_ready : (e : Status) (settings : GateSettings) (m : Merging) (names : Names) (a b c : Outside) → Prepared settings m names a b
    → StopsAtGiven e names b c → IsAudit e names a c
not_ready (ReadFault s) settings m names a b c h k =
    let is = k.cause.0.1 in
    subst (λ u. IsAudit (ReadFault u) names a c) (sym is)
    (unread k.cause.0.0 settings m names a b c h (subst (λ u. StopsAtGiven (ReadFault u) names b c) is k))
not_ready (OpenFault s) settings m names a b c h k = record {
  cause = (k.cause.0, failed_to_start_since s a b c h.grows k.cause.1);
  starts = before_on s (first_starts names) (behind_inputs names) a b c h.starts k.started;
  written = k.written ∙ h.written;
  grows = grows_on a b c h.grows k.grows;
}
not_ready OutOfMemory settings m names a b c h k = record {
  cause = inl (taken_later a b c [] k.cause (given_few a m b [] h.given));
  starts = inr (inr (inl (all_on (first_starts names) (given_starts names) a b c h.starts k.started)));
  written = k.written ∙ h.written;
  grows = grows_on a b c h.grows k.grows;
}
not_ready e settings m names a b c h k = absurd k.cause

-- both heads are good: the events are to be taken
pub to_walk : (settings : GateSettings) (m : Merging) (r : GivenFiles) (names : Names) (a b c : Outside) → Prepared settings m names a b
    → Readied (Some r) settings names b c → AreToWalk settings m r c
to_walk settings m r names a b c h k =
    let all = started (Some r) settings m names a b c h k in
    record {
      sound = h.sound;
      forms = h.forms;
      files = record {
        stop = h.stop;
        work = h.work;
        ends = ends_kept m k.left_count k.right_count k.report_count b c k.left h.ends;
        running = k.heads.0;
        fits = k.heads.1;
        left_in = access_of LeftIn Read (plan names) a c all (λ w. refl);
        right_in = access_of RightIn Read (plan names) a c all (λ w. refl);
        left_given = access_of LeftGiven Read (plan names) a c all (λ w. refl);
        right_given = access_of RightGiven Read (plan names) a c all (λ w. refl);
        report_given = access_of ReportGiven Read (plan names) a c all (λ w. refl);
      };
    }

-- ## What is found

-- the settings are accepted, and both incoming heads are good
abbrev AreGood : GateSettings → PerSlot (List ℕ) → Type 0
AreGood settings all = IsAccepted settings all × (have_good_heads all.left_in all.right_in ≡ true)

good : (settings : GateSettings) (m : Merging) (names : Names) (a b : Outside) → Prepared settings m names a b → IfSome a.left (AreGood settings)
good settings m names a b h =
    with_some a.left (IsAccepted settings) (λ all. have_good_heads all.left_in all.right_in ≡ true) (AreGood settings) h.accepted h.heads
    (λ all is heads. (is, heads))

-- a given head isn't good
pub no_head : (settings : GateSettings) (m : Merging) (names : Names) (a b c : Outside) → Prepared settings m names a b
    → Readied None settings names b c → Judged (Unlawful 0 Capture) names a c
no_head settings m names a b c h k =
    let bad =
    heads_kept (λ l r. HasLink settings.left.link l × HasLink settings.right.link r → ⊥) h.settings_count h.left_count h.right_count a.left
    (subst (λ (t : Trace). IfSome t (λ all. HaveLinks settings all → ⊥)) h.left k.heads) in
    record {
      verdict_is =
          with_some a.left (AreGood settings) (λ all. HaveLinks settings all → ⊥) (IsVerdict (Unlawful 0 Capture)) (good settings m names a b h) bad
          (λ all is no. (settings, is.0, is.1, inl (refl, refl, no)));
      read = tt;
      starts = started None settings m names a b c h k;
      written = k.written ∙ h.written;
      grows = grows_on a b c h.grows k.grows;
      counts = none_failed_on a b c h.counts k.counts;
    }

-- what is found of the events and the given files is so of the octets that were told as the audit began
of_files : (settings : GateSettings) (m : Merging) (r : GivenFiles) (names : Names) (a b c : Outside) (R : Merged → Given → Type 0)
    (S : PerSlot (List ℕ) → Type 0) → Prepared settings m names a b → Readied (Some r) settings names b c
    → IfBoth (ahead m c.left) (given_told r c.left) R
    → ((all : PerSlot (List ℕ)) → AreGood settings all → HaveLinks settings all → R (events_in all) (given_in all) → S all) → IfSome a.left S
of_files settings m r names a b c R S h k both f =
    let links =
    heads_kept (λ l r. HasLink settings.left.link l × HasLink settings.right.link r) h.settings_count h.left_count h.right_count a.left
    (subst (λ (t : Trace). IfSome t (HaveLinks settings)) h.left k.heads.2) in
    let events = h.events ∙ sym (ap (ahead m) k.left ∙ ahead_kept m k.left_count k.right_count k.report_count b.left) in
    let given = k.heads.3 ∙ ap (option_map given_in) h.left ∙ given_kept h.settings_count h.left_count h.right_count a.left in
    let told = both_told a.left (ahead m c.left) (given_told r c.left) R events given both in
    with_some a.left (AreGood settings) (λ all. HaveLinks settings all × R (events_in all) (given_in all)) S (good settings m names a b h)
    (with_some a.left (HaveLinks settings) (λ all. R (events_in all) (given_in all))
    (λ all. HaveLinks settings all × R (events_in all) (given_in all)) links told (λ all l q. (l, q))) (λ all is p. f all is p.0 p.1)

-- the events were taken
judged : (verdict : AuditVerdict) (settings : GateSettings) (m : Merging) (r : GivenFiles) (names : Names) (a b c d : Outside)
    → Prepared settings m names a b → Readied (Some r) settings names b c → d.starts ≡ c.starts → d.written ≡ c.written → Grows c d → NoneFailed c d
    → IfSome a.left (IsVerdict verdict) → WasRead verdict d → Judged verdict names a d
judged verdict settings m r names a b c d h k starts written grows counts is read = record {
  verdict_is = is;
  read = read;
  starts = starts ∙ started (Some r) settings m names a b c h k;
  written = written ∙ k.written ∙ h.written;
  grows = grows_on a b d h.grows (grows_on b c d k.grows grows);
  counts = none_failed_on a b d h.counts (none_failed_on b c d k.counts counts);
}

is_read : (s : Slot) → IsReadInAudit s → IsRead s
is_read LeftIn h = tt
is_read RightIn h = tt
is_read LeftGiven h = tt
is_read RightGiven h = tt
is_read ReportGiven h = tt
is_read s h = absurd h

started_to_read : (s : Slot) (names : Names) (a b : Outside) → IsReadInAudit s → b.starts ≡ started_all (plan names) a.starts
    → HasStartedToRead s names a b
started_to_read LeftIn names a b h e = inr e
started_to_read RightIn names a b h e = inr e
started_to_read LeftGiven names a b h e = inr e
started_to_read RightGiven names a b h e = inr e
started_to_read ReportGiven names a b h e = e
started_to_read s names a b h e = absurd h

pub walks_of : (found : Result ℕ Status) (settings : GateSettings) (m : Merging) (r : GivenFiles) (old new : Outside)
    → Finds found settings m r old new → LeavesCounts found old new → OnOk found (IsAtEnd new LeftIn) → OnOk found (IsAtEnd new RightIn)
    → Walks (verdict_of found) settings m r old new
walks_of (Ok events) settings m r old new finds leaves left right = (finds, leaves, left, right)
walks_of (Err (statuses.Unlawful number reason)) settings m r old new finds leaves left right = (finds, leaves)
walks_of (Err (CaptureRefused side fault place)) settings m r old new finds leaves left right = (finds, leaves)
walks_of (Err (ReadFault slot)) settings m r old new finds leaves left right = finds
walks_of (Err OutOfMemory) settings m r old new finds leaves left right = inr finds
walks_of (Err status) settings m r old new finds leaves left right = absurd finds

-- memory was wanting before any event, or for one
wanted : (settings : GateSettings) (m : Merging) (r : GivenFiles) (names : Names) (a b c d : Outside) → Prepared settings m names a b
    → Readied (Some r) settings names b c → Walks (Err OutOfMemory) settings m r c d
    → TakenFor [] a d ⊎ IfSome a.left (λ all. (s : GateSettings) × IsAccepted s all × MayHaveWanted s all)
wanted settings m r names a b c d h k (inl same) =
    inl (taken_later a b d []
    (λ side. ap (λ (t : Trace). told_at t (slot_of side)) same ∙ incoming_left k.left_count k.right_count k.report_count b c k.left side)
    (given_few a m b [] h.given))
wanted settings m r names a b c d h k (inr (inl takes)) = inr (IfSome_then a.left h.accepted (λ all is. (settings, is, inl takes)))
wanted settings m r names a b c d h k (inr (inr both)) =
    inr (of_files settings m r names a b c (WantsAt settings) (λ all. (s : GateSettings) × IsAccepted s all × MayHaveWanted s all) h k both
    (λ all is links q. (settings, is.0, inr q)))

pub walked : (found : Result AuditVerdict Status) (settings : GateSettings) (m : Merging) (r : GivenFiles) (names : Names) (a b c d : Outside)
    → Prepared settings m names a b → Readied (Some r) settings names b c → Walks found settings m r c d
    → d.starts ≡ c.starts → d.written ≡ c.written → Grows c d → Judges found names a d
walked (Ok (Lawful events)) settings m r names a b c d h k f starts written grows =
    judged (Lawful events) settings m r names a b c d h k starts written grows f.1
    (of_files settings m r names a b c
    (λ all g. (all.ending ≡ BothEnded) × (events ≡ length all.events)
    × LawfulFrom settings (opening settings) (arrivals_of settings.join all.events) all.ending g) (IsVerdict (Lawful events)) h k f.0
    (λ all is links q. (settings, is.0, q.0, record { left_head = links.0; right_head = links.1; goes = q.2 }, q.1))) (f.2, f.3)
walked (Ok (Unlawful number reason)) settings m r names a b c d h k f starts written grows =
    judged (Unlawful number reason) settings m r names a b c d h k starts written grows f.1
    (of_files settings m r names a b c
    (λ all g. IsFirst settings (opening settings) (arrivals_of settings.join all.events) all.ending g number reason)
    (IsVerdict (Unlawful number reason)) h k f.0
    (λ all is links q. (settings, is.0, is.1, inr (links.0, links.1, q)))) tt
walked (Err (CaptureRefused side fault place)) settings m r names a b c d h k f starts written grows = record {
  cause = (
    of_files settings m r names a b c
        (λ all g. (all.ending ≡ EndsFaulty side fault place)
        × LawfulFrom settings (opening settings) (arrivals_of settings.join all.events) all.ending g)
        (λ all. (s : GateSettings) × IsAccepted s all × ((events_in all).ending ≡ EndsFaulty side fault place)
        × (have_good_heads all.left_in all.right_in ≡ true → AreLawful s all)) h k f.0
        (λ all is links q. (settings, is.0, q.0, λ heads. record { left_head = links.0; right_head = links.1; goes = q.1 })),
    none_failed_on a b d h.counts (none_failed_on b c d k.counts f.1),
  );
  starts =
      told_heads (λ good. d.starts ≡ started_all (refused_starts good names) a.starts) true a.left h.heads
      (starts ∙ started (Some r) settings m names a b c h k);
  written = written ∙ k.written ∙ h.written;
  grows = grows_on a b d h.grows (grows_on b c d k.grows grows);
}
walked (Err (ReadFault s)) settings m r names a b c d h k f starts written grows = record {
  cause = (is_read s f.0, failed_since s a c d (grows_on a b c h.grows k.grows) f.1);
  starts = started_to_read s names a d f.0 (starts ∙ started (Some r) settings m names a b c h k);
  written = written ∙ k.written ∙ h.written;
  grows = grows_on a b d h.grows (grows_on b c d k.grows grows);
}
walked (Err OutOfMemory) settings m r names a b c d h k f starts written grows = record {
  cause = wanted settings m r names a b c d h k f;
  starts = inr (inr (inr (starts ∙ started (Some r) settings m names a b c h k)));
  written = written ∙ k.written ∙ h.written;
  grows = grows_on a b d h.grows (grows_on b c d k.grows grows);
}
walked (Err e) settings m r names a b c d h k f starts written grows = absurd f

-- ## The answer

-- what is written changes nothing of what is left
still_at_end : (slot : Slot) (a b : Outside) → b.left ≡ a.left → IsAtEnd a slot → IsAtEnd b slot
still_at_end slot a b e h = subst (λ (t : Trace). IfSome (told_at t slot) (λ all. length all ≡ 0)) (sym e) h

answered : (verdict : AuditVerdict) (names : Names) (a b c : Outside) → Judged verdict names a b → Writes Report (answer_line verdict) b c
    → NoneFailed b c → IsAudit (status_of verdict) names a c
answered (Lawful events) names a b c h k counts = record {
  cause = (
    IfSome_then a.left h.verdict_is (λ all p. (p.0, p.1, p.2, p.3, refl)),
    still_at_end LeftIn b c k.left h.read.0,
    still_at_end RightIn b c k.left h.read.1,
    none_failed_on a b c h.counts counts,
  );
  starts = k.starts ∙ h.starts;
  written =
      IfSome_then a.left h.verdict_is
      (λ all p. subst (λ (n : ℕ). HasAnswered (Lawful n) a c) p.4 (k.written ∙ ap (wrote Report (answer_line (Lawful events))) h.written));
  grows = grows_on a b c h.grows (grows_writes Report (answer_line (Lawful events)) b c k);
}
answered (Unlawful number reason) names a b c h k counts = record {
  cause = (h.verdict_is, none_failed_on a b c h.counts counts);
  starts = k.starts ∙ h.starts;
  written = k.written ∙ ap (wrote Report (answer_line (Unlawful number reason))) h.written;
  grows = grows_on a b c h.grows (grows_writes Report (answer_line (Unlawful number reason)) b c k);
}

unanswered : (verdict : AuditVerdict) (names : Names) (a b c : Outside) → Judged verdict names a b → WritesPart Report (answer_line verdict) b c
    → HasFailed Report b c → IsAudit (WriteFault Report) names a c
unanswered verdict names a b c h k failed = record {
  cause = (refl, failed_since Report a b c h.grows failed);
  starts = k.2.starts ∙ h.starts;
  written = (verdict, h.verdict_is, (k.0, k.1, k.2.written ∙ ap (wrote Report (take k.0 (answer_line verdict))) h.written));
  grows = grows_on a b c h.grows (grows_writes Report (take k.0 (answer_line verdict)) b c k.2);
}

-- the line of the verdict was written, or a front of it
pub said : (status : Status) (verdict : AuditVerdict) (names : Names) (a b c : Outside) → Judged verdict names a b → Says status verdict b c
    → IsAudit status names a c
said status verdict names a b c h k =
    elim k [
      | inl all ↦ subst (λ s. IsAudit s names a c) (sym all.0) (answered verdict names a b c h all.1 all.2)
      | inr part ↦ subst (λ s. IsAudit s names a c) (sym part.0) (unanswered verdict names a b c h part.1 part.2)
    ]

-- ## What was taken

-- of the settings and the incoming captures alone
pub read_inputs : (a b : Outside) → TookInputs a b → TookRead a b
read_inputs a b h =
    let inputs : Trace = took RightIn h.right_count (took LeftIn h.left_count (took Settings h.settings_count a.left)) in
    record {
      settings_count = h.settings_count;
      few = h.few;
      left_in_count = h.left_count;
      right_in_count = h.right_count;
      left_given_count = 0;
      right_given_count = 0;
      report_given_count = 0;
      left = h.left
          ∙ sym (took-none ReportGiven (took RightGiven 0 (took LeftGiven 0 inputs)) ∙ took-none RightGiven (took LeftGiven 0 inputs)
          ∙ took-none LeftGiven inputs);
    }

-- and then of the incoming captures and the given files
read_on : (a b c : Outside) → TookRead a b → TookFiles b c → TookRead a c
read_on a b c h k = record {
  settings_count = h.settings_count;
  few = h.few;
  left_in_count = h.left_in_count + k.left_in_count;
  right_in_count = h.right_in_count + k.right_in_count;
  left_given_count = h.left_given_count + k.left_given_count;
  right_given_count = h.right_given_count + k.right_given_count;
  report_given_count = h.report_given_count + k.report_given_count;
  left = k.left
      ∙ ap (λ (t : Trace). took ReportGiven k.report_given_count
      (took RightGiven k.right_given_count (took LeftGiven k.left_given_count (took RightIn k.right_in_count (took LeftIn k.left_in_count t)))))
      h.left
      ∙ files_more h.left_in_count h.right_in_count h.left_given_count h.right_given_count h.report_given_count k.left_in_count k.right_in_count
      k.left_given_count k.right_given_count k.report_given_count (took Settings h.settings_count a.left);
}

-- of the given files alone, between starts
pub files_ready : (a b c d : Outside) → b.left ≡ a.left → ReadsGiven b c → d.left ≡ c.left → TookFiles a d
files_ready a b c d e reads f = files_later a c d f (files_on a b c (files_none a b e) (files_given b c reads))

pub took_none : (a b : Outside) → TakenFor [] a b → TookRead a b → TookForEvents a b
took_none a b few read = record { handled = []; few = few; front = inl refl; read = read }

-- nothing but both heads
pub took_prepared : (settings : GateSettings) (m : Merging) (names : Names) (a b c : Outside) → Prepared settings m names a b → LeavesIncoming b c
    → TookInputs a b → TookFiles b c → TookForEvents a c
took_prepared settings m names a b c h same inputs files =
    took_none a c (taken_later a b c [] same (given_few a m b [] h.given)) (read_on a b c (read_inputs a b inputs) files)

-- the merge had not been asked for an event
pub took_not : (settings : GateSettings) (m : Merging) (r : GivenFiles) (a b : Outside) → b ≡ a → TookFew settings m r a b
took_not settings m r a b e = record {
  handled = [];
  few = λ start g. subst (λ (o : Outside). TakenFor [] start o) (sym e)
      (given_few start m a [] g);
  front = lawful_none settings (ahead m a.left) (given_told r a.left);
  files =
      files_none a b (ap (λ (o : Outside). o.left) e);
  starts = ap (λ (o : Outside). o.starts) e;
  written = ap (λ (o : Outside). o.written) e;
  grows = subst (Grows a) (sym e) (grows_not a);
}

pub took_walked : (settings : GateSettings) (m : Merging) (r : GivenFiles) (names : Names) (a b c d : Outside)
    → Prepared settings m names a b → Readied (Some r) settings names b c → TookFew settings m r c d → TookInputs a b → TookFiles b c
    → TookForEvents a d
took_walked settings m r names a b c d h k t inputs files = record {
  handled = t.handled;
  few = t.few a (given_later a m b c [] (incoming_left k.left_count k.right_count k.report_count b c k.left) h.given);
  front = inr (of_files settings m r names a b c (λ all g. IsLawfulFront settings all g t.handled)
      (λ all. (settings : GateSettings) × IsAccepted settings all × IsLawfulFront settings (events_in all) (given_in all) t.handled) h k
      t.front (λ all is links front. (settings, is.0, front)));
  read = read_on a c d (read_on a b c (read_inputs a b inputs) files) t.files;
}

pub incoming_on : (a b c d : Outside) → b.left ≡ a.left → ReadsGiven b c → d.left ≡ c.left → LeavesIncoming a d
incoming_on a b c d e reads f side = ap (λ (t : Trace). told_at t (slot_of side)) f ∙ incoming_kept b c reads side
    ∙ ap (λ (t : Trace). told_at t (slot_of side)) e

-- the answer reads nothing
says_left : (status : Status) (verdict : AuditVerdict) (b c : Outside) → Says status verdict b c → c.left ≡ b.left
says_left status verdict b c k = elim k [ inl all ↦ all.1.left | inr part ↦ part.1.2.left ]

pub took_said : (status : Status) (verdict : AuditVerdict) (a b c : Outside) → Says status verdict b c → TookForEvents a b → TookForEvents a c
took_said status verdict a b c k h =
    let same = says_left status verdict b c k in
    record {
      handled = h.handled;
      few = taken_later a b c h.handled (λ side. ap (λ (t : Trace). told_at t (slot_of side)) same) h.few;
      front =
          h.front;
      read = read_on a b c h.read (files_none b c same);
    }
