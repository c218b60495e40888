-- The parts of an audit before its events.
use Rattle.std.proofs.Common.{◌≡◌, List, ◌++◌, true, false, Option, Some, None, Ok, Err, IfSome, option_map, inl, inr, [], sym, ap, subst, ◌∙◌}
use Rattle.std.proofs.lemmas.Bool.{false≢true}
use Rattle.gate_base.specs.declared.side.Side.{Side}
use Rattle.gate_base.specs.declared.side.Side.TheVariants.{Left, Right}
use Rattle.gate_desk.specs.declared.slot.Slot.TheVariants.{LeftIn, RightIn, LeftGiven, RightGiven, ReportGiven}
use Rattle.gate_desk.specs.Outside.{Outside, Trace, Start, took, told_at}
use Rattle.gate_desk.proofs.Laws.{grows_on, none_failed_on, failed_since, failed_to_start_since}
use Rattle.gate_settings.specs.declared.settings.Settings.{Settings as GateSettings}
use Rattle.pcap_merge.specs.Prelude.{Merged, Fault as EndsFaulty, have_good_heads, Merging, HeadsAre, all_events, TakenFor, slot_of}
use Rattle.file_audit.specs.declared.given.GivenFiles.{GivenFiles}
use Rattle.file_audit.specs.Given.{ReadsGiven, given_told}
use Rattle.file_audit.proofs.Wanting.{incoming_kept}
use Rattle.run_setup.specs.declared.status.Status.{Status}
use Rattle.run_setup.specs.declared.status.Status.TheVariants.{SettingsRefused, CaptureRefused, ReadFault, OpenFault, OutOfMemory}
use Rattle.run_setup.specs.Prelude.{IsAccepted, events_in, settings_start, inputs_start, Settled, EndsAtSettings, Begun, EndsAtHeads, started_all, StartsAll, Stops, Opens}
use Rattle.run_setup.proofs.Causes.{all_on, before_more, before_on}
use Rattle.run_setup.proofs.Beginning.{all_events-took_settings, heads_before, accepted_and, given_since, settled_stops, told_before, told_heads}
use Rattle.run_setup.specs.AuditNames.{Names, first_starts, given_starts, answer_start}
use Rattle.gateway_audit.specs.Causes.{AreLawful}
use Rattle.gateway_audit.specs.Audits.{IsAudit, refused_starts}
use Rattle.gateway_audit.specs.Inside.Phases.{Prepared, HaveLinks, HeadsGiven, Begins, Readied, StopsAtGiven, given_in}

-- what is started behind the incoming captures, and behind the settings
abbrev pub behind_inputs : Names → List Start
behind_inputs names = given_starts names ++ answer_start names

abbrev behind_settings : Names → List Start
behind_settings names = inputs_start names.left_in names.right_in ++ behind_inputs names

-- ## The settings and the incoming heads

-- the settings ended the audit
pub settings_end : (e : Status) (names : Names) (a b : Outside) → TakenFor [] a b → EndsAtSettings e (settings_start names.settings) a b
    → IsAudit e names a b
settings_end (SettingsRefused f) names a b few h = record { cause = (h.0, h.4); starts = h.1; written = h.2; grows = h.3 }
settings_end (ReadFault s) names a b few h =
    let stops = subst (λ u. Stops (ReadFault u) (settings_start names.settings) a b) h.0 h.1 in
    subst (λ u. IsAudit (ReadFault u) names a b) (sym h.0)
    (record { cause = (tt, stops.cause.1); starts = stops.started; written = stops.written; grows = stops.grows })
settings_end (OpenFault s) names a b few h =
    record {
      cause = h.cause;
      starts = before_more s (settings_start names.settings) (behind_settings names) a b h.started;
      written = h.written;
      grows = h.grows;
    }
settings_end OutOfMemory names a b few h = record {
  cause = inl few;
  starts = inl h.started;
  written = h.written;
  grows = h.grows;
}
settings_end e names a b few h = absurd h

-- nothing is asked of the given files where a head isn't good
bad_head : (t : Trace) (P : Merged → Type 0) → HeadsAre false t → IfSome t (λ all. (s : GateSettings) × IsAccepted s all × P (events_in all))
    → IfSome t
    (λ all. (s : GateSettings) × IsAccepted s all × P (events_in all) × (have_good_heads all.left_in all.right_in ≡ true → AreLawful s all))
bad_head None P h k = tt
bad_head (Some all) P h k = (k.0, k.1, k.2, λ good. absurd (false≢true (sym h ∙ good)))

-- reading an incoming head failed
head_unread : (side : Side) (names : Names) (a b : Outside) → Stops (ReadFault (slot_of side)) (first_starts names) a b
    → IsAudit (ReadFault (slot_of side)) names a b
head_unread Left names a b h = record { cause = (tt, h.cause.1); starts = inl h.started; written = h.written; grows = h.grows }
head_unread Right names a b h = record { cause = (tt, h.cause.1); starts = inl h.started; written = h.written; grows = h.grows }

-- the incoming heads ended the audit
pub heads_end : (e : Status) (settings : GateSettings) (names : Names) (a b c : Outside) → TakenFor [] a c
    → Settled settings (settings_start names.settings) a b → EndsAtHeads e (inputs_start names.left_in names.right_in) b c → IsAudit e names a c
heads_end (CaptureRefused side f place) settings names a b c few h k =
    let bad = heads_before false settings (settings_start names.settings) a b h k.4 in
    record {
      cause = (
        bad_head a.left (λ x. x.ending ≡ EndsFaulty side f place) bad
            (accepted_and settings (settings_start names.settings) a b (λ x. x.ending ≡ EndsFaulty side f place) h k.0),
        none_failed_on a b c h.counts k.5,
      );
      starts =
          told_heads (λ good. c.starts ≡ started_all (refused_starts good names) a.starts) false a.left bad
          (all_on (settings_start names.settings) (inputs_start names.left_in names.right_in) a b c h.starts k.1);
      written = k.2 ∙ h.written;
      grows = grows_on a b c h.grows k.3;
    }
heads_end (ReadFault s) settings names a b c few h k =
    let stops = subst (λ u. Stops (ReadFault u) (inputs_start names.left_in names.right_in) b c) k.1 k.2 in
    subst (λ u. IsAudit (ReadFault u) names a c) (sym k.1)
    (head_unread k.0 names a c
    (settled_stops (ReadFault (slot_of k.0)) settings (settings_start names.settings)
    (inputs_start names.left_in names.right_in) a b c h stops))
heads_end (OpenFault s) settings names a b c few h k =
    let stops = settled_stops (OpenFault s) settings (settings_start names.settings) (inputs_start names.left_in names.right_in) a b c h k in
    record {
      cause = stops.cause;
      starts = before_more s (first_starts names) (behind_inputs names) a c stops.started;
      written = stops.written;
      grows = stops.grows;
    }
heads_end OutOfMemory settings names a b c few h k =
    let stops = settled_stops OutOfMemory settings (settings_start names.settings) (inputs_start names.left_in names.right_in) a b c h k in
    record { cause = inl few; starts = inr (inl stops.started); written = stops.written; grows = stops.grows }
heads_end e settings names a b c few h k = absurd k

-- both heads were read
pub prepared : (settings : GateSettings) (m : Merging) (names : Names) (a b c : Outside) → Settled settings (settings_start names.settings) a b
    → Begun m (inputs_start names.left_in names.right_in) b c → Prepared settings m names a c
prepared settings m names a b c h k = record {
  accepted = h.accepted;
  sound = h.sound;
  forms = h.forms;
  stop = k.stop;
  work = k.work;
  ends = k.ends;
  given = given_since b a m c [] (λ side. ap (λ (t : Trace). told_at t (slot_of side)) h.left ∙ told_before side h.count a.left) k.given;
  heads = heads_before true settings (settings_start names.settings) a b h k.heads;
  events = sym (ap all_events h.left ∙ all_events-took_settings h.count a.left) ∙ k.events;
  settings_count = h.count;
  left_count = k.left_count;
  right_count = k.right_count;
  left = k.left ∙ ap (λ (t : Trace). took RightIn k.right_count (took LeftIn k.left_count t)) h.left;
  starts = all_on (settings_start names.settings) (inputs_start names.left_in names.right_in) a b c h.starts k.starts;
  written = k.written ∙ h.written;
  grows = grows_on a b c h.grows k.grows;
  counts = none_failed_on a b c h.counts k.counts;
}

-- ## The given heads and the report

-- a given file could not be started
pub not_opened : (e : Status) (names : Names) (a b : Outside) → Opens (Err e) (given_starts names) a b → StopsAtGiven e names a b
not_opened (OpenFault s) names a b h =
    record { cause = h.cause; started = before_more s (given_starts names) (answer_start names) a b h.started; written = h.written; grows = h.grows }
not_opened e names a b h = absurd h

-- a given head could not be read
pub not_begun : (e : Status) (settings : GateSettings) (names : Names) (a b c : Outside) → StartsAll (given_starts names) a b → ReadsGiven b c
    → Begins (Err e) settings b c → StopsAtGiven e names a c
not_begun (ReadFault s) settings names a b c h reads k = record {
  cause = (k.0, failed_since s a b c h.grows k.1);
  started = reads.starts ∙ h.starts;
  written = reads.written ∙ h.written;
  grows = grows_on a b c h.grows reads.grows;
}
not_begun OutOfMemory settings names a b c h reads k = record {
  cause = λ side. incoming_kept b c reads side ∙ ap (λ (t : Trace). told_at t (slot_of side)) h.left;
  started = reads.starts ∙ h.starts;
  written = reads.written ∙ h.written;
  grows = grows_on a b c h.grows reads.grows;
}
not_begun e settings names a b c h reads k = absurd k

-- the report could not be started
pub no_report : (e : Status) (names : Names) (a b c d : Outside) → StartsAll (given_starts names) a b → ReadsGiven b c
    → Opens (Err e) (answer_start names) c d → StopsAtGiven e names a d
no_report (OpenFault s) names a b c d h reads k =
    let grows = grows_on a b c h.grows reads.grows in
    record {
      cause = (k.cause.0, failed_to_start_since s a c d grows k.cause.1);
      started = before_on s (given_starts names) (answer_start names) a c d (reads.starts ∙ h.starts) k.started;
      written = k.written ∙ reads.written ∙ h.written;
      grows = grows_on a c d grows k.grows;
    }
no_report e names a b c d h reads k = absurd k

heads_since : (found : Option GivenFiles) (settings : GateSettings) (a b c d : Outside) → b.left ≡ a.left → d.left ≡ c.left
    → HeadsGiven found settings b c → HeadsGiven found settings a d
heads_since (Some r) settings a b c d e f h =
    (h.0, h.1, subst (λ (t : Trace). IfSome t (HaveLinks settings)) e h.2, ap (given_told r) f ∙ h.3 ∙ ap (option_map given_in) e)
heads_since None settings a b c d e f h = subst (λ (t : Trace). IfSome t (λ all. HaveLinks settings all → ⊥)) e h

-- all was started
pub readied : (found : Option GivenFiles) (settings : GateSettings) (names : Names) (a b c d : Outside) → StartsAll (given_starts names) a b
    → ReadsGiven b c → Begins (Ok found) settings b c → StartsAll (answer_start names) c d
    → Readied found settings names a d
readied found settings names a b c d h reads k l = record {
  heads = heads_since found settings a b c d h.left l.left k.0;
  left_count = reads.left_count;
  right_count = reads.right_count;
  report_count = reads.report_count;
  left = l.left ∙ reads.left
      ∙ ap (λ (t : Trace). took ReportGiven reads.report_count (took RightGiven reads.right_count (took LeftGiven reads.left_count t))) h.left;
  starts = all_on (given_starts names) (answer_start names) a c d (reads.starts ∙ h.starts) l.starts;
  written = l.written ∙ reads.written ∙ h.written;
  grows = grows_on a c d (grows_on a b c h.grows reads.grows) l.grows;
  counts = none_failed_on a c d (none_failed_on a b c h.counts k.1) l.counts;
}
