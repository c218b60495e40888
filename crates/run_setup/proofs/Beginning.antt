-- The settings and the heads of both captures.
use Rattle.std.proofs.Common.{◌≡◌, ℕ, ◌<◌, List, [], ◌++◌, Bool, true, false, nat_lt, Result, Ok, Err, IfOk, IsTrue, Option, Some, None, IfSome, option_map, take, drop, length, refl, sym, ap, subst, ◌∙◌, arith, inl, inr, take_all, length-take-le}
use Rattle.std.proofs.lemmas.Bool.{cases_Bool, false≢true}
use Rattle.std.proofs.lemmas.Option.{IfSome_then}
use borrow.Author.Tests.{ltb-true, ltb-false, lt-ltb}
use Rattle.gate_desk.specs.declared.slot.Slot.{Slot}
use Rattle.gate_desk.specs.declared.slot.Slot.TheVariants.{Settings, LeftIn, RightIn}
use Rattle.gate_desk.specs.declared.slot.PerSlot.{PerSlot}
use Rattle.gate_desk.specs.declared.whole.TakeStop.{TakeStop}
use Rattle.gate_desk.specs.declared.whole.TakeStop.TheVariants as takes
use Rattle.gate_desk.specs.Outside.{Outside, Trace, Start, Takes, TakesFewer, AreUpTo, told_at, took}
use Rattle.gate_desk.specs.Stops.{HasStopped}
use Rattle.gate_desk.proofs.Laws.{grows_on, grows_takes, none_failed_on, told_at-took, told_at-took_other}
use Rattle.gate_settings.specs.declared.settings.Settings.{Settings as GateSettings}
use Rattle.settings_file.specs.declared.fault.SettingsFault.{SettingsFault}
use Rattle.settings_file.specs.declared.fault.SettingsFault.TheVariants.{TooLong}
use Rattle.settings_file.specs.declared.fault.ReadSettings.{ReadSettings}
use Rattle.settings_file.specs.declared.fault.ReadSettings.TheVariants as reads
use Rattle.settings_file.specs.Firsts.{ReturnsFound}
use Rattle.settings_file.specs.Document.{keys_of}
use Rattle.settings_file.specs.Accepting.{settings_of}
use Rattle.gate_settings.specs.Prelude.{IsSound, HasForms}
use Rattle.pcap_files.specs.declared.fault.CaptureFault.{CaptureFault}
use Rattle.pcap_merge.specs.declared.stop.MergeStop.{MergeStop}
use Rattle.pcap_merge.specs.declared.stop.MergeStop.TheVariants as merges
use Rattle.pcap_merge.specs.Prelude.{Merged, Ending, Done as BothEnded, Fault as EndsFaulty, have_good_heads, is_unread, HasRead, count_of_side, Merging, HeadsAre, HasGiven, Reads, Begins, reading_of, StopLeavesCounts, slot_of}
use Rattle.pcap_merge.specs.Merge.{all_events, count_of}
use Rattle.gate_base.specs.Prelude.{Event}
use Rattle.gate_base.specs.declared.side.Side.{Side}
use Rattle.gate_base.specs.declared.side.Side.TheVariants.{Left, Right}
use Rattle.run_setup.specs.declared.status.Status.{Status}
use Rattle.run_setup.specs.declared.status.Status.TheVariants.{ReadFault, OpenFault, OutOfMemory, CaptureRefused}
use Rattle.run_setup.specs.Prelude.{status_of_take, status_of_settings, status_of_merge, Causes, StartsAll, StartedBy, Stops, Opens, is_read, IsAccepted, IsBeforeHead, events_in, Settled, Settles, EndsAtSettings, Begun, EndsAtHeads}
use Rattle.run_setup.proofs.Causes.{causes_since, stops_on}

-- what is told
pub at_told : {A : Type 0} (t : Option A) (x : A) (P : A → Type 0) → t ≡ Some x → IfSome t P → P x
at_told t x P e h = subst (λ (o : Option _). IfSome o P) e h

-- what holds as both heads are good or not
pub told_heads : (P : Bool → Type 0) (good : Bool) (t : Trace) → HeadsAre good t → P good
    → IfSome t (λ all. P (have_good_heads all.left_in all.right_in))
told_heads P good None h p = tt
told_heads P good (Some all) h p = subst P (sym h) p

-- accepted settings have no fault, and refused ones have one
pub no_fault : (all : PerSlot (List ℕ)) (settings : GateSettings) (fault : SettingsFault) → IsAccepted settings all
    → settings_of all.settings ≡ Err fault → ⊥
no_fault all settings fault a b = cc

pub same_fault : (f g : SettingsFault) (all : PerSlot (List ℕ)) → settings_of all.settings ≡ Err f → settings_of all.settings ≡ Err g → f ≡ g
same_fault f g all a b = cc

-- both captures don't end where one is faulty, which has one fault
pub no_end : (e : Ending) (side : Side) (fault : CaptureFault) (place : ℕ) → e ≡ BothEnded → e ≡ EndsFaulty side fault place → ⊥
no_end e side fault place a b = cc

pub same_end : (e : Ending) (s t : Side) (f g : CaptureFault) (n m : ℕ) → e ≡ EndsFaulty s f n → e ≡ EndsFaulty t g m
    → CaptureRefused s f n ≡ CaptureRefused t g m
same_end e s t f g n m a b = cc

too_long : (octets : List ℕ) → 1048576 < length octets → settings_of octets ≡ Err TooLong
unfolding settings_of keys_of
too_long octets long = rw (lt-ltb 1048576 (length octets) long) refl

-- so many octets say as much as all
pub settings_of-take : (all : List ℕ) → settings_of (take 1048577 all) ≡ settings_of all
settings_of-take all =
    elim (cases_Bool (nat_lt 1048576 (length all))) [
      | inl long ↦
          let more : 1048576 < length all = ltb-true _ _ long in
          too_long (take 1048577 all) (omega (arith, length-take-le 1048577 all (omega arith))) ∙ sym (too_long all more)
      | inr short ↦ ap settings_of (take_all 1048577 all (omega (arith, ltb-false _ _ short)))
    ]

told_settings-of : (told : Trace) (text : List ℕ) (found : Result GateSettings SettingsFault) → settings_of text ≡ found
    → IfSome (told_at told Settings) (λ all. text ≡ take 1048577 all) → IfSome told (λ all. settings_of all.settings ≡ found)
unfolding told_at
told_settings-of None text found e h = tt
told_settings-of (Some p) text found e h = sym (settings_of-take p.settings) ∙ ap settings_of (sym h) ∙ e

told_settings : (text : List ℕ) (found : Result GateSettings SettingsFault) (xs : List Start) (a b : Outside) → StartsAll xs a b
    → AreUpTo 1048577 text b Settings → settings_of text ≡ found → IfSome a.left (λ all. settings_of all.settings ≡ found)
told_settings text found xs a b h are e =
    told_settings-of a.left text found e (subst (λ (t : Trace). IfSome (told_at t Settings) (λ all. text ≡ take 1048577 all)) h.left are)

abbrev pub status_of_read : Result GateSettings ReadSettings → Result GateSettings Status
status_of_read (Ok s) = Ok s
status_of_read (Err e) = Err (status_of_settings e)

-- the settings were taken from their slot
pub settles : (r : Result GateSettings ReadSettings) (text : List ℕ) (xs : List Start) (a b c : Outside) → StartsAll xs a b
    → Takes Settings (length text) b c → AreUpTo 1048577 text b Settings → ReturnsFound r (settings_of text)
    → c.faults ≡ b.faults → IfOk r IsSound → IfOk r HasForms → Settles (status_of_read r) xs a c
settles (Ok s) text xs a b c h t are e leaves sound forms = record {
  accepted = told_settings text (Ok s) xs a b h are e;
  sound = sound;
  forms = forms;
  count = length text;
  left = t.left ∙ ap (took Settings (length text)) h.left;
  starts = t.starts ∙ h.starts;
  written = t.written ∙ h.written;
  grows = grows_on a b c h.grows (grows_takes Settings (length text) b c t);
  counts = none_failed_on a b c h.counts (record { faults = leaves; start_faults = t.start_faults });
}
settles (Err (reads.Fault f)) text xs a b c h t are e leaves sound forms = (
  told_settings text (Err f) xs a b h are e,
  t.starts ∙ h.starts,
  t.written ∙ h.written,
  grows_on a b c h.grows (grows_takes Settings (length text) b c t),
  none_failed_on a b c h.counts (record { faults = leaves; start_faults = t.start_faults }),
)
settles (Err reads.OutOfMemory) text xs a b c h t are e leaves sound forms =
    record {
      cause = tt;
      started = t.starts ∙ h.starts;
      written = t.written ∙ h.written;
      grows =
          grows_on a b c h.grows (grows_takes Settings (length text) b c t);
    }

-- the settings could not be taken
pub settle_stops : (stop : TakeStop) (xs : List Start) (k : ℕ) (a b c : Outside) → StartsAll xs a b → TakesFewer Settings k b c
    → HasStopped stop Settings b c → EndsAtSettings (status_of_take stop) xs a c
settle_stops (takes.Desk s) xs k a b c h t stop = (
  stop.0,
  subst (λ u. Stops (ReadFault u) xs a c) (sym stop.0) (record {
    cause = causes_since (ReadFault Settings) a b c h.grows (refl, stop.1);
    started = t.2.starts ∙ h.starts;
    written = t.2.written ∙ h.written;
    grows = grows_on a b c h.grows (grows_takes Settings t.0 b c t.2);
  }),
)
settle_stops takes.OutOfMemory xs k a b c h t stop =
    record {
      cause = tt;
      started = t.2.starts ∙ h.starts;
      written = t.2.written ∙ h.written;
      grows =
          grows_on a b c h.grows (grows_takes Settings t.0 b c t.2);
    }

-- the settings could not be started
pub at_settings : (e : Status) (xs : List Start) (a b : Outside) → Opens (Err e) xs a b → EndsAtSettings e xs a b
at_settings (OpenFault s) xs a b h = h
at_settings e xs a b h = absurd h

-- the same events were given since an earlier start that told the same of the captures
pub given_since : (start earlier : Outside) (m : Merging) (now : Outside) (events : List Event)
    → ((side : Side) → told_at start.left (slot_of side) ≡ told_at earlier.left (slot_of side)) → HasGiven start m now events
    → HasGiven earlier m now events
given_since start earlier m now events same h = record {
  stands = λ side. h.stands side ∙ ap (option_map (drop (reading_of side m).place)) (same side);
  near = h.near;
  before =
      λ side. subst (λ t. IfSome t (HasRead (reading_of side m) (is_unread side m.last) (count_of_side side events))) (same side) (h.before side);
  last = h.last;
}

pub begins : (m : Merging) (xs : List Start) (a b c : Outside) → StartsAll xs a b → Begins (Ok m) b c → c.faults ≡ b.faults → Begun m xs a c
begins m xs a b c h k leaves = record {
  stop = k.stop;
  heads = subst (HeadsAre true) h.left k.heads;
  events = ap all_events (sym h.left) ∙ k.events;
  given = given_since b a m c [] (λ side. ap (λ (t : Trace). told_at t (slot_of side)) h.left) k.given;
  work = k.work;
  ends = k.ends;
  left_count = k.reads.left_count;
  right_count = k.reads.right_count;
  left = k.reads.left ∙ ap (λ (t : Trace). took RightIn k.reads.right_count (took LeftIn k.reads.left_count t)) h.left;
  starts = k.reads.starts ∙ h.starts;
  written = k.reads.written ∙ h.written;
  grows = grows_on a b c h.grows k.reads.grows;
  counts = none_failed_on a b c h.counts (record { faults = leaves; start_faults = k.reads.start_faults });
}

stops_reading : (e : Status) (xs : List Start) (a b c : Outside) → StartsAll xs a b → Reads b c → Causes e b c → StartedBy e xs a c → Stops e xs a c
stops_reading e xs a b c h k cause started = record {
  cause = causes_since e a b c h.grows cause;
  started = started;
  written = k.written ∙ h.written;
  grows = grows_on a b c h.grows k.grows;
}

before_head : (side : Side) (a b c : Outside) → b.left ≡ a.left → (reads : Reads b c) → count_of side reads < 24 → IsBeforeHead (slot_of side) a c
before_head Left a b c e reads few = (
  reads.left_count,
  few,
  ap (λ (t : Trace). told_at t LeftIn) reads.left ∙ told_at-took_other RightIn LeftIn reads.right_count (took LeftIn reads.left_count b.left) refl
      ∙ told_at-took LeftIn reads.left_count b.left
      ∙ ap (λ (t : Trace). option_map (drop reads.left_count) (told_at t LeftIn)) e,
)
before_head Right a b c e reads few = (
  reads.right_count,
  few,
  ap (λ (t : Trace). told_at t RightIn) reads.left ∙ told_at-took RightIn reads.right_count (took LeftIn reads.left_count b.left)
      ∙ ap (option_map (drop reads.right_count)) (told_at-took_other LeftIn RightIn reads.left_count b.left refl)
      ∙ ap (λ (t : Trace). option_map (drop reads.right_count) (told_at t RightIn)) e,
)

pub is_read_side : (side : Side) → IsTrue (is_read (slot_of side))
is_read_side Left = refl
is_read_side Right = refl

pub begin_stops : (stop : MergeStop) (xs : List Start) (a b c : Outside) → StartsAll xs a b → Begins (Err stop) b c → StopLeavesCounts stop b c
    → EndsAtHeads (status_of_merge stop) xs a c
begin_stops (merges.Fault side f place) xs a b c h k leaves = (
  subst (λ t. IfSome (all_events t) (λ all. all.ending ≡ EndsFaulty side f place)) h.left
      (IfSome_then (all_events b.left) k.1 (λ all e. ap (λ (x : Merged). x.ending) e)),
  k.0.starts ∙ h.starts,
  k.0.written ∙ h.written,
  grows_on a b c h.grows k.0.grows,
  subst (HeadsAre false) h.left k.2,
  none_failed_on a b c h.counts (record { faults = leaves; start_faults = k.0.start_faults }),
)
begin_stops (merges.Desk s) xs a b c h k leaves = (
  k.0,
  k.1,
  stops_reading (ReadFault s) xs a b c h k.3.0 (subst (λ u. IsTrue (is_read u)) (sym k.1) (is_read_side k.0), k.2) (k.3.0.starts ∙ h.starts),
  subst (λ u. IsBeforeHead u a c) (sym k.1) (before_head k.0 a b c h.left k.3.0 k.3.1),
)
begin_stops merges.OutOfMemory xs a b c h k leaves = stops_reading OutOfMemory xs a b c h k.0 tt (k.0.starts ∙ h.starts)

pub at_heads : (e : Status) (xs : List Start) (a b : Outside) → Opens (Err e) xs a b → EndsAtHeads e xs a b
at_heads (OpenFault s) xs a b h = h
at_heads e xs a b h = absurd h

-- the captures are as they were before the settings were read
pub all_events-took_settings : (n : ℕ) (t : Trace) → all_events (took Settings n t) ≡ all_events t
unfolding all_events took
all_events-took_settings n None = refl
all_events-took_settings n (Some p) = refl

heads_are-took_settings : (good : Bool) (n : ℕ) (t : Trace) → HeadsAre good (took Settings n t) → HeadsAre good t
unfolding took
heads_are-took_settings good n None h = tt
heads_are-took_settings good n (Some p) h = h

pub heads_before : (good : Bool) (settings : GateSettings) (xs : List Start) (a b : Outside) → Settled settings xs a b → HeadsAre good b.left
    → HeadsAre good a.left
heads_before good settings xs a b h k = heads_are-took_settings good h.count a.left (subst (HeadsAre good) h.left k)

pub both : (t : Trace) (settings : GateSettings) (P : GateSettings → Merged → Type 0) → IfSome t (IsAccepted settings)
    → IfSome (all_events t) (P settings) → IfSome t (λ all. (s : GateSettings) × IsAccepted s all × P s (events_in all))
unfolding all_events
both None settings P h k = tt
both (Some p) settings P h k = (settings, h, k)

pub accepted_and : (settings : GateSettings) (xs : List Start) (a b : Outside) (P : Merged → Type 0) → Settled settings xs a b
    → IfSome (all_events b.left) P → IfSome a.left (λ all. (s : GateSettings) × IsAccepted s all × P (events_in all))
accepted_and settings xs a b P h k =
    both a.left settings (λ s. P) h.accepted (subst (λ o. IfSome o P) (ap all_events h.left ∙ all_events-took_settings h.count a.left) k)

-- what is told of the captures is as it was before the settings were read
pub told_before : (side : Side) (n : ℕ) (t : Trace) → told_at (took Settings n t) (slot_of side) ≡ told_at t (slot_of side)
told_before Left n t = told_at-took_other Settings LeftIn n t refl
told_before Right n t = told_at-took_other Settings RightIn n t refl

pub before_head_since : (s : Slot) (settings : GateSettings) (xs : List Start) (a b c : Outside) → IsTrue (is_read s) → Settled settings xs a b
    → IsBeforeHead s b c → IsBeforeHead s a c
before_head_since Settings settings xs a b c is h k = tt
before_head_since LeftIn settings xs a b c is h k =
    (k.0, k.1, k.2 ∙ ap (option_map (drop k.0)) (ap (λ (t : Trace). told_at t LeftIn) h.left ∙ told_before Left h.count a.left))
before_head_since RightIn settings xs a b c is h k =
    (k.0, k.1, k.2 ∙ ap (option_map (drop k.0)) (ap (λ (t : Trace). told_at t RightIn) h.left ∙ told_before Right h.count a.left))
before_head_since s settings xs a b c is h k = absurd (false≢true is)

pub settled_stops : (e : Status) (settings : GateSettings) (xs ys : List Start) (a b c : Outside) → Settled settings xs a b → Stops e ys b c
    → Stops e (xs ++ ys) a c
settled_stops e settings xs ys a b c h k = stops_on e xs ys a b c h.starts h.written h.grows k
