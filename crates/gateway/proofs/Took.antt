-- What a run took of the captures.
use Rattle.std.proofs.Common.{◌≡◌, inl, inr, List, [], ◌∷◌, Result, Ok, Err, Option, Some, None, IfSome, option_map, refl, sym, ap, subst, ◌∙◌}
use Rattle.std.proofs.lemmas.Option.{IfSome_then}
use Rattle.gate_base.specs.Prelude.{Event}
use Rattle.frag_join.specs.Prelude.{Arrival}
use Rattle.gate_desk.specs.Outside.{Outside, Trace, Start, told_at}
use Rattle.gate_report.specs.declared.line.Line.{Line}
use Rattle.gate_settings.specs.declared.settings.ReportForm.{ReportForm}
use Rattle.gate_settings.specs.declared.settings.Settings.{Settings as GateSettings}
use Rattle.pcap_merge.specs.declared.stop.MergeStop.{MergeStop}
use Rattle.pcap_merge.specs.declared.stop.MergeStop.TheVariants as merges
use Rattle.pcap_merge.specs.Prelude.{Merged, TakenFor, Merging, ComesTo, Finishes as FinishesMerge, Reads, StopsBy, TakesFew, ahead, slot_of}
use Rattle.pcap_merge.proofs.Given.{given_few, taken_later}
use Rattle.gate_sessions.specs.Compact.{CompactSession, compact_rules}
use Rattle.gate_core.specs.Gates.{Gateway}
use Rattle.gate_report.specs.declared.totals.Totals.{Totals}
use Rattle.run_setup.specs.declared.status.Status.{Status}
use Rattle.run_setup.specs.declared.status.Status.TheVariants.{Done, Usage, SettingsRefused, CaptureRefused, ReadFault, WriteFault, OpenFault, OutOfMemory, Unlawful}
use Rattle.gateway.specs.Prelude.{TookForWritten, WritesPieces, State, frames_of, heads, line_piece, Prepared, Readied, WritesLastLine, Handles, OfEvents, state_of, Piece, IsFront, wrote_pieces}
use Rattle.run_setup.specs.Prelude.{TookInputs}
use Rattle.run_setup.specs.RunNames.{Names, first_starts, output_starts}
use Rattle.gateway.specs.Ends.{StandWritten}
use Rattle.gateway.specs.Inside.Phases.{TookFew}
use Rattle.run_setup.proofs.Inputs.{captures_later, captures_read, inputs_later, inputs_on}
use Rattle.gateway.proofs.Pieces.{is_front_all, is_front_none, wrote_pieces-nil}
use Rattle.gateway.proofs.Progress.{Progress, Joiner, with_front, given_first, given_kept, failed_only}
use Rattle.gateway.proofs.Runs.{of_events, heads_written}

-- ## Before the events

pub gives_left : (r : Result (Unit {0}) Status) (ps : List Piece) (a b : Outside) → WritesPieces r ps a b → b.left ≡ a.left
gives_left (Ok u) ps a b h = h.only.left
gives_left (Err e) ps a b h = h.1.only.left

-- ## At an event

stand_of : (settings : GateSettings) (done : List Event) (behind : List Piece) (o : Option Merged) (a b c : Trace)
    → b ≡ wrote_pieces (given_first settings done) a → IsFront behind b c
    → IfSome (option_map (with_front done) o) (λ all. StandWritten settings done all.events a c)
stand_of settings done behind None a b c written front = tt
stand_of settings done behind (Some x) a b c written front =
    record { others = x.events; split = refl; behind = behind; written = subst (λ (t : Trace). IsFront behind t c) written front }

-- the events that were handled stand written, and a front of more
stands : (settings : GateSettings) (m0 m : Merging) (old now : Outside) (s : State CompactSession) (joiner : Joiner) (behind : List Piece)
    (new : Outside) → (h : Progress settings m0 old now m s joiner) → IsFront behind now.written new.written
    → OfEvents m0 old (λ all. StandWritten settings h.done all.events old.written new.written)
stands settings m0 m old now s joiner behind new h front =
    subst (λ o. IfSome o (λ all. StandWritten settings h.done all.events old.written new.written)) (sym h.others)
    (stand_of settings h.done behind (ahead m now.left) old.written now.written new.written h.written front)

few_stop : (stop : MergeStop) (m : Merging) (now new : Outside) → StopsBy stop m now new → TakesFew m now new × Reads now new
few_stop (merges.Fault side f place) m now new k = (k.2, k.0)
few_stop (merges.Desk slot) m now new k = (k.2.few, k.2.reads)
few_stop merges.OutOfMemory m now new k = absurd k

-- the merge stopped
pub took_stop : (stop : MergeStop) (settings : GateSettings) (m0 m : Merging) (old now new : Outside) (s : State CompactSession) (joiner : Joiner)
    → Progress settings m0 old now m s joiner → StopsBy stop m now new → TookFew settings m0 old new
took_stop stop settings m0 m old now new s joiner h k =
    let stopped = few_stop stop m now new k in
    record {
      handled = h.done;
      few = λ start given. stopped.0 start h.done (h.given start given);
      stand = stands settings m0 m old now s joiner [] new h
          (is_front_all [] now.written new.written (stopped.1.written ∙ sym (wrote_pieces-nil now.written)));
      captures = captures_read old now new h.captures stopped.1;
    }

-- of the last line a front was written, or all of it
line_front : (r : Result Line Status) (form : ReportForm) (line : Line) (mid new : Outside) → WritesLastLine r form line mid new
    → (new.left ≡ mid.left) × IsFront (line_piece form line ∷ []) mid.written new.written
line_front (Ok done) form line mid new f = (f.1.only.left, is_front_all (line_piece form line ∷ []) mid.written new.written f.1.written)
line_front (Err OutOfMemory) form line mid new f = (
  ap (λ (o : Outside). o.left) f.1,
  subst (λ (o : Outside). IsFront (line_piece form line ∷ []) mid.written o.written) (sym f.1)
      (is_front_none (line_piece form line ∷ []) mid.written),
)
line_front (Err Done) form line mid new f = (f.1.only.left, f.1.front)
line_front (Err Usage) form line mid new f = (f.1.only.left, f.1.front)
line_front (Err (SettingsRefused x)) form line mid new f = (f.1.only.left, f.1.front)
line_front (Err (CaptureRefused x y z)) form line mid new f = (f.1.only.left, f.1.front)
line_front (Err (ReadFault x)) form line mid new f = (f.1.only.left, f.1.front)
line_front (Err (WriteFault x)) form line mid new f = (f.1.only.left, f.1.front)
line_front (Err (OpenFault x)) form line mid new f = (f.1.only.left, f.1.front)
line_front (Err (Unlawful x y)) form line mid new f = (f.1.only.left, f.1.front)

-- all events were handled, and the last line was written or not
pub took_end : (r : Result Line Status) (settings : GateSettings) (m0 m m' : Merging) (old now mid new : Outside) (s : State CompactSession)
    (joiner : Joiner) (line : Line) → Progress settings m0 old now m s joiner → FinishesMerge m m' now mid
    → WritesLastLine r settings.report line mid new → TookFew settings m0 old new
took_end r settings m0 m m' old now mid new s joiner line h k f =
    let front = line_front r settings.report line mid new f in
    record {
      handled = h.done;
      few = λ start given. taken_later start mid new h.done (λ side. ap (λ (t : Trace). told_at t (slot_of side)) front.0)
          (k.few start h.done (h.given start given));
      stand = stands settings m0 m old now s joiner (line_piece settings.report line ∷ []) new h
          (subst (λ (t : Trace). IsFront (line_piece settings.report line ∷ []) t new.written) k.reads.written front.1);
      captures = captures_later old mid new front.0 (captures_read old now mid h.captures k.reads);
    }

event_front : (e : Status) (gate gate' : Gateway) (totals : Totals) (event : Arrival) (mid new : Outside)
    → Handles (Err e) gate gate' totals event mid new → (behind : List Piece) × IsFront behind mid.written new.written
event_front OutOfMemory gate gate' totals event mid new k = elim k as (λ x. (behind : List Piece) × IsFront behind mid.written new.written) [
  | inl wants ↦ ([], is_front_all [] mid.written new.written (ap (λ (o : Outside). o.written) wants.1 ∙ sym (wrote_pieces-nil mid.written)))
  | inr line ↦ (
    frames_of compact_rules gate.settings (state_of gate totals) event,
    is_front_all (frames_of compact_rules gate.settings (state_of gate totals) event) mid.written new.written line.1.written,
  )
]
event_front e gate gate' totals event mid new k = (_, k.1.front)

-- a frame was not handled to its end
pub took_fail : (x : Status) (settings : GateSettings) (gate gate' : Gateway) (totals : Totals) (m0 m m' : Merging) (old now mid new : Outside)
    (s : State CompactSession) (joiner : Joiner) (e : Event) (a : Arrival) → Progress settings m0 old now m s joiner → ComesTo e m m' now mid
    → Handles (Err x) gate gate' totals a mid new → TookFew settings m0 old new
took_fail x settings gate gate' totals m0 m m' old now mid new s joiner e a h gives k =
    let front = event_front x gate gate' totals a mid new k in
    let same = (failed_only x gate gate' totals a mid new k).left in
    record {
      handled = h.done;
      few = λ start given. taken_later start mid new h.done (λ side. ap (λ (t : Trace). told_at t (slot_of side)) same)
          (gives.few start h.done (h.given start given));
      stand = stands settings m0 m old now s joiner front.0 new h (subst (λ (t : Trace). IsFront front.0 t new.written) gives.reads.written front.1);
      captures = captures_later old mid new same (captures_read old now mid h.captures gives.reads);
    }

-- ## The whole run

pub took_unwritten : (a b : Outside) → TakenFor [] a b → TookInputs a b → TookForWritten a b
took_unwritten a b few inputs = record { handled = []; few = few; stand = inl refl; inputs = inputs }

-- nothing was read behind both heads
pub took_prepared : (gate : Gateway) (m : Merging) (xs : List Start) (a b c : Outside) → Prepared gate m xs a b → c.left ≡ b.left → TookForWritten a c
took_prepared gate m xs a b c h e =
    took_unwritten a c (taken_later a b c [] (λ side. ap (λ (t : Trace). told_at t (slot_of side)) e) (given_few a m b [] h.given))
    (inputs_later a b c e h.inputs)

pub took_events : (gate : Gateway) (m : Merging) (names : Names) (a b c d : Outside) → Prepared gate m (first_starts names) a b
    → Readied gate.settings (output_starts names) b c → TookFew gate.settings m c d → TookForWritten a d
took_events gate m names a b c d h k f = record {
  handled = f.handled;
  few = f.few a (given_kept a m b c [] k.left h.given);
  stand = inr (of_events gate m names a b c (λ s all. StandWritten s f.handled all.events (wrote_pieces (heads s) a.written) d.written) h k.left
      (IfSome_then (ahead m c.left) f.stand
      (λ all p. subst (λ (t : Trace). StandWritten gate.settings f.handled all.events t d.written) (heads_written gate m names a b c h k) p)));
  inputs = inputs_on a c d (inputs_later a b c k.left h.inputs) f.captures;
}
