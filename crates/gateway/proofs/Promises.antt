-- What a run keeps of what is promised.
use Rattle.std.proofs.Common.{◌≡◌, ℕ, ◌+◌, List, [], ◌∷◌, ◌++◌, length, true, Result, Ok, Some, None, inl, inr, refl, sym, ap, subst, ◌∙◌, append_assoc, arith, IfSome, fold}
use Rattle.std.proofs.lemmas.Bool.{cases_Bool}
use Rattle.std.proofs.lemmas.Option.{IfSome_then}
use Rattle.gate_base.specs.Prelude.{other}
use Rattle.gate_base.specs.declared.side.Side.{Side}
use Rattle.gate_base.specs.declared.side.Side.TheVariants.{Left, Right}
use Rattle.frag_join.specs.Prelude.{Arrival, Reaches, Stopped}
use Rattle.frag_join.specs.Arrivals.{coming}
use Rattle.frag_join.proofs.ArrivalSteps.{arrivals_are}
use Rattle.gate_desk.specs.declared.slot.PerSlot.{PerSlot}
use Rattle.gate_desk.specs.declared.slot.Slot.TheVariants.{LeftIn, RightIn}
use Rattle.gate_desk.specs.Outside.{Outside, Trace}
use Rattle.settings_file.specs.Accepting.{settings_of}
use Rattle.gate_settings.specs.declared.settings.Settings.{Settings as GateSettings}
use Rattle.settings_file.proofs.Accepted.{accepted as accepted_settings}
use Rattle.pcap_files.specs.Prelude.{Head, Good, Bad, head_of}
use Rattle.pcap_merge.specs.Prelude.{Merged, Done as BothEnded, are_good, by_heads}
use Rattle.pcap_merge.specs.Events.{have_good_heads, events_of}
use Rattle.gate_model.specs.Prelude.{whole_rules, WholeSession, next, out, verdict, World}
use Rattle.gate_model.proofs.Promises.{promised}
use Rattle.run_setup.specs.declared.status.Status.{Status}
use Rattle.run_setup.specs.declared.status.Status.TheVariants.{Done, CaptureRefused, ReadFault, WriteFault, OutOfMemory}
use Rattle.run_setup.specs.Prelude.{IsAccepted, events_in}
use Rattle.run_setup.specs.RunNames.{Names}
use Rattle.gateway.specs.Prelude.{Piece, IsFront, wrote_pieces, State, opening, after_one, after, arrivals_by, sent, event_piece, given_by, given_by_all, ended_by, heads, files, Wants, outputs_of, IsRun, IsPromised}
use Rattle.gateway.specs.Machine.{given_by_merged}
use Rattle.gateway.specs.Promise.{promised_of, EachStands, KeepsPromise}
use Rattle.gateway.specs.Answers.{HasWritten, StopsAtCapture, WantsMemory}
use Rattle.gateway.proofs.Pieces.{is_front_none, is_front_all, is_front_more, is_front_on}
use Rattle.gateway.proofs.Progress.{given_all-append, given_all-cons, front_of_first, front_of_line}
use Rattle.gateway.proofs.Runs.{good_outputs, bad_outputs}

-- ## Where each frame's pieces stand

-- the machine knows what is known
world_after : (arrivals : List Arrival) (s : State WholeSession)
    → (after whole_rules s arrivals).world ≡ fold (next whole_rules) s.world (coming arrivals)
unfolding coming
world_after [] s = refl
world_after (Reaches e ∷ others) s = world_after others (after_one whole_rules s (Reaches e))
world_after (Stopped e v ∷ others) s = world_after others (after_one whole_rules s (Stopped e v))

-- it counts each frame
counted_after : (arrivals : List Arrival) (s : State WholeSession) → (after whole_rules s arrivals).totals.events ≡ s.totals.events + length arrivals
counted_after [] s = omega arith
counted_after (Reaches e ∷ others) s = let more = counted_after others (after_one whole_rules s (Reaches e)) in omega (arith, more)
counted_after (Stopped e v ∷ others) s = let more = counted_after others (after_one whole_rules s (Stopped e v)) in omega (arith, more)

-- what a frame gives after others
given_after : (settings : GateSettings) (done : List Arrival) (a : Arrival)
    → given_by whole_rules settings (after whole_rules (opening settings) done) a ≡ promised_of settings done a
given_after settings done (Reaches e) =
    let gives : ℕ → World WholeSession → List Piece =
    λ n w. sent settings (other e.side) e.moment (out whole_rules w e) ++ event_piece settings.report (n + 1) e.side e.moment
    (verdict whole_rules w e) (length (out whole_rules w e)) ∷ [] in
    let s = after whole_rules (opening settings) done in
    let counted : s.totals.events ≡ length done = omega (arith, counted_after done (opening settings)) in
    ap (λ (n : ℕ). gives n s.world) counted ∙ ap (gives (length done)) (world_after done (opening settings))
given_after settings done (Stopped e v) =
    let s = after whole_rules (opening settings) done in
    let counted : s.totals.events ≡ length done = omega (arith, counted_after done (opening settings)) in
    ap (λ (n : ℕ). event_piece settings.report (n + 1) e.side e.moment v 0 ∷ []) counted

each_stands : (settings : GateSettings) (all : Merged) → EachStands settings all
unfolding given_by_merged
each_stands settings all done others a split =
    let start : State WholeSession = opening settings in
    let s : State WholeSession = after whole_rules start done in
    let front = given_by_all whole_rules settings start done in
    let rest = given_by_all whole_rules settings (after_one whole_rules s a) others in
    let end = ended_by settings (after whole_rules start (arrivals_by settings all.events)) all.ending in
    let one = given_by whole_rules settings s a in
    let events : given_by_all whole_rules settings start (arrivals_by settings all.events) ≡ front ++ (one ++ rest) =
    ap (given_by_all whole_rules settings start) split ∙ given_all-append settings start done (a ∷ others)
    ∙ ap (λ (ps : List Piece). front ++ ps) (given_all-cons settings s a others) in
    record {
      behind = rest ++ end;
      split =
          ap (λ (ps : List Piece). ps ++ end) events
          ∙ append_assoc front (one ++ rest) end
          ∙ ap (λ (ps : List Piece). front ++ ps) (append_assoc one rest end)
          ∙ ap (λ (ps : List Piece). front ++ (ps ++ (rest ++ end))) (given_after settings done a);
    }

-- ## What stands written

same_answer : {A E : Type 0} (r : Result A E) (x y : A) → r ≡ Ok x → r ≡ Ok y → x ≡ y
same_answer r x y e f = cc

-- there is one result of the settings
for_all_accepted : (t : Trace) (P : GateSettings → PerSlot (List ℕ) → Type 0) → IfSome t (λ all. (s : GateSettings) × IsAccepted s all × P s all)
    → IfSome t (λ all. (s : GateSettings) → IsAccepted s all → P s all)
for_all_accepted None P h = tt
for_all_accepted (Some all) P h = λ s accepted. subst (λ (x : GateSettings). P x all) (same_answer (settings_of all.settings) h.0 s h.1 accepted) h.2

always : (t : Trace) (P : GateSettings → PerSlot (List ℕ) → Type 0) → ((s : GateSettings) (all : PerSlot (List ℕ)) → P s all)
    → IfSome t (λ all. (s : GateSettings) → IsAccepted s all → P s all)
always None P f = tt
always (Some all) P f = λ s accepted. f s all

-- a front of what two captures give
abbrev WrotesFront : Outside → Outside → GateSettings → PerSlot (List ℕ) → Type 0
WrotesFront a b s all = IsFront (files s (events_in all)) a.written b.written

nothing_written : (a b : Outside) → b.written ≡ a.written → IfSome a.left (λ all. (s : GateSettings) → IsAccepted s all → WrotesFront a b s all)
nothing_written a b e =
    always a.left (WrotesFront a b)
    (λ s all. subst (λ t. IsFront (files s (events_in all)) a.written t) (sym e) (is_front_none (files s (events_in all)) a.written))

files_front : (s : GateSettings) (all : PerSlot (List ℕ)) (t u : Trace) → IsFront (outputs_of s all) t u → IsFront (files s (events_in all)) t u
files_front s all t u h =
    elim (cases_Bool (have_good_heads all.left_in all.right_in)) [
      | inl good ↦ subst (λ ps. IsFront ps t u) (good_outputs s all good) h
      | inr bad ↦ is_front_more [] (files s (events_in all)) t u (subst (λ ps. IsFront ps t u) (bad_outputs s all bad) h)
    ]

outputs_front : (a b : Outside) → IfSome a.left (λ all. (s : GateSettings) × IsAccepted s all × IsFront (outputs_of s all) a.written b.written)
    → IfSome a.left (λ all. (s : GateSettings) → IsAccepted s all → WrotesFront a b s all)
outputs_front a b h =
    for_all_accepted a.left (WrotesFront a b) (IfSome_then a.left h (λ all k. (k.0, k.1, files_front k.0 all a.written b.written k.2)))

whole_front : (a b : Outside) → IfSome a.left (λ all. (s : GateSettings) × IsAccepted s all × (b.written ≡ wrote_pieces (outputs_of s all) a.written))
    → IfSome a.left (λ all. (s : GateSettings) → IsAccepted s all → WrotesFront a b s all)
whole_front a b h = outputs_front a b (IfSome_then a.left h (λ all k. (k.0, k.1, is_front_all (outputs_of k.0 all) a.written b.written k.2)))

-- behind the heads a front of what the events give
behind_heads : (a b : Outside)
    → IfSome a.left
    (λ all. (s : GateSettings) × IsAccepted s all × IsFront (given_by_merged s (events_in all)) (wrote_pieces (heads s) a.written) b.written)
    → IfSome a.left (λ all. (s : GateSettings) → IsAccepted s all → WrotesFront a b s all)
behind_heads a b h =
    for_all_accepted a.left (WrotesFront a b)
    (IfSome_then a.left h
    (λ all k. (
      k.0,
      k.1,
      is_front_on (heads k.0) (given_by_merged k.0 (events_in all)) a.written (wrote_pieces (heads k.0) a.written) b.written refl k.2,
    )))

wanted_front : (s : GateSettings) (all : Merged) (a b : Trace) → Wants s all a b → IsFront (given_by_merged s all) a b
wanted_front s all a b (inl h) = front_of_first s h.handled all a b (record { others = h.next ∷ h.others; split = h.split; written = h.written })
wanted_front s all a b (inr h) = front_of_line s all a b h.1

stops_front : (side : Side) (names : Names) (a b : Outside) → StopsAtCapture side names a b
    → IfSome a.left (λ all. (s : GateSettings) → IsAccepted s all → WrotesFront a b s all)
stops_front side names a b (inl h) = nothing_written a b h.0
stops_front side names a b (inr h) =
    behind_heads a b
    (IfSome_then a.left h.0.written
    (λ all k. (k.0, k.1, front_of_first k.0 h.0.handled (events_in all) (wrote_pieces (heads k.0) a.written) b.written k.3)))

wants_front : (names : Names) (a b : Outside) → WantsMemory names a b
    → IfSome a.left (λ all. (s : GateSettings) → IsAccepted s all → WrotesFront a b s all)
wants_front names a b (inl h) = nothing_written a b h.0
wants_front names a b (inr h) =
    behind_heads a b
    (IfSome_then a.left h.0 (λ all k. (k.0, k.1, wanted_front k.0 (events_in all) (wrote_pieces (heads k.0) a.written) b.written k.3)))

front_written : (status : Status) (names : Names) (a b : Outside) → HasWritten status names a b
    → IfSome a.left (λ all. (s : GateSettings) → IsAccepted s all → WrotesFront a b s all)
front_written Done names a b h = whole_front a b h
front_written (CaptureRefused side fault place) names a b h = whole_front a b h
front_written (ReadFault LeftIn) names a b h = stops_front Left names a b h
front_written (ReadFault RightIn) names a b h = stops_front Right names a b h
front_written (ReadFault slot) names a b h = nothing_written a b h.0
front_written (WriteFault slot) names a b h = outputs_front a b h
front_written OutOfMemory names a b h = wants_front names a b h
front_written e names a b h = nothing_written a b h

-- captures that are read to their ends have good heads
ended_heads : (left right : List ℕ) (x y : Head) → (by_heads left right x y).ending ≡ BothEnded → are_good x y ≡ true
ended_heads left right (Bad f) y e = absurd (cc)
ended_heads left right (Good l) (Bad f) e = absurd (cc)
ended_heads left right (Good l) (Good r) e = refl

ended_good : (left right : List ℕ) → (events_of left right).ending ≡ BothEnded → have_good_heads left right ≡ true
unfolding events_of have_good_heads
ended_good left right e = ended_heads left right (head_of left) (head_of right) e

with_ended : (t a b : Trace) → IfSome t (λ all. (s : GateSettings) × IsAccepted s all × (b ≡ wrote_pieces (outputs_of s all) a))
    → IfSome t (λ all. (s : GateSettings) × IsAccepted s all × ((events_in all).ending ≡ BothEnded))
    → IfSome t (λ all. (s : GateSettings) × IsAccepted s all × (b ≡ wrote_pieces (files s (events_in all)) a))
with_ended None a b h k = tt
with_ended (Some all) a b h k =
    (h.0, h.1, h.2 ∙ ap (λ (ps : List Piece). wrote_pieces ps a) (good_outputs h.0 all (ended_good all.left_in all.right_in k.2)))

whole_files : (names : Names) (a b : Outside) → IsRun Done names a b
    → IfSome a.left (λ all. (s : GateSettings) → IsAccepted s all → b.written ≡ wrote_pieces (files s (events_in all)) a.written)
whole_files names a b h =
    for_all_accepted a.left (λ s all. b.written ≡ wrote_pieces (files s (events_in all)) a.written)
    (with_ended a.left a.written b.written h.written h.ends.cause.0)

keeps : (t : Trace) (status : Status) (a b : Trace) → IfSome t (λ all. (s : GateSettings) → IsAccepted s all → IsFront (files s (events_in all)) a b)
    → (status ≡ Done → IfSome t (λ all. (s : GateSettings) → IsAccepted s all → b ≡ wrote_pieces (files s (events_in all)) a))
    → IfSome t (λ all. (s : GateSettings) → IsAccepted s all → KeepsPromise status s (events_in all) a b)
keeps None status a b f w = tt
keeps (Some all) status a b f w = λ s accepted. record {
  front = f s accepted;
  whole = λ e. w e s accepted;
  stands = each_stands s (events_in all);
  arrivals = arrivals_are s.join (events_in all).events;
  promised = let a = accepted_settings all.settings s accepted in promised s (coming (arrivals_by s (events_in all).events)) a.sound a.forms;
}

pub promise_kept : (status : Status) (names : Names) (a b : Outside) → IsRun status names a b → IsPromised status a b
promise_kept status names a b h =
    keeps a.left status a.written b.written (front_written status names a b h.written)
    (λ e. whole_files names a b (subst (λ s. IsRun s names a b) e h))
