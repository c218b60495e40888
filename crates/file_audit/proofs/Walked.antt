-- How far an audit has come: the steps of its loop.
use Rattle.std.proofs.Common.{◌≡◌, ℕ, ◌+◌, List, [], ◌∷◌, ◌++◌, Ok, Err, Option, Some, None, IfSome, inl, inr, length, refl, sym, ap, subst, ◌∙◌, arith, append_assoc, append-nil, length-append, option_map}
use Rattle.gate_report.specs.Lines.{takes_memory}
use Rattle.frag_join.specs.Prelude.{Arrival, arrival, arrival_by, arrivals_of, arrivals_from, joined_in, joiner_after, joiner_of, known_joiner, opened, by_list, by_known, Coverage}
use Rattle.frag_join.specs.Arrivals.{taken_by}
use Rattle.frag_join.specs.declared.taken.Taken.{Taken}
use Rattle.frag_join.specs.declared.taken.Taken.TheVariants.{Plain, Held, Refused}
use Rattle.frag_join.specs.declared.taken.Taken.TheVariants as takens
use Rattle.frag_join.specs.Joining as joining
use Rattle.frag_join.proofs.ArrivalSteps.{arrivals-none, arrivals-next, arrivals-one, joiner-one, arrival-known, joiner-known, joined-at, opened-known}
use Rattle.gate_base.specs.Prelude.{Event}
use Rattle.gate_base.specs.declared.side.Side.{Side}
use Rattle.gate_base.specs.declared.side.Side.TheVariants.{Left, Right}
use Rattle.gate_desk.specs.declared.slot.Slot.TheVariants.{LeftIn, RightIn, LeftGiven, RightGiven, ReportGiven}
use Rattle.gate_desk.specs.Outside.{Outside, Trace, Grows, HasFailed, took}
use Rattle.gate_desk.proofs.Laws.{grows_on, failed_since}
use Rattle.gate_report.specs.declared.totals.Totals.{Totals}
use Rattle.gate_settings.specs.declared.settings.Settings.{Settings}
use Rattle.pcap_merge.specs.Prelude.{Merged, Ending, Done, Fault, with_event, slot_of, TakenFor, Merging, HasGiven, Reads, StopsBy, ComesTo, Finishes}
use Rattle.pcap_merge.specs.declared.stop.MergeStop.{MergeStop}
use Rattle.pcap_merge.specs.declared.stop.MergeStop.TheVariants as merges
use Rattle.pcap_merge.specs.Merge.{ahead}
use Rattle.lawful_files.specs.declared.reason.AuditReason.{AuditReason}
use Rattle.lawful_files.specs.Prelude.{Given, State, opening, after, LawfulFrom, IsAtLast, IsFirst, CameTo, event_in}
use Rattle.lawful_files.proofs.Further.{came_more, lawful_behind, first_behind}
use Rattle.file_audit.specs.declared.given.GivenFiles.{GivenFiles}
use Rattle.file_audit.specs.declared.line.LineHead.{LineHead}
use Rattle.run_setup.specs.declared.status.Status.{Status}
use Rattle.run_setup.specs.declared.status.Status.TheVariants as stops
use Rattle.run_setup.specs.Prelude.{status_of_merge}
use Rattle.file_audit.specs.Given.{ReadsGiven, TookFiles, given_told, IfBoth}
use Rattle.file_audit.specs.Inside.Given.{Alike}
use Rattle.file_audit.specs.Events.{IsReadInAudit, AuditedArrivalMayWant, WantsAt, IsLawfulFront, TookFew, Finds}
use Rattle.file_audit.specs.Inside.Events.{Expected, IsExpecting, state_of, IsLawfulWith, IsReasonAt, FindsAt, FindsLast, FoundLawful}
use Rattle.gate_audit.specs.Auditing.{Auditing}
use Rattle.file_audit.proofs.Alikes.{alike_same, alike_join, any}
use Rattle.file_audit.proofs.Wanting.{given_still}

-- what is read of the incoming captures changes nothing of the given files, and the other way round
pub given_kept : (r : GivenFiles) (m n : ℕ) (t : Trace) → given_told r (took RightIn n (took LeftIn m t)) ≡ given_told r t
unfolding given_told took
given_kept r m n None = refl
given_kept r m n (Some p) = refl

pub ahead_kept : (merge : Merging) (m n k : ℕ) (t : Trace) → ahead merge (took ReportGiven k (took RightGiven n (took LeftGiven m t))) ≡ ahead merge t
unfolding ahead took
ahead_kept merge m n k None = refl
ahead_kept merge m n k (Some p) = refl

-- ## The walk

-- what is known of fragments
abbrev pub Joined : Type 0
Joined = Option (joining.State Coverage)

abbrev front_of : List Event → Merged → Merged
front_of done x = record { events = done ++ x.events; ending = x.ending }

-- at these events the given files were lawful, one after the other, and the others are still to come
pub record Walked (settings : Settings) (m0 m : Merging) (r0 r : GivenFiles) (old now : Outside) (joiner : Joined) (s : State) : Type 0 where
  pub done : List Event
  pub count : s.totals.events ≡ length done
  pub others : ahead m0 old.left ≡ option_map (front_of done) (ahead m now.left)
  pub held : joiner ≡ known_joiner (joiner_of settings.join done)
  pub came : Alike (λ g left. CameTo settings (opening settings) g (arrivals_of settings.join done) s left) (given_told r0 old.left)
      (given_told r now.left)
  pub given : (start : Outside) → HasGiven start m0 old [] → HasGiven start m now done

nothing_done : (o : Option Merged) → o ≡ option_map (front_of []) o
nothing_done None = refl
nothing_done (Some x) = refl

pub walked_none : (settings : Settings) (m : Merging) (r : GivenFiles) (old : Outside) (joiner : Joined) (s : State) → s ≡ opening settings
    → joiner ≡ opened settings.join → Walked settings m m r r old old joiner s
walked_none settings m r old joiner s e is = record {
  done = [];
  count = ap (λ (x : State). x.totals.events) e;
  others = nothing_done (ahead m old.left);
  held = is ∙ opened-known settings.join;
  came = alike_same (λ g left. CameTo settings (opening settings) g (arrivals_of settings.join []) s left) (given_told r old.left)
      (λ g. subst (λ (xs : List Arrival). CameTo settings (opening settings) g xs s g) (sym (arrivals-none settings.join)) (e, refl));
  given = λ start h. h;
}

front_more : (done : List Event) (e : Event) (o : Option Merged)
    → option_map (front_of done) (option_map (with_event e) o) ≡ option_map (front_of (done ++ e ∷ [])) o
front_more done e None = refl
front_more done e (Some x) =
    ap (λ (es : List Event). let y : Merged = record { events = es; ending = x.ending } in Some y) (sym (append_assoc done (e ∷ []) x.events))

-- what becomes of the next frame
came_is : (settings : Settings) (done : List Event) (joiner : Joined) (e : Event) → joiner ≡ known_joiner (joiner_of settings.join done)
    → arrival by_known joiner e ≡ arrival by_list (joiner_of settings.join done) e
came_is settings done joiner e held = ap (λ (j : Joined). arrival by_known j e) held ∙ arrival-known (joiner_of settings.join done) e

-- one event more that was lawful
pub walked_on : (settings : Settings) (m0 m m' : Merging) (r0 r r' : GivenFiles) (old now new : Outside) (joiner joiner' : Joined) (s s' : State)
    (e : Event) (frames : ℕ) → (h : Walked settings m0 m r0 r old now joiner s)
    → ((start : Outside) → HasGiven start m now h.done → HasGiven start m' new (h.done ++ e ∷ []))
    → ahead m now.left ≡ option_map (with_event e) (ahead m' new.left) → joiner' ≡ joiner_after by_known joiner e
    → s' ≡ after s (arrival by_known joiner e) frames
    → Alike (IsLawfulWith settings s (arrival by_known joiner e) frames) (given_told r now.left) (given_told r' new.left)
    → Walked settings m0 m' r0 r' old new joiner' s'
walked_on settings m0 m m' r0 r r' old now new joiner joiner' s s' e frames h more one steps is lawful =
    let x = arrival by_known joiner e in
    let all : arrivals_of settings.join (h.done ++ e ∷ []) ≡ arrivals_of settings.join h.done ++ x ∷ [] =
    arrivals-one settings.join h.done e
    ∙ ap (λ (a : Arrival). arrivals_of settings.join h.done ++ a ∷ []) (sym (came_is settings h.done joiner e h.held)) in
    record {
      done = h.done ++ e ∷ [];
      count =
          let one_more : s'.totals.events ≡ s.totals.events + 1 = ap (λ (y : State). y.totals.events) is in
          omega (arith, one_more, h.count, length-append h.done (e ∷ []));
      others = h.others ∙ ap (option_map (front_of h.done)) one ∙ front_more h.done e (ahead m' new.left);
      held = steps ∙ ap (λ (j : Joined). joiner_after by_known j e) h.held ∙ joiner-known (joiner_of settings.join h.done) e
          ∙ ap known_joiner (sym (joiner-one settings.join h.done e));
      came = alike_join (λ g left. CameTo settings (opening settings) g (arrivals_of settings.join h.done) s left) (IsLawfulWith settings s x frames)
          (λ g next. CameTo settings (opening settings) g (arrivals_of settings.join (h.done ++ e ∷ [])) s' next)
          (given_told r0 old.left) (given_told r now.left) (given_told r' new.left) h.came lawful
          (λ g left next c at.
          subst (λ (xs : List Arrival). CameTo settings (opening settings) g xs s' next) (sym all)
          (subst (λ (y : State). CameTo settings (opening settings) g (arrivals_of settings.join h.done ++ x ∷ []) y next) (sym is)
          (subst (λ (n : ℕ). CameTo settings (opening settings) g (arrivals_of settings.join h.done ++ x ∷ []) (after s x n) next) at.1
          (came_more settings (arrivals_of settings.join h.done) x (opening settings) s g left next c at.0))));
      given = λ start g. more start (h.given start g);
    }

-- ## Ends

-- where no event is still to come, what holds of what is left of the given files gives what holds of all
ended-of : (all : Merged) (R : Given → Given → Type 0) (P : Given → Type 0) (Q : Merged → Given → Type 0) (o : Option Merged) (p q : Option Given)
    → IfSome o (λ x. x ≡ all) → Alike R p q → IfSome q P → ((g left : Given) → R g left → P left → Q all g) → IfBoth o p Q
ended-of all R P Q None p q e h k f = tt
ended-of all R P Q (Some x) None q e h k f = tt
ended-of all R P Q (Some x) (Some g) None e h k f = absurd h
ended-of all R P Q (Some x) (Some g) (Some left) e h k f = subst (λ (y : Merged). Q y g) (sym e) (f g left h k)

all_are-of : (done : List Event) (ending : Ending) (o : Option Merged) → IfSome o (λ x. x ≡ record { events = []; ending = ending })
    → IfSome (option_map (front_of done) o) (λ all. all ≡ record { events = done; ending = ending })
all_are-of done ending None h = tt
all_are-of done ending (Some x) h = ap (front_of done) h
    ∙ ap (λ (es : List Event). let y : Merged = record { events = es; ending = ending } in y) (append-nil done)

walked_end : (settings : Settings) (m0 m : Merging) (r0 r : GivenFiles) (old now : Outside) (joiner : Joined) (s : State) (ending : Ending)
    (P : Given → Type 0) (Q : Merged → Given → Type 0) → (h : Walked settings m0 m r0 r old now joiner s)
    → IfSome (ahead m now.left) (λ x. x ≡ record { events = []; ending = ending }) → IfSome (given_told r now.left) P
    → ((g left : Given) → CameTo settings (opening settings) g (arrivals_of settings.join h.done) s left → P left
    → Q (record { events = h.done; ending = ending }) g) → IfBoth (ahead m0 old.left) (given_told r0 old.left) Q
walked_end settings m0 m r0 r old now joiner s ending P Q h none p f =
    let all : Merged = record { events = h.done; ending = ending } in
    ended-of all (λ g left. CameTo settings (opening settings) g (arrivals_of settings.join h.done) s left) P Q (ahead m0 old.left)
    (given_told r0 old.left) (given_told r now.left)
    (subst (λ o. IfSome o (λ x. x ≡ all)) (sym h.others) (all_are-of h.done ending (ahead m now.left) none)) h.came p f

-- the first reason at the next event is the first of all
reason-of : (settings : Settings) (s : State) (done : List Event) (joiner : Joined) (e : Event) (number : ℕ) (reason : AuditReason)
    (o : Option Merged) (p q : Option Given) → joiner ≡ known_joiner (joiner_of settings.join done)
    → Alike (λ g left. CameTo settings (opening settings) g (arrivals_of settings.join done) s left) p q
    → IfSome q (λ left. IsReasonAt settings s (arrival by_known joiner e) left number reason)
    → IfBoth (option_map (front_of done) (option_map (with_event e) o)) p
    (λ all g. IsFirst settings (opening settings) (arrivals_of settings.join all.events) all.ending g number reason)
reason-of settings s done joiner e number reason None p q held h r = tt
reason-of settings s done joiner e number reason (Some x) None q held h r = tt
reason-of settings s done joiner e number reason (Some x) (Some g) None held h r = absurd h
reason-of settings s done joiner e number reason (Some x) (Some g) (Some left) held h r =
    let a = arrival by_known joiner e in
    let rest = arrivals_from by_list (joiner_after by_list (joiner_of settings.join done) e) x.events in
    let all : arrivals_of settings.join (done ++ e ∷ x.events) ≡ arrivals_of settings.join done ++ a ∷ rest =
    arrivals-next settings.join done e x.events
    ∙ ap (λ (b : Arrival). arrivals_of settings.join done ++ b ∷ rest) (sym (came_is settings done joiner e held)) in
    subst (λ (xs : List Arrival). IsFirst settings (opening settings) xs x.ending g number reason) (sym all)
    (first_behind settings (arrivals_of settings.join done) (a ∷ rest) x.ending (opening settings) s g left number reason h (r rest x.ending))

walked_reason : (settings : Settings) (m0 m m' : Merging) (r0 r : GivenFiles) (old now mid : Outside) (joiner : Joined) (s : State) (e : Event)
    (number : ℕ) (reason : AuditReason) → Walked settings m0 m r0 r old now joiner s
    → ahead m now.left ≡ option_map (with_event e) (ahead m' mid.left)
    → IfSome (given_told r now.left) (λ left. IsReasonAt settings s (arrival by_known joiner e) left number reason)
    → IfBoth (ahead m0 old.left) (given_told r0 old.left)
    (λ all g. IsFirst settings (opening settings) (arrivals_of settings.join all.events) all.ending g number reason)
walked_reason settings m0 m m' r0 r old now mid joiner s e number reason h one first =
    subst (λ o. IfBoth o (given_told r0 old.left)
    (λ all g. IsFirst settings (opening settings) (arrivals_of settings.join all.events) all.ending g number reason))
    (sym (h.others ∙ ap (option_map (front_of h.done)) one))
    (reason-of settings s h.done joiner e number reason (ahead m' mid.left) (given_told r0 old.left) (given_told r now.left) h.held h.came first)

-- ## What the loop answers

read_side : (side : Side) → IsReadInAudit (slot_of side)
read_side Left = tt
read_side Right = tt

-- what the merge reads changes nothing of what is left of the given files
same_given : (r : GivenFiles) (now mid : Outside) → Reads now mid → given_told r mid.left ≡ given_told r now.left
same_given r now mid reads = ap (given_told r) reads.left ∙ given_kept r reads.left_count reads.right_count now.left

all_lawful : (settings : Settings) (xs : List Arrival) (ending : Ending) (s : State) (g left : Given) → CameTo settings (opening settings) g xs s left
    → LawfulFrom settings s [] ending left → LawfulFrom settings (opening settings) xs ending g
all_lawful settings xs ending s g left c last =
    subst (λ (ys : List Arrival). LawfulFrom settings (opening settings) ys ending g) (append-nil xs)
    (lawful_behind settings xs [] ending (opening settings) s g left c last)

first_at_end : (settings : Settings) (xs : List Arrival) (s : State) (g left : Given) (number : ℕ) (reason : AuditReason)
    → CameTo settings (opening settings) g xs s left → IsFirst settings s [] Done left number reason
    → IsFirst settings (opening settings) xs Done g number reason
first_at_end settings xs s g left number reason c first =
    subst (λ (ys : List Arrival). IsFirst settings (opening settings) ys Done g number reason) (append-nil xs)
    (first_behind settings xs [] Done (opening settings) s g left number reason c first)

pub finds_stop : (stop : MergeStop) (settings : Settings) (m0 m : Merging) (r0 r : GivenFiles) (old now mid : Outside) (joiner : Joined) (s : State)
    → Walked settings m0 m r0 r old now joiner s → Grows old now → StopsBy stop m now mid → Finds (Err (status_of_merge stop)) settings m0 r0 old mid
finds_stop (merges.Fault side fault place) settings m0 m r0 r old now mid joiner s h grows k =
    walked_end settings m0 m r0 r old now joiner s (Fault side fault place) (λ g. Unit {0})
    (λ all g. (all.ending ≡ Fault side fault place) × LawfulFrom settings (opening settings) (arrivals_of settings.join all.events) all.ending g)
    h k.1 (any (given_told r now.left))
    (λ g left c u. (refl, all_lawful settings (arrivals_of settings.join h.done) (Fault side fault place) s g left c tt))
finds_stop (merges.Desk slot) settings m0 m r0 r old now mid joiner s h grows k = (
  subst IsReadInAudit (sym k.1) (read_side k.0),
  subst (λ x. HasFailed x old mid) (sym k.1) (failed_since (slot_of k.0) old now mid grows k.2.cause),
)
finds_stop merges.OutOfMemory settings m0 m r0 r old now mid joiner s h grows k = absurd k

pub finds_done : (settings : Settings) (m0 m m' : Merging) (r0 r : GivenFiles) (old now mid new : Outside) (joiner : Joined) (s : State)
    → Walked settings m0 m r0 r old now joiner s → Finishes m m' now mid → IfSome (given_told r mid.left) (IsAtLast settings s)
    → Finds (Ok s.totals.events) settings m0 r0 old new
finds_done settings m0 m m' r0 r old now mid new joiner s h finished last =
    walked_end settings m0 m r0 r old now joiner s Done (IsAtLast settings s)
    (λ all g. (all.ending ≡ Done) × (s.totals.events ≡ length all.events)
    × LawfulFrom settings (opening settings) (arrivals_of settings.join all.events) all.ending g) h finished.events
    (subst (λ o. IfSome o (IsAtLast settings s)) (same_given r now mid finished.reads) last)
    (λ g left c at. (refl, h.count, all_lawful settings (arrivals_of settings.join h.done) Done s g left c at))

pub finds_left : (stop : Status) (settings : Settings) (m0 m m' : Merging) (r0 r : GivenFiles) (old now mid new : Outside) (joiner : Joined)
    (s : State) → Walked settings m0 m r0 r old now joiner s → Grows old now → Finishes m m' now mid → FindsLast (Err stop) settings s r mid new
    → Finds (Err stop) settings m0 r0 old new
finds_left (stops.Unlawful number reason) settings m0 m m' r0 r old now mid new joiner s h grows finished f =
    walked_end settings m0 m r0 r old now joiner s Done (λ g. IsFirst settings s [] Done g number reason)
    (λ all g. IsFirst settings (opening settings) (arrivals_of settings.join all.events) all.ending g number reason) h finished.events
    (subst (λ o. IfSome o (λ g. IsFirst settings s [] Done g number reason)) (same_given r now mid finished.reads) f)
    (λ g left c first. first_at_end settings (arrivals_of settings.join h.done) s g left number reason c first)
finds_left (stops.ReadFault slot) settings m0 m m' r0 r old now mid new joiner s h grows finished f =
    (f.0, failed_since slot old mid new (grows_on old now mid grows finished.reads.grows) f.1)
finds_left stops.OutOfMemory settings m0 m m' r0 r old now mid new joiner s h grows finished f = inl f
finds_left stop settings m0 m m' r0 r old now mid new joiner s h grows finished f = absurd f

pub finds_at : (stop : Status) (settings : Settings) (m0 m m' : Merging) (r0 r r' : GivenFiles) (a a' : Auditing) (joiner : Joined) (s : State)
    (e : Event) (old now mid new : Outside) → Walked settings m0 m r0 r old now joiner s → Grows old now → ComesTo e m m' now mid
    → a.settings ≡ settings
    → FindsAt (Err stop) s (arrival by_known joiner e) r r' a a' mid new → Finds (Err stop) settings m0 r0 old new
finds_at (stops.Unlawful number reason) settings m0 m m' r0 r r' a a' joiner s e old now mid new h grows came is f =
    walked_reason settings m0 m m' r0 r old now mid joiner s e number reason h came.events
    (subst (λ (x : Settings). IfSome (given_told r now.left) (λ g. IsReasonAt x s (arrival by_known joiner e) g number reason)) is
    (subst (λ o. IfSome o (λ g. IsReasonAt a.settings s (arrival by_known joiner e) g number reason)) (same_given r now mid came.reads) f))
finds_at (stops.ReadFault slot) settings m0 m m' r0 r r' a a' joiner s e old now mid new h grows came is f =
    (f.0, failed_since slot old mid new (grows_on old now mid grows came.reads.grows) f.1)
finds_at stops.OutOfMemory settings m0 m m' r0 r r' a a' joiner s e old now mid new h grows came is f =
    inl (sym (ap (λ (x : Settings). takes_memory x.report) is) ∙ f)
finds_at stop settings m0 m m' r0 r r' a a' joiner s e old now mid new h grows came is f = absurd f

wants-of : (settings : Settings) (s : State) (done : List Event) (joiner : Joined) (e : Event) (o : Option Merged) (p q : Option Given)
    → joiner ≡ known_joiner (joiner_of settings.join done)
    → Alike (λ g left. CameTo settings (opening settings) g (arrivals_of settings.join done) s left) p q
    → AuditedArrivalMayWant s.world (arrival by_known joiner e) → IfBoth (option_map (front_of done) (option_map (with_event e) o)) p (WantsAt settings)
wants-of settings s done joiner e None p q held h w = tt
wants-of settings s done joiner e (Some x) None q held h w = tt
wants-of settings s done joiner e (Some x) (Some g) None held h w = absurd h
wants-of settings s done joiner e (Some x) (Some g) (Some left) held h w =
    record {
      handled = done;
      next = e;
      others = x.events;
      split = refl;
      state = s;
      left = left;
      came = h;
      wants =
          subst (λ (a : Arrival). AuditedArrivalMayWant s.world a) (came_is settings done joiner e held) w;
    }

-- the auditor wanted memory for the next event
pub finds_expect : (settings : Settings) (m0 m m' : Merging) (r0 r : GivenFiles) (joiner : Joined) (s : State) (e : Event) (old now mid : Outside)
    → Walked settings m0 m r0 r old now joiner s → ComesTo e m m' now mid → AuditedArrivalMayWant s.world (arrival by_known joiner e)
    → Finds (Err stops.OutOfMemory) settings m0 r0 old mid
finds_expect settings m0 m m' r0 r joiner s e old now mid h came w =
    inr (subst (λ o. IfBoth o (given_told r0 old.left) (WantsAt settings)) (sym (h.others ∙ ap (option_map (front_of h.done)) came.events))
    (wants-of settings s h.done joiner e (ahead m' mid.left) (given_told r0 old.left) (given_told r now.left) h.held h.came w))

lawful_front : (settings : Settings) (s : State) (done : List Event) (o : Option Merged) (p q : Option Given)
    → Alike (λ g left. CameTo settings (opening settings) g (arrivals_of settings.join done) s left) p q
    → IfBoth (option_map (front_of done) o) p (λ all g. IsLawfulFront settings all g done)
lawful_front settings s done None p q h = tt
lawful_front settings s done (Some x) None q h = tt
lawful_front settings s done (Some x) (Some g) None h = absurd h
lawful_front settings s done (Some x) (Some g) (Some left) h = record { others = x.events; split = refl; state = s; left = left; came = h }

-- for none of them
pub lawful_none : (settings : Settings) (o : Option Merged) (p : Option Given) → IfBoth o p (λ all g. IsLawfulFront settings all g [])
lawful_none settings None p = tt
lawful_none settings (Some x) None = tt
lawful_none settings (Some x) (Some g) =
    record {
      others = x.events;
      split = refl;
      state = opening settings;
      left = g;
      came =
          subst (λ (xs : List Arrival). CameTo settings (opening settings) g xs (opening settings) g) (sym (arrivals-none settings.join))
          (refl, refl);
    }

-- so much was taken of the incoming captures
pub took_few : (settings : Settings) (m0 m : Merging) (r0 r : GivenFiles) (old now new : Outside) (joiner : Joined) (s : State)
    → (h : Walked settings m0 m r0 r old now joiner s) → ((start : Outside) → HasGiven start m now h.done → TakenFor h.done start new)
    → TookFiles old new → new.starts ≡ old.starts → new.written ≡ old.written → Grows old new → TookFew settings m0 r0 old new
took_few settings m0 m r0 r old now new joiner s h few files starts written grows = record {
  handled = h.done;
  few = λ start g. few start (h.given start g);
  front = subst (λ o. IfBoth o (given_told r0 old.left) (λ all g. IsLawfulFront settings all g h.done)) (sym h.others)
      (lawful_front settings s h.done (ahead m now.left) (given_told r0 old.left) (given_told r now.left) h.came);
  files = files;
  starts = starts;
  written = written;
  grows = grows;
}

-- an event that was lawful, and what it read
pub walked_event : (settings : Settings) (m0 m m' : Merging) (r0 r r' : GivenFiles) (a a' : Auditing) (totals : Totals) (joiner joiner' : Joined)
    (s s' : State) (e : Event) (frames : ℕ) (old now mid new : Outside) → Walked settings m0 m r0 r old now joiner s → ComesTo e m m' now mid
    → ReadsGiven mid new
    → joiner' ≡ joiner_after by_known joiner e → a.settings ≡ settings → s' ≡ after s (arrival by_known joiner e) frames
    → FoundLawful frames totals s (arrival by_known joiner e) r r' a a' mid new → Walked settings m0 m' r0 r' old new joiner' s'
walked_event settings m0 m m' r0 r r' a a' totals joiner joiner' s s' e frames old now mid new h came given steps is state f =
    walked_on settings m0 m m' r0 r r' old now new joiner joiner' s s' e frames h
    (λ start g. given_still start m' mid new (h.done ++ e ∷ []) given (came.given start h.done g))
    (came.events
    ∙ ap (option_map (with_event e))
    (sym (ap (ahead m') given.left ∙ ahead_kept m' given.left_count given.right_count given.report_count mid.left)))
    steps state
    (subst (λ (x : Settings). Alike (IsLawfulWith x s (arrival by_known joiner e) frames) (given_told r now.left) (given_told r' new.left)) is
    (subst (λ o. Alike (IsLawfulWith a.settings s (arrival by_known joiner e) frames) o (given_told r' new.left))
    (same_given r now mid came.reads) f.lawful))

-- a frame comes to the gate, or stays, at its own moment
at-of : (e : Event) (t : Taken) (joined : Option Event) → ((y : Event) → joined ≡ Some y → y.moment ≡ e.moment)
    → (event_in (arrival_by e t joined)).moment ≡ e.moment
at-of e Plain joined h = refl
at-of e Held joined h = refl
at-of e (Refused refusal) joined h = refl
at-of e takens.Joined None h = refl
at-of e takens.Joined (Some y) h = h y refl

pub arrived_at : (joiner : Joined) (e : Event) → (event_in (arrival by_known joiner e)).moment ≡ e.moment
arrived_at joiner e = at-of e (taken_by by_known joiner e) (joined_in (joiner_after by_known joiner e)) (λ y is. joined-at by_known joiner e y is)

-- what is expected, by what was known and counted before it
pub expecting : (h : LineHead) (totals : Totals) (a a' : Auditing) (x : Arrival) → Expected (Ok h) (totals.events + 1) a a' x
    → IsExpecting h totals a' (state_of a totals) x
expecting h totals a a' x e = record { head = e.0; totals_are = refl; world = e.1.world; expecting = e.1.expecting; sound = e.1.sound }
