-- The events of two captures, by the records that are taken from both sides.
use Rattle.std.proofs.Common.{◌≡◌, ℕ, zero, suc, ◌<◌, ◌≤◌, List, [], ◌∷◌, ◌++◌, true, false, cond, max, nat_le, drop, length, slice_index_or, refl, sym, ap, subst, ◌∙◌, arith}
use Rattle.std.proofs.lemmas.Bool.Decides.{nat_tests}
use Rattle.std.specs.List.Sorted.{IsNonDecreasingBy}
use Rattle.gate_base.specs.declared.side.Side.{Side}
use Rattle.gate_base.specs.declared.side.Side.TheVariants.{Left, Right}
use Rattle.gate_base.specs.declared.side.Link.{Link}
use Rattle.gate_base.specs.Prelude.{Event, other}
use Rattle.pcap_files.specs.declared.fault.CaptureFault.{CaptureFault}
use Rattle.pcap_files.specs.declared.form.Form.{Form}
use Rattle.pcap_files.specs.Prelude.{Packet, Records, Ending as CaptureEnding, Whole, Fault as CaptureEndsFaulty, Head, Good, Bad, head_of, capture_of}
use Rattle.pcap_merge.specs.Prelude.{Ending, Done, Fault, Merged, Ahead, Turn, Gives, Ends, Stops, front_by, turn_of, turn_at, after, without_first, event_at, link_at, with_event, merge_from, by_heads, EndsBy}
use Rattle.pcap_merge.specs.Events.{events_of}
use Rattle.pcap_merge.specs.Picks.{Pick, by_side, taken, events_from, ComesBefore, IsMerge}
use Rattle.pcap_merge.proofs.Merged.{left_has_none, right_has_none, count, one_gone, merge-gives, merge-ends, merge-stops}

-- the links and the records of both sides
abbrev links : Ahead → Side → Link
links a = by_side a.left_link a.right_link

abbrev records : Ahead → Side → Records
records a = by_side a.left a.right

abbrev given_or : Packet → Turn → Packet
given_or p (Gives side q) = q
given_or p Ends = p
given_or p (Stops side f place) = p

other_given : (p q : Packet) → Gives Right q ≡ Gives Left p → 0 < 0
other_given p q e = cc

stop_given : (s side : Side) (f : CaptureFault) (place : ℕ) (p : Packet) → Stops s f place ≡ Gives side p → 0 < 0
stop_given s side f place p e = cc

-- a left record that is given stands first on its side, and its stamp isn't greater than the next right one
left_first : (left right : List Packet) (left_end right_end : CaptureEnding) (p : Packet)
    → turn_of (front_by left left_end) (front_by right right_end) ≡ Gives Left p → (left ≡ p ∷ without_first left)
    × ComesBefore Left p right right_end
left_first [] right left_end right_end p e = absurd (omega (arith, left_has_none (front_by right right_end) left_end p e))
left_first (l ∷ left) [] left_end Whole p e = (ap (λ (t : Turn). given_or p t ∷ left) e, refl)
left_first (l ∷ left) [] left_end (CaptureEndsFaulty f place) p e = absurd (omega (arith, stop_given Right Left f place p e))
left_first (l ∷ left) (r ∷ right) left_end right_end p e =
    elim (nat_le l.stamp r.stamp) as
    (λ b. nat_le l.stamp r.stamp ≡ b → cond b (Gives Left l) (Gives Right r) ≡ Gives Left p → (l ∷ left ≡ p ∷ left) × (p.stamp ≤ r.stamp)) [
      | true ↦ λ b k. (
        ap (λ (t : Turn). given_or p t ∷ left) k,
        (let is : l ≡ p = ap (given_or p) k in subst (λ (x : Packet). x.stamp ≤ r.stamp) is (grind (arith, nat_tests))),
      )
      | false ↦ λ b k. absurd (omega (arith, other_given p r k))
    ] refl e

-- a right record that is given stands first on its side, and its stamp is smaller than the next left one
right_first : (left right : List Packet) (left_end right_end : CaptureEnding) (p : Packet)
    → turn_of (front_by left left_end) (front_by right right_end) ≡ Gives Right p → (right ≡ p ∷ without_first right)
    × ComesBefore Right p left left_end
right_first left [] left_end right_end p e = absurd (omega (arith, right_has_none (front_by left left_end) right_end p e))
right_first [] (r ∷ right) Whole right_end p e = (ap (λ (t : Turn). given_or p t ∷ right) e, refl)
right_first [] (r ∷ right) (CaptureEndsFaulty f place) right_end p e = absurd (omega (arith, stop_given Left Right f place p e))
right_first (l ∷ left) (r ∷ right) left_end right_end p e =
    elim (nat_le l.stamp r.stamp) as
    (λ b. nat_le l.stamp r.stamp ≡ b → cond b (Gives Left l) (Gives Right r) ≡ Gives Right p → (r ∷ right ≡ p ∷ right) × (p.stamp < l.stamp)) [
      | true ↦ λ b k. absurd (omega (arith, other_given l p (sym k)))
      | false ↦ λ b k. (
        ap (λ (t : Turn). given_or p t ∷ right) k,
        (let is : r ≡ p = ap (given_or p) k in subst (λ (x : Packet). x.stamp < l.stamp) is (grind (arith, nat_tests))),
      )
    ] refl e

drop-nothing : (n : ℕ) → drop {A = Packet} n [] ≡ []
drop-nothing zero = refl
drop-nothing (suc n) = refl

drop-without_first : (n : ℕ) (packets : List Packet) → drop (suc n) packets ≡ drop n (without_first packets)
drop-without_first n [] = sym (drop-nothing n)
drop-without_first n (p ∷ packets) = refl

abbrev pick_of : Side → Packet → Pick
pick_of side p = record { side = side; packet = p }

-- what is next on a side, once a record was taken
shift : (a : Ahead) (side s : Side) (p : Packet) (before : List Pick) → drop (length (taken s before)) (records (after a side p) s).packets
    ≡ drop (length (taken s (pick_of side p ∷ before))) (records a s).packets
shift a Left Left p before = sym (drop-without_first (length (taken Left before)) a.left.packets)
shift a Left Right p before = refl
shift a Right Left p before = refl
shift a Right Right p before = sym (drop-without_first (length (taken Right before)) a.right.packets)

-- a record that was taken changes no side's end
same_ending : (a : Ahead) (side s : Side) (p : Packet) → (records (after a side p) s).ending ≡ (records a s).ending
same_ending a Left Left p = refl
same_ending a Left Right p = refl
same_ending a Right Left p = refl
same_ending a Right Right p = refl

abbrev first_or : Pick → List Pick → Pick
first_or pick [] = pick
first_or pick (x ∷ picks) = x

abbrev behind_first_pick : List Pick → List Pick
behind_first_pick [] = []
behind_first_pick (x ∷ picks) = picks

abbrev InOrder : Ahead → List Pick → List Pick → Pick → Type 0
InOrder a before behind pick = ComesBefore pick.side pick.packet
    (drop (length (taken (other pick.side) before)) (records a (other pick.side)).packets) (records a (other pick.side)).ending

-- the order of one more record
order_on : (a : Ahead) (side : Side) (p : Packet) (picks : List Pick)
    → ComesBefore side p (records a (other side)).packets (records a (other side)).ending
    → ((before behind : List Pick) (pick : Pick) → picks ≡ before ++ pick ∷ behind → InOrder (after a side p) before behind pick)
    → (before behind : List Pick) (pick : Pick) → pick_of side p ∷ picks ≡ before ++ pick ∷ behind → InOrder a before behind pick
order_on a side p picks first h [] behind pick e = subst (λ (x : Pick). InOrder a [] behind x) (ap (first_or pick) e) first
order_on a side p picks first h (b ∷ before) behind pick e =
    subst (λ (x : Pick). InOrder a (x ∷ before) behind pick) (ap (first_or b) e)
    (subst (λ (ps : List Packet). ComesBefore pick.side pick.packet ps (records a (other pick.side)).ending) (shift a side (other pick.side) p before)
    (subst (ComesBefore pick.side pick.packet (drop (length (taken (other pick.side) before)) (records (after a side p) (other pick.side)).packets))
    (same_ending a side (other pick.side) p) (h before behind pick (ap behind_first_pick e))))

abbrev Weaves : Ahead → Merged → Type 0
Weaves a all = IsMerge a.clock (links a) (records a) all

weave_left : (a : Ahead) (p : Packet) (all : Merged) → turn_at a ≡ Gives Left p → Weaves (after a Left p) all
    → Weaves a (with_event (event_at Left (max a.clock p.stamp) (link_at Left a) p) all)
weave_left a p all e h =
    let first = left_first a.left.packets a.right.packets a.left.ending a.right.ending p e in record {
      picks = pick_of Left p ∷ h.picks;
      events = ap (λ (es : List Event). event_at Left (max a.clock p.stamp) a.left_link p ∷ es) h.events;
      untaken = h.untaken;
      first = λ side. elim side as (λ s. (records a s).packets ≡ taken s (pick_of Left p ∷ h.picks) ++ h.untaken s) [
        | Left ↦ first.0 ∙ ap (λ (ps : List Packet). p ∷ ps) (h.first Left)
        | Right ↦ h.first Right
      ];
      in_order = order_on a Left p h.picks first.1 h.in_order;
      ending = h.ending;
    }

weave_right : (a : Ahead) (p : Packet) (all : Merged) → turn_at a ≡ Gives Right p → Weaves (after a Right p) all
    → Weaves a (with_event (event_at Right (max a.clock p.stamp) (link_at Right a) p) all)
weave_right a p all e h =
    let first = right_first a.left.packets a.right.packets a.left.ending a.right.ending p e in record {
      picks = pick_of Right p ∷ h.picks;
      events = ap (λ (es : List Event). event_at Right (max a.clock p.stamp) a.right_link p ∷ es) h.events;
      untaken = h.untaken;
      first = λ side. elim side as (λ s. (records a s).packets ≡ taken s (pick_of Right p ∷ h.picks) ++ h.untaken s) [
        | Left ↦ h.first Left
        | Right ↦ first.0 ∙ ap (λ (ps : List Packet). p ∷ ps) (h.first Right)
      ];
      in_order = order_on a Right p h.picks first.1 h.in_order;
      ending = h.ending;
    }

not_picked : (before behind : List Pick) (pick : Pick) → [] ≡ before ++ pick ∷ behind → ⊥
not_picked [] behind pick e = cc
not_picked (b ∷ before) behind pick e = cc

nothing_picked : (a : Ahead) (all : Merged) → all.events ≡ [] → EndsBy all.ending a.left.packets a.left.ending a.right.packets a.right.ending
    → Weaves a all
nothing_picked a all e h = record {
  picks = [];
  events = e;
  untaken = λ side. (records a side).packets;
  first = λ side. refl;
  in_order = λ before behind pick k. absurd (not_picked before behind pick k);
  ending = h;
}

stop_not_end : (side : Side) (f : CaptureFault) (place : ℕ) → Stops side f place ≡ Ends → ⊥
stop_not_end side f place e = cc

given_not_end : (side : Side) (p : Packet) → Gives side p ≡ Ends → ⊥
given_not_end side p e = cc

given_not_stop : (side : Side) (p : Packet) (s : Side) (f : CaptureFault) (place : ℕ) → Gives side p ≡ Stops s f place → ⊥
given_not_stop side p s f place e = cc

abbrev ending_of : Turn → Ending
ending_of (Stops side f place) = Fault side f place
ending_of (Gives side p) = Done
ending_of Ends = Done

-- where the merge ends, both sides are used up and whole
ends_by : (left right : List Packet) (left_end right_end : CaptureEnding) → turn_of (front_by left left_end) (front_by right right_end) ≡ Ends
    → EndsBy Done left left_end right right_end
ends_by [] [] Whole Whole e = (refl, refl, refl, refl)
ends_by [] [] Whole (CaptureEndsFaulty f place) e = absurd (stop_not_end Right f place e)
ends_by [] (r ∷ right) Whole right_end e = absurd (given_not_end Right r e)
ends_by [] right (CaptureEndsFaulty f place) right_end e = absurd (stop_not_end Left f place e)
ends_by (l ∷ left) [] left_end Whole e = absurd (given_not_end Left l e)
ends_by (l ∷ left) [] left_end (CaptureEndsFaulty f place) e = absurd (stop_not_end Right f place e)
ends_by (l ∷ left) (r ∷ right) left_end right_end e =
    absurd (elim (nat_le l.stamp r.stamp) as
    (λ b. cond b (Gives Left l) (Gives Right r) ≡ Ends → ⊥) [ true ↦ λ k. given_not_end Left l k | false ↦ λ k. given_not_end Right r k ] e)

not_picked_up : (p : Packet) (packets : List Packet) → p ∷ packets ≡ [] → ⊥
not_picked_up p packets e = cc

-- where it stops, the side is used up and faulty, and the left one isn't where it is the right one's fault
stops_by : (left right : List Packet) (left_end right_end : CaptureEnding) (side : Side) (f : CaptureFault) (place : ℕ)
    → turn_of (front_by left left_end) (front_by right right_end) ≡ Stops side f place → EndsBy (Fault side f place) left left_end right right_end
stops_by [] right (CaptureEndsFaulty g at) right_end side f place e = subst (λ (x : Ending). EndsBy x [] (CaptureEndsFaulty g at) right right_end)
    (ap ending_of e) (refl, refl)
stops_by [] [] Whole (CaptureEndsFaulty g at) side f place e = subst (λ (x : Ending). EndsBy x [] Whole [] (CaptureEndsFaulty g at)) (ap ending_of e)
    (refl, refl, λ k. refl)
stops_by [] [] Whole Whole side f place e = absurd (stop_not_end side f place (sym e))
stops_by [] (r ∷ right) Whole right_end side f place e = absurd (given_not_stop Right r side f place e)
stops_by (l ∷ left) [] left_end (CaptureEndsFaulty g at) side f place e =
    subst (λ (x : Ending). EndsBy x (l ∷ left) left_end [] (CaptureEndsFaulty g at)) (ap ending_of e)
    (refl, refl, λ k. absurd (not_picked_up l left k))
stops_by (l ∷ left) [] left_end Whole side f place e = absurd (given_not_stop Left l side f place e)
stops_by (l ∷ left) (r ∷ right) left_end right_end side f place e =
    absurd (elim (nat_le l.stamp r.stamp) as
    (λ b. cond b (Gives Left l) (Gives Right r) ≡ Stops side f place
    → ⊥) [ true ↦ λ k. given_not_stop Left l side f place k | false ↦ λ k. given_not_stop Right r side f place k ] e)

weave : (n : ℕ) (a : Ahead) → count a < n → Weaves a (merge_from a)
weave zero a less = absurd (omega arith)
weave (suc n) a less =
    elim (turn_at a) as (λ t. turn_at a ≡ t → Weaves a (merge_from a)) [
      | Gives side p ↦ elim side as (λ s. turn_at a ≡ Gives s p → Weaves a (merge_from a)) [
        | Left ↦ λ e. (let fewer = one_gone a Left p e in subst (Weaves a) (sym (merge-gives a Left p e))
            (weave_left a p (merge_from (after a Left p)) e (weave n (after a Left p) (omega (arith, fewer)))))
        | Right ↦ λ e. (let fewer = one_gone a Right p e in subst (Weaves a) (sym (merge-gives a Right p e))
            (weave_right a p (merge_from (after a Right p)) e (weave n (after a Right p) (omega (arith, fewer)))))
      ]
      | Ends ↦ λ e. subst (Weaves a) (sym (merge-ends a e))
          (nothing_picked a _ refl (ends_by a.left.packets a.right.packets a.left.ending a.right.ending e))
      | Stops side f place ↦ λ e. subst (Weaves a) (sym (merge-stops a side f place e))
          (nothing_picked a _ refl (stops_by a.left.packets a.right.packets a.left.ending a.right.ending side f place e))
    ] refl

-- the events of two captures whose heads are good
pub merges : (left right : List ℕ) (l r : Form) → head_of left ≡ Good l → head_of right ≡ Good r
    → IsMerge 0 (by_side l.link r.link) (by_side (capture_of left) (capture_of right)) (events_of left right)
unfolding events_of
merges left right l r h k =
    let a : Ahead = record { clock = 0; left_link = l.link; right_link = r.link; left = capture_of left; right = capture_of right } in
    subst (Weaves a) (sym (ap (λ (x : Head). by_heads left right x (head_of right)) h ∙ ap (by_heads left right (Good l)) k))
    (weave (suc (count a)) a (omega arith))

-- no moment is below the clock
not_below : (clock : ℕ) (link : Side → Link) (picks : List Pick) (i : ℕ) (d : Event) → i < length picks
    → clock ≤ (slice_index_or (events_from clock link picks) i d).moment
not_below clock link [] i d less = absurd (omega arith)
not_below clock link (pick ∷ picks) zero d less = omega arith
not_below clock link (pick ∷ picks) (suc i) d less = let h = not_below (max clock pick.packet.stamp) link picks i d (omega arith) in omega (arith, h)

length-events_from : (clock : ℕ) (link : Side → Link) (picks : List Pick) → length (events_from clock link picks) ≡ length picks
length-events_from clock link [] = refl
length-events_from clock link (pick ∷ picks) = ap suc (length-events_from (max clock pick.packet.stamp) link picks)

-- the moments never fall
never_fall : (clock : ℕ) (link : Side → Link) (picks : List Pick) (i j : ℕ) (d : Event) → i ≤ j → j < length picks
    → (slice_index_or (events_from clock link picks) i d).moment ≤ (slice_index_or (events_from clock link picks) j d).moment
never_fall clock link [] i j d le less = absurd (omega arith)
never_fall clock link (pick ∷ picks) zero zero d le less = omega arith
never_fall clock link (pick ∷ picks) zero (suc j) d le less = not_below (max clock pick.packet.stamp) link picks j d (omega arith)
never_fall clock link (pick ∷ picks) (suc i) zero d le less = absurd (omega arith)
never_fall clock link (pick ∷ picks) (suc i) (suc j) d le less = never_fall (max clock pick.packet.stamp) link picks i j d (omega arith) (omega arith)

no_event : (i j : ℕ) (d : Event) → i ≤ j → j < 0 → (slice_index_or [] i d).moment ≤ (slice_index_or [] j d).moment
no_event i j d le less = absurd (omega arith)

no_left_events : (left right : List ℕ) (f : CaptureFault) → head_of left ≡ Bad f → (events_of left right).events ≡ []
unfolding events_of
no_left_events left right f h = ap (λ (x : Head). (by_heads left right x (head_of right)).events) h

no_right_events : (left right : List ℕ) (l : Form) (f : CaptureFault) → head_of left ≡ Good l → head_of right ≡ Bad f
    → (events_of left right).events ≡ []
unfolding events_of
no_right_events left right l f h k = ap (λ (x : Head). (by_heads left right x (head_of right)).events) h
    ∙ ap (λ (x : Head). (by_heads left right (Good l) x).events) k

by_heads-moments : (left right : List ℕ) (x y : Head) → head_of left ≡ x → head_of right ≡ y
    → IsNonDecreasingBy (λ (e : Event). e.moment) (events_of left right).events
by_heads-moments left right (Good l) (Good r) h k =
    let m = merges left right l r h k in
    subst (IsNonDecreasingBy (λ (e : Event). e.moment)) (sym m.events)
    (λ i j d le less. never_fall 0 (by_side l.link r.link) m.picks i j d le
    (omega (arith, less, length-events_from 0 (by_side l.link r.link) m.picks)))
by_heads-moments left right (Bad f) y h k = subst (IsNonDecreasingBy (λ (e : Event). e.moment)) (sym (no_left_events left right f h)) no_event
by_heads-moments left right (Good l) (Bad f) h k = subst (IsNonDecreasingBy (λ (e : Event). e.moment)) (sym (no_right_events left right l f h k))
    no_event

-- the moments never fall
pub moments : (left right : List ℕ) → IsNonDecreasingBy (λ (e : Event). e.moment) (events_of left right).events
moments left right = by_heads-moments left right (head_of left) (head_of right) refl refl
