-- The records that were taken whole of each side, and the events that were given for them.
use Rattle.std.proofs.Common.{◌≡◌, inl, inr, ◌≤◌, ℕ, ◌+◌, ◌-◌, List, [], ◌∷◌, ◌++◌, Bool, true, false, cond, Option, Some, None, IfSome, IsSome, option_map, nat_le, drop, length, refl, sym, ap, subst, ◌∙◌, append_assoc, length-append, zero-add, arith, ◌^◌, drop-drop}
use Rattle.std.proofs.lemmas.Bool.{false≢true, le-leb, lt-leb}
use Rattle.std.proofs.lemmas.List.Sums.{sum_by-append}
use Rattle.gate_base.specs.declared.side.Side.{Side}
use Rattle.gate_base.specs.declared.side.Side.TheVariants.{Left, Right}
use Rattle.gate_base.specs.Prelude.{same_side, Event}
use Rattle.gate_desk.specs.Outside.{Outside, Takes, told_at}
use Rattle.gate_desk.specs.declared.slot.Slot.TheVariants.{LeftIn, RightIn}
use Rattle.gate_desk.proofs.Laws.{told_at-took, told_at-took_other}
use Rattle.pcap_files.specs.declared.form.Form.{Form}
use Rattle.pcap_files.specs.Prelude.{Packet, Records, Next, Ended, Broken, Came, size, next_at, Good, head_of, capture_of, records_from, Reading, TakesNoRecord, TakesToFailure}
use Rattle.pcap_files.proofs.Records.{records-came, records-ended, records-broken, capture-good}
use Rattle.pcap_merge.specs.declared.order.Last.{Last}
use Rattle.pcap_merge.specs.declared.order.Last.TheVariants.{Nothing, Event as LastEvent}
use Rattle.pcap_merge.specs.declared.stop.MergeStop.{MergeStop}
use Rattle.pcap_merge.specs.Prelude.{is_unread, count_of_side, EndsAtTaken, TakenFor, with_records, HasRead, Readies, one_for, slot_of, Merging, merging, event_given, reading_of, HasGiven, TakesFew}
use Rattle.pcap_merge.specs.Given.{whole_in, whole_records, EndsOn, HasTakenFew, total, one_held, IsLast}
use Rattle.pcap_merge.specs.Inside.Sides.{ComesTo, held_size}

-- ## Records that lie whole in so many octets

whole_first : (p : Packet) (packets : List Packet) (n m : ℕ) → n ≡ size p + m → whole_in n (p ∷ packets) ≡ 1 + whole_in m packets
whole_first p packets n m e =
    let fits : nat_le (size p) n ≡ true = le-leb (size p) n (omega arith) in
    let rest : n - size p ≡ m = omega arith in
    ap (λ (b : Bool). cond b (1 + whole_in (n - size p) packets) 0) fits ∙ ap (λ (k : ℕ). 1 + whole_in k packets) rest

whole_front : (before others : List Packet) (n : ℕ) → whole_in (total before + n) (before ++ others) ≡ length before + whole_in n others
whole_front [] others n = ap (λ (k : ℕ). whole_in k others) (zero-add n) ∙ sym (zero-add (whole_in n others))
whole_front (p ∷ before) others n =
    let here = whole_first p (before ++ others) (size p + total before + n) (total before + n) (omega arith) in
    let there = whole_front before others n in
    omega (arith, here, there)

whole_none : (form : Form) (place n : ℕ) (octets : List ℕ) (x : Next) → next_at form place octets ≡ x → TakesNoRecord x n
    → whole_in n (records_from form place octets).packets ≡ 0
whole_none form place n octets Ended e h = ap (λ (r : Records). whole_in n r.packets) (records-ended form place octets e)
whole_none form place n octets (Broken f) e h = ap (λ (r : Records). whole_in n r.packets) (records-broken form place octets f e)
whole_none form place n octets (Came p) e h =
    ap (λ (r : Records). whole_in n r.packets) (records-came form place octets p e)
    ∙ ap (λ (b : Bool). cond b (1 + whole_in (n - size p) (records_from form (place + size p) (drop (size p) octets)).packets) 0)
    (lt-leb (size p) n h)

-- ## One side

total-append : (xs ys : List Packet) → total (xs ++ ys) ≡ total xs + total ys
total-append [] ys = sym (zero-add (total ys))
total-append (x ∷ xs) ys = let rest = total-append xs ys in omega (arith, rest)

total_pushed : (xs : List Packet) (p : Packet) → total (xs ++ p ∷ []) ≡ total xs + size p
total_pushed xs p = let all = total-append xs (p ∷ []) in omega (arith, all)

length_pushed : {A : Type 0} (xs : List A) (x : A) → length (xs ++ x ∷ []) ≡ length xs + 1
length_pushed xs x = length-append xs (x ∷ [])

-- a reader that came to what stands next
comes_on : (held : Option Packet) (r s : Reading) (given : ℕ) (all : List ℕ) → s.packet ≡ held → s.form ≡ r.form → s.place ≡ r.place + held_size held
    → ComesTo held r (drop r.place all)
    → HasRead r true given all → HasRead s false given all
comes_on None r s given all packet form place comes h = record {
  before = h.before;
  records = h.records ∙ ap (λ (f : Form). with_records h.before (records_from f r.place (drop r.place all))) (sym form)
      ∙ ap (λ (n : ℕ). with_records h.before (records_from s.form n (drop n all))) (let e : r.place ≡ s.place = omega arith in e);
  place_is = omega (arith, h.place_is);
  count = h.count ∙ ap (λ (q : Option Packet). given + one_for q) (sym packet);
}
comes_on (Some p) r s given all packet form place comes h =
    let at : drop (size p) (drop r.place all) ≡ drop s.place all = drop-drop (size p) r.place all ∙ ap (λ (n : ℕ). drop n all) (sym place) in
    let there : records_from r.form r.place (drop r.place all) ≡ with_records (p ∷ []) (records_from s.form s.place (drop s.place all)) =
    records-came r.form r.place (drop r.place all) p comes
    ∙ ap (λ (xs : List ℕ). with_records (p ∷ []) (records_from r.form (r.place + size p) xs)) at
    ∙ ap (λ (n : ℕ). with_records (p ∷ []) (records_from r.form n (drop s.place all))) (sym place)
    ∙ ap (λ (f : Form). with_records (p ∷ []) (records_from f s.place (drop s.place all))) (sym form) in
    let rest = records_from s.form s.place (drop s.place all) in record {
      before = h.before ++ p ∷ [];
      records = h.records ∙ ap (with_records h.before) there ∙ ap
          (λ (ps : List Packet). let x : Records = record { packets = ps; ending = rest.ending } in x)
          (sym (append_assoc h.before (p ∷ []) rest.packets));
      place_is = let sizes = total_pushed h.before p in omega (arith, h.place_is, sizes);
      count = let lengths = length_pushed h.before p in let one : one_held false s.packet ≡ 1 = ap one_for packet in
          omega (arith, h.count, lengths, one);
    }

pub one_for_some : (p : Option Packet) → IsSome p → one_for p ≡ 1
one_for_some None h = absurd (false≢true h)
one_for_some (Some p) h = refl

-- the event of a held record is given
given_on : (unread : Bool) (s : Reading) (given : ℕ) (all : List ℕ) → (unread ≡ true → IsSome s.packet) → HasRead s false given all
    → HasRead s unread (given + cond unread 1 0) all
given_on false s given all held h =
    record { before = h.before; records = h.records; place_is = h.place_is; count = let same = h.count in omega (arith, same) }
given_on true s given all held h =
    let one = one_for_some s.packet (held refl) in
    record { before = h.before; records = h.records; place_is = h.place_is; count = let same = h.count in omega (arith, same, one) }

-- no further record lies whole in the octets that were taken
ends_at : (r : Reading) (given n : ℕ) (all : List ℕ) → HasRead r true given all → TakesNoRecord (next_at r.form r.place (drop r.place all)) n
    → whole_records (r.place + n) all ≡ given
unfolding whole_records
ends_at r given n all h none =
    let rest = records_from r.form r.place (drop r.place all) in
    let count : (r.place + n) - 24 ≡ total h.before + n = omega (arith, h.place_is) in
    let whole = whole_none r.form r.place n (drop r.place all) _ refl none in
    let front = whole_front h.before rest.packets n in
    ap (λ (k : ℕ). whole_in k (capture_of all).packets) count ∙ ap (λ (x : Records). whole_in (total h.before + n) x.packets) h.records
    ∙ (let e : whole_in (total h.before + n) (h.before ++ rest.packets) ≡ given = omega (arith, front, whole, h.count) in e)

-- ## What is told of a side

dropped : (start : Option (List ℕ)) (m n : ℕ) → option_map (drop m) (option_map (drop n) start) ≡ option_map (drop (n + m)) start
dropped None m n = refl
dropped (Some all) m n = ap Some (drop-drop m n all)

side_stands : (side : Side) (unread : Bool) (r s : Reading) (start : Option (List ℕ)) (old new : Outside) → Readies side unread r s old new
    → told_at old.left (slot_of side) ≡ option_map (drop r.place) start → told_at new.left (slot_of side) ≡ option_map (drop s.place) start
side_stands side unread r s start old new h e =
    ap (λ t. told_at t (slot_of side)) h.takes.left ∙ told_at-took (slot_of side) h.count old.left ∙ ap (option_map (drop h.count)) e
    ∙ dropped start h.count r.place ∙ ap (λ (n : ℕ). option_map (drop n) start) (sym h.place)

read_of_told : (r s : Reading) (given : ℕ) (start told : Option (List ℕ)) → s.form ≡ r.form → s.place ≡ r.place + held_size s.packet
    → told ≡ option_map (drop r.place) start → IfSome told (ComesTo s.packet r)
    → IfSome start (HasRead r true given) → IfSome start (HasRead s false given)
read_of_told r s given None told form place e comes h = tt
read_of_told r s given (Some all) told form place e comes h =
    comes_on s.packet r s given all refl form place (subst (λ t. IfSome t (ComesTo s.packet r)) e comes) h

-- a side that stands at its next record or at its end
side_before : (side : Side) (unread : Bool) (r s : Reading) (given : ℕ) (start : Option (List ℕ)) (old new : Outside)
    → Readies side unread r s old new
    → told_at old.left (slot_of side) ≡ option_map (drop r.place) start → IfSome start (HasRead r unread given) → IfSome start (HasRead s false given)
side_before side false r s given start old new h e before = subst (λ (x : Reading). IfSome start (HasRead x false given)) (sym (h.kept refl).0) before
side_before side true r s given start old new h e before =
    read_of_told r s given start (told_at old.left (slot_of side)) h.form (h.place ∙ ap (λ (n : ℕ). r.place + n) (h.size_is refl)) e
    (h.comes refl) before

side_given : (unread : Bool) (s : Reading) (given : ℕ) (start : Option (List ℕ)) → (unread ≡ true → IsSome s.packet)
    → IfSome start (HasRead s false given) → IfSome start (HasRead s unread (given + cond unread 1 0))
side_given unread s given None held h = tt
side_given unread s given (Some all) held h = given_on unread s given all held h

-- ## Both sides

one_more : (side : Side) (events : List Event) (e : Event) → count_of_side side (events ++ e ∷ []) ≡ count_of_side side events
    + cond (same_side e.side side) 1 0
one_more side events e = let sums = sum_by-append (λ (x : Event). cond (same_side x.side side) 1 0) events (e ∷ []) in omega (arith, sums)

-- what was told of a side, though octets of the other one were taken
same_left : (n : ℕ) (old new : Outside) → Takes RightIn n old new → told_at new.left LeftIn ≡ told_at old.left LeftIn
same_left n old new t = ap (λ o. told_at o LeftIn) t.left ∙ told_at-took_other RightIn LeftIn n old.left refl

pub same_right : (n : ℕ) (old new : Outside) → Takes LeftIn n old new → told_at new.left RightIn ≡ told_at old.left RightIn
same_right n old new t = ap (λ o. told_at o RightIn) t.left ∙ told_at-took_other LeftIn RightIn n old.left refl

-- an event was given
pub given_more : (l l' r r' : Reading) (clock clock' : ℕ) (last : Last) (e : Event) (stop : Option MergeStop) (start old mid new : Outside)
    (events : List Event)
    → (same_side e.side Left ≡ true → IsSome l'.packet) → (same_side e.side Right ≡ true → IsSome r'.packet)
    → event_given (LastEvent e.side) l' r' clock' ≡ Some e
    → Readies Left (is_unread Left last) l l' old mid → Readies Right (is_unread Right last) r r' mid new
    → HasGiven start (merging l r clock last stop) old events → HasGiven start (merging l' r' clock' (LastEvent e.side) stop) new (events ++ e ∷ [])
given_more l l' r r' clock clock' last e stop start old mid new events held_left held_right shown h k given =
    let right_told = same_right h.count old mid h.takes ∙ given.stands Right in
    let left = side_given (same_side e.side Left) l' (count_of_side Left events) (told_at start.left LeftIn) held_left
    (side_before Left (is_unread Left last) l l' (count_of_side Left events) (told_at start.left LeftIn) old mid h (given.stands Left)
    (given.before Left)) in
    let right = side_given (same_side e.side Right) r' (count_of_side Right events) (told_at start.left RightIn) held_right
    (side_before Right (is_unread Right last) r r' (count_of_side Right events) (told_at start.left RightIn) mid new k right_told
    (given.before Right)) in record {
      stands = λ side. elim side as
          (λ (x : Side). told_at new.left (slot_of x) ≡ option_map (drop (reading_of x (merging l' r' clock' (LastEvent e.side) stop)).place)
          (told_at start.left (slot_of x))) [
            | Left ↦ same_left k.count mid new k.takes ∙ side_stands Left (is_unread Left last) l l' (told_at start.left LeftIn) old mid h
                (given.stands Left)
            | Right ↦ side_stands Right (is_unread Right last) r r' (told_at start.left RightIn) mid new k right_told
          ];
      near = λ side. elim side as
          (λ (x : Side). (reading_of x (merging l' r' clock' (LastEvent e.side) stop)).place ≤ 2 ^ 40) [
            | Left ↦ h.near (given.near Left)
            | Right ↦
                k.near (given.near Right)
          ];
      before = λ side. elim side as
          (λ (x : Side). IfSome (told_at start.left (slot_of x))
          (HasRead (reading_of x (merging l' r' clock' (LastEvent e.side) stop)) (is_unread x (LastEvent e.side))
          (count_of_side x (events ++ e ∷ [])))) [
            | Left ↦ subst (λ (n : ℕ). IfSome (told_at start.left LeftIn) (HasRead l' (same_side e.side Left) n)) (sym (one_more Left events e)) left
            | Right ↦ subst (λ (n : ℕ). IfSome (told_at start.left RightIn) (HasRead r' (same_side e.side Right) n))
                (sym (one_more Right events e)) right
          ];
      last = subst (λ (o : Option Event). IsLast o (events ++ e ∷ [])) (sym shown) (events, refl);
    }

ends_on : (o : Option Event) (side : Side) (events : List Event) → IsLast o events → IfSome o (λ e. e.side ≡ side) → EndsOn side events
ends_on None side events none h = inl none
ends_on (Some e) side events last h = inr (last.0, e, last.1, h)

whole_told : (r : Reading) (given n : ℕ) (start told : Option (List ℕ)) → told ≡ option_map (drop r.place) start
    → IfSome told (λ octets. TakesNoRecord (next_at r.form r.place octets) n)
    → IfSome start (HasRead r true given) → IfSome start (λ all. whole_records (r.place + n) all ≡ given)
whole_told r given n None told e none h = tt
whole_told r given n (Some all) told e none h = ends_at r given n all h
    (subst (λ t. IfSome t (λ octets. TakesNoRecord (next_at r.form r.place octets) n)) e none)

-- a side that was to be read, and couldn't be
pub ends_taken : (side : Side) (r : Reading) (unread : Bool) (n : ℕ) (start old new : Outside) (o : Option Event) (events : List Event)
    → unread ≡ true → Takes (slot_of side) n old new
    → IfSome (told_at old.left (slot_of side)) (λ octets. TakesNoRecord (next_at r.form r.place octets) n)
    → told_at old.left (slot_of side) ≡ option_map (drop r.place) (told_at start.left (slot_of side))
    → IfSome (told_at start.left (slot_of side)) (HasRead r unread (count_of_side side events)) → IsLast o events → IfSome o (λ e. e.side ≡ side)
    → EndsAtTaken side start new events
ends_taken side r unread n start old new o events to_read takes none stands before last of_side = record {
  count = r.place + n;
  taken = ap (λ t. told_at t (slot_of side)) takes.left ∙ told_at-took (slot_of side) n old.left ∙ ap (option_map (drop n)) stands
      ∙ dropped (told_at start.left (slot_of side)) n r.place;
  whole = whole_told r (count_of_side side events) n (told_at start.left (slot_of side)) (told_at old.left (slot_of side)) stands none
      (subst (λ (u : Bool). IfSome (told_at start.left (slot_of side)) (HasRead r u (count_of_side side events))) to_read before);
  last = ends_on o side events last of_side;
}

nothing_read : (r : Reading) (o : Option (List ℕ)) → r.place ≡ 24 → IfSome o (λ all. head_of all ≡ Good r.form) → IfSome o (HasRead r true 0)
nothing_read r None place h = tt
nothing_read r (Some all) place h = record {
  before = [];
  records = capture-good all r.form h ∙ ap (λ (n : ℕ). records_from r.form n (drop n all)) (sym place);
  place_is = place;
  count = refl;
}

-- both captures began
pub given_none : (l r : Reading) (clock : ℕ) (stop : Option MergeStop) (old mid new : Outside) → l.place ≡ 24 → r.place ≡ 24 → Takes LeftIn 24 old mid
    → Takes RightIn 24 mid new
    → IfSome (told_at old.left LeftIn) (λ all. head_of all ≡ Good l.form) → IfSome (told_at mid.left RightIn) (λ all. head_of all ≡ Good r.form)
    → HasGiven old (merging l r clock Nothing stop) new []
given_none l r clock stop old mid new left_place right_place h k left right = record {
  stands = λ side. elim side as
      (λ (x : Side). told_at new.left (slot_of x) ≡ option_map (drop (reading_of x (merging l r clock Nothing stop)).place)
      (told_at old.left (slot_of x))) [
        | Left ↦ same_left 24 mid new k ∙ ap (λ t. told_at t LeftIn) h.left ∙ told_at-took LeftIn 24 old.left
            ∙ ap (λ (n : ℕ). option_map (drop n) (told_at old.left LeftIn)) (sym left_place)
        | Right ↦ ap (λ t. told_at t RightIn) k.left ∙ told_at-took RightIn 24 mid.left ∙ ap (option_map (drop 24)) (same_right 24 old mid h)
            ∙ ap (λ (n : ℕ). option_map (drop n) (told_at old.left RightIn)) (sym right_place)
      ];
  near = λ side. elim side as
      (λ (x : Side). (reading_of x (merging l r clock Nothing stop)).place ≤ 2 ^ 40) [
        | Left ↦ omega (arith, left_place)
        | Right ↦ omega
            (arith, right_place)
      ];
  before = λ side. elim side as
      (λ (x : Side). IfSome (told_at old.left (slot_of x)) (HasRead (reading_of x (merging l r clock Nothing stop)) true 0)) [
        | Left ↦ nothing_read l (told_at old.left LeftIn) left_place left
        | Right ↦ nothing_read r (told_at old.left RightIn) right_place
            (subst (λ t. IfSome t (λ all. head_of all ≡ Good r.form)) (same_right 24 old mid h) right)
      ];
  last = refl;
}

-- ## What was taken, at most

whole_zero : (packets : List Packet) → whole_in 0 packets ≡ 0
whole_zero [] = refl
whole_zero (p ∷ packets) = ap (λ (b : Bool). cond b (1 + whole_in (0 - size p) packets) 0) (lt-leb (size p) 0 (omega arith))

-- the records before a reader
read_few : (r : Reading) (unread : Bool) (given : ℕ) (all : List ℕ) → HasRead r unread given all → whole_records r.place all ≤ given + 1
unfolding whole_records
read_few r unread given all h =
    let rest = records_from r.form r.place (drop r.place all) in
    let count : r.place - 24 ≡ total h.before + 0 = omega (arith, h.place_is) in
    let whole : whole_in (r.place - 24) (capture_of all).packets ≡ whole_in (total h.before + 0) (h.before ++ rest.packets) =
    ap (λ (k : ℕ). whole_in k (capture_of all).packets) count ∙ ap (λ (x : Records). whole_in (total h.before + 0) x.packets) h.records in
    omega (arith, whole, whole_front h.before rest.packets 0, whole_zero rest.packets, h.count, held_few unread r.packet)
  where
    held_few : (u : Bool) (p : Option Packet) → one_held u p ≤ 1
    held_few true p = omega arith
    held_few false None = omega arith
    held_few false (Some p) = omega arith

few_of : (r : Reading) (unread : Bool) (given : ℕ) (o : Option (List ℕ)) → IfSome o (HasRead r unread given)
    → IfSome o (λ all. whole_records r.place all ≤ given + 1)
few_of r unread given None h = tt
few_of r unread given (Some all) h = read_few r unread given all h

exactly : (given count : ℕ) (o : Option (List ℕ)) → IfSome o (λ all. whole_records count all ≡ given)
    → IfSome o (λ all. whole_records count all ≤ given + 1)
exactly given count None h = tt
exactly given count (Some all) h = omega (arith, h)

-- a side of which nothing more was taken
few_still : (side : Side) (r : Reading) (unread : Bool) (given : ℕ) (start now : Outside)
    → told_at now.left (slot_of side) ≡ option_map (drop r.place) (told_at start.left (slot_of side)) → r.place ≤ 2 ^ 40
    → IfSome (told_at start.left (slot_of side)) (HasRead r unread given) → HasTakenFew side start now given
few_still side r unread given start now stands near before =
    record { count = r.place; taken = stands; near = omega (arith, near); few = few_of r unread given (told_at start.left (slot_of side)) before }

-- a side that stands at its next record or at its end
few_ready : (side : Side) (unread : Bool) (r s : Reading) (given : ℕ) (start old new : Outside) → Readies side unread r s old new
    → told_at old.left (slot_of side) ≡ option_map (drop r.place) (told_at start.left (slot_of side)) → r.place ≤ 2 ^ 40
    → IfSome (told_at start.left (slot_of side)) (HasRead r unread given) → HasTakenFew side start new given
few_ready side unread r s given start old new h stands near before =
    few_still side s false given start new (side_stands side unread r s (told_at start.left (slot_of side)) old new h stands) (h.near near)
    (side_before side unread r s given (told_at start.left (slot_of side)) old new h stands before)

-- a side that was to be read, and couldn't be
few_stopped : (side : Side) (r : Reading) (unread : Bool) (given : ℕ) (start old new : Outside) → unread ≡ true
    → TakesToFailure (slot_of side) r.form r.place old new → told_at old.left (slot_of side) ≡ option_map (drop r.place)
    (told_at start.left (slot_of side)) → IfSome (told_at start.left (slot_of side)) (HasRead r unread given) → HasTakenFew side start new given
few_stopped side r unread given start old new to_read h stands before = record {
  count = r.place + h.count;
  taken = ap (λ t. told_at t (slot_of side)) h.takes.left ∙ told_at-took (slot_of side) h.count old.left ∙ ap (option_map (drop h.count)) stands
      ∙ dropped (told_at start.left (slot_of side)) h.count r.place;
  near = h.near;
  few = exactly given (r.place + h.count) (told_at start.left (slot_of side))
      (whole_told r given h.count (told_at start.left (slot_of side)) (told_at old.left (slot_of side)) stands h.none
      (subst (λ (u : Bool). IfSome (told_at start.left (slot_of side)) (HasRead r u given)) to_read before));
}

few_later : (side : Side) (start a b : Outside) (given : ℕ) → told_at b.left (slot_of side) ≡ told_at a.left (slot_of side)
    → HasTakenFew side start a given → HasTakenFew side start b given
few_later side start a b given same h = record { count = h.count; taken = same ∙ h.taken; near = h.near; few = h.few }

-- both sides stand at their next records or at their ends
pub both_ready : (l l' r r' : Reading) (clock : ℕ) (last : Last) (stop : Option MergeStop) (old mid new : Outside)
    → Readies Left (is_unread Left last) l l' old mid → Readies Right (is_unread Right last) r r' mid new
    → TakesFew (merging l r clock last stop) old new
both_ready l l' r r' clock last stop old mid new h k start events given side =
    elim side as (λ (x : Side). HasTakenFew x start new (count_of_side x events)) [
      | Left ↦ few_later Left start mid new (count_of_side Left events) (same_left k.count mid new k.takes)
          (few_ready Left (is_unread Left last) l l' (count_of_side Left events) start old mid h (given.stands Left) (given.near Left)
          (given.before Left))
      | Right ↦ few_ready Right (is_unread Right last) r r' (count_of_side Right events) start mid new k
          (same_right h.count old mid h.takes ∙ given.stands Right) (given.near Right) (given.before Right)
    ]

-- the left side couldn't be read
pub left_stopped : (l r : Reading) (clock : ℕ) (last : Last) (stop : Option MergeStop) (old new : Outside) → is_unread Left last ≡ true
    → TakesToFailure LeftIn l.form l.place old new → TakesFew (merging l r clock last stop) old new
left_stopped l r clock last stop old new to_read h start events given side =
    elim side as (λ (x : Side). HasTakenFew x start new (count_of_side x events)) [
      | Left ↦ few_stopped Left l (is_unread Left last) (count_of_side Left events) start old new to_read h (given.stands Left) (given.before Left)
      | Right ↦ few_still Right r (is_unread Right last) (count_of_side Right events) start new
          (same_right h.count old new h.takes ∙ given.stands Right)
          (given.near Right) (given.before Right)
    ]

-- the right side couldn't be read
pub right_stopped : (l l' r : Reading) (clock : ℕ) (last : Last) (stop : Option MergeStop) (old mid new : Outside)
    → Readies Left (is_unread Left last) l l' old mid → is_unread Right last ≡ true → TakesToFailure RightIn r.form r.place mid new
    → TakesFew (merging l r clock last stop) old new
right_stopped l l' r clock last stop old mid new h to_read k start events given side =
    elim side as (λ (x : Side). HasTakenFew x start new (count_of_side x events)) [
      | Left ↦ few_later Left start mid new (count_of_side Left events) (same_left k.count mid new k.takes)
          (few_ready Left (is_unread Left last) l l' (count_of_side Left events) start old mid h (given.stands Left) (given.near Left)
          (given.before Left))
      | Right ↦ few_stopped Right r (is_unread Right last) (count_of_side Right events) start mid new to_read k
          (same_right h.count old mid h.takes ∙ given.stands Right) (given.before Right)
    ]

-- no record lies in so few octets of a capture
no_record : (count : ℕ) (o : Option (List ℕ)) → count ≤ 24 → IfSome o (λ all. whole_records count all ≤ 1)
unfolding whole_records
no_record count None few = tt
no_record count (Some all) few =
    let none : count - 24 ≡ 0 = omega arith in
    omega (arith, ap (λ (k : ℕ). whole_in k (capture_of all).packets) none ∙ whole_zero (capture_of all).packets)

-- of both captures their heads were taken, or less
pub heads_few : (m n : ℕ) (old mid new : Outside) → m ≤ 24 → n ≤ 24 → Takes LeftIn m old mid → Takes RightIn n mid new → TakenFor [] old new
heads_few m n old mid new left right h k side = elim side as (λ (x : Side). HasTakenFew x old new (count_of_side x [])) [
  | Left ↦ record {
    count = m;
    taken = same_left n mid new k ∙ ap (λ t. told_at t LeftIn) h.left ∙ told_at-took LeftIn m old.left;
    near = omega (arith, left);
    few = no_record m (told_at old.left LeftIn) left;
  }
  | Right ↦ record {
    count = n;
    taken = ap (λ t. told_at t RightIn) k.left ∙ told_at-took RightIn n mid.left
        ∙ ap (option_map (drop n)) (same_right m old mid h);
    near = omega (arith, right);
    few = no_record n (told_at old.left RightIn) right;
  }
]

-- what was taken while these events were given
pub given_few : (start : Outside) (m : Merging) (now : Outside) (events : List Event) → HasGiven start m now events → TakenFor events start now
given_few start m now events given side = few_still side (reading_of side m) (is_unread side m.last) (count_of_side side events) start now
    (given.stands side) (given.near side) (given.before side)

drop_none : (o : Option (List ℕ)) → o ≡ option_map (drop 0) o
drop_none None = refl
drop_none (Some all) = refl

-- nothing was taken of either capture
pub taken_none : (start now : Outside) → ((side : Side) → told_at now.left (slot_of side) ≡ told_at start.left (slot_of side)) → TakenFor [] start now
taken_none start now same side = record {
  count = 0;
  taken = same side ∙ drop_none (told_at start.left (slot_of side));
  near = omega arith;
  few = no_record 0 (told_at start.left (slot_of side)) (omega arith);
}

-- nothing more was taken of either capture
pub taken_later : (start a b : Outside) (events : List Event) → ((side : Side) → told_at b.left (slot_of side) ≡ told_at a.left (slot_of side))
    → TakenFor events start a → TakenFor events start b
taken_later start a b events same h side = few_later side start a b (count_of_side side events) (same side) (h side)

-- the same since an earlier start that told the same of the captures
pub taken_since : (start earlier now : Outside) (events : List Event)
    → ((side : Side) → told_at start.left (slot_of side) ≡ told_at earlier.left (slot_of side)) → TakenFor events start now
    → TakenFor events earlier now
taken_since start earlier now events same h side =
    let taken = h side in
    record {
      count = taken.count;
      taken = taken.taken ∙ ap (option_map (drop taken.count)) (same side);
      near = taken.near;
      few = subst (λ (o : Option (List ℕ)). IfSome o (λ all. whole_records taken.count all ≤ count_of_side side events + 1)) (same side) taken.few;
    }
