-- Steps of a merge, over what is told of both captures.
use Rattle.std.proofs.Common.{◌≡◌, inl, inr, ℕ, ◌+◌, ◌<◌, List, [], Bool, true, false, cond, Option, Some, None, Err, IfSome, IsSome, option_map, max, nat_le, drop, length, refl, sym, ap, subst, ◌∙◌, arith, Ok}
use Rattle.std.proofs.lemmas.Bool.{false≢true}
use Rattle.std.proofs.lemmas.Option.{none-some}
use Rattle.gate_base.specs.declared.side.Side.{Side}
use Rattle.gate_base.specs.declared.side.Side.TheVariants.{Left, Right}
use Rattle.gate_base.specs.declared.side.Link.{Link}
use Rattle.gate_base.specs.Prelude.{same_side, Event}
use Rattle.gate_desk.specs.declared.slot.Slot.TheVariants.{LeftIn, RightIn}
use Rattle.gate_desk.specs.Outside.{Outside, Trace, Takes, HasFailed, told_at, took}
use Rattle.gate_desk.proofs.Laws.{takes_none, grows_on, grows_takes, failed_since}
use Rattle.pcap_files.specs.declared.fault.CaptureFault.{CaptureFault}
use Rattle.pcap_files.specs.declared.form.Form.{Form}
use Rattle.pcap_files.specs.Prelude.{Packet, Records, Fault as CaptureEndsFaulty, records_from, Reading, IsSmall}
use Rattle.pcap_merge.specs.declared.order.Last.{Last}
use Rattle.pcap_merge.specs.declared.order.Last.TheVariants.{Nothing, Event as LastEvent, End}
use Rattle.pcap_merge.specs.declared.stop.MergeStop.{MergeStop}
use Rattle.pcap_merge.specs.declared.stop.MergeStop.TheVariants.{Fault, Desk, OutOfMemory}
use Rattle.pcap_merge.specs.Prelude.{is_unread, earlier, Merged, Done, Fault as EndsFaulty, Ahead, Gives, Stops, front_of, turn_of, event_at}
use Rattle.pcap_merge.specs.Prelude.{with_event, merge_from, Readies, ReadsSide, records_ahead, IsSpent, side_work, Merging, merging, event_given}
use Rattle.pcap_merge.specs.Prelude.{Reads, sides_ahead, ComesTo, Finishes, StopsBy, Advances}
use Rattle.pcap_merge.specs.Events.{behind_first}
use Rattle.pcap_merge.specs.Sides.{held_before}
use Rattle.pcap_merge.specs.Inside.Sides.{ReadsSides}
use Rattle.pcap_merge.specs.Merge.{ahead}
use Rattle.pcap_merge.specs.Inside.Merge.{HoldsLast, IsSound}
use Rattle.pcap_merge.proofs.Merged.{merge-gives, merge-ends, merge-stops}
use Rattle.pcap_merge.proofs.Given.{same_right, given_more, ends_taken, both_ready, left_stopped, right_stopped}

-- what was taken from both captures
abbrev pub reads_of : (m n : ℕ) (old mid new : Outside) → Takes LeftIn m old mid → Takes RightIn n mid new → Reads old new
reads_of m n old mid new t u = record {
  left_count = m;
  right_count = n;
  left = u.left ∙ ap (took RightIn n) t.left;
  written = u.written ∙ t.written;
  starts = u.starts ∙ t.starts;
  start_faults = u.start_faults ∙ t.start_faults;
  grows = grows_on old mid new (grows_takes LeftIn m old mid t) (grows_takes RightIn n mid new u);
}

-- a fact of the left capture
pub left_told : (o : Trace) (P : List ℕ → Type 0) → IfSome (told_at o LeftIn) P → IfSome o (λ all. P all.left_in)
unfolding told_at
left_told None P h = tt
left_told (Some all) P h = h

-- a fact of the right capture, where octets were taken from the left one
right_told-of : (o : Trace) (m : ℕ) (P : List ℕ → Type 0) → IfSome (told_at (took LeftIn m o) RightIn) P → IfSome o (λ all. P all.right_in)
unfolding told_at took
right_told-of None m P h = tt
right_told-of (Some all) m P h = h

-- the same, from what stands after octets were taken from the left one
pub right_told : (m : ℕ) (old mid : Outside) (P : List ℕ → Type 0) → Takes LeftIn m old mid → IfSome (told_at mid.left RightIn) P
    → IfSome old.left (λ all. P all.right_in)
right_told m old mid P t h = right_told-of old.left m P (subst (λ o. IfSome (told_at o RightIn) P) t.left h)

-- two facts of what is told
pub both : {A : Type 0} (o : Option A) (P Q R : A → Type 0) → IfSome o P → IfSome o Q → ((x : A) → P x → Q x → R x) → IfSome o R
both None P Q R h k f = tt
both (Some x) P Q R h k f = f x h k

-- the events still to come, from those of whole lists
ahead_gives-of : (x x' : Merging) (m n : ℕ) (o : Trace) (e : Event)
    → IfSome o (λ all. merge_from (sides_ahead x all.left_in all.right_in)
    ≡ with_event e (merge_from (sides_ahead x' (drop m all.left_in) (drop n all.right_in))))
    → ahead x o ≡ option_map (with_event e) (ahead x' (took RightIn n (took LeftIn m o)))
unfolding ahead took
ahead_gives-of x x' m n None e h = refl
ahead_gives-of x x' m n (Some all) e h = ap Some h

ahead_is : (x : Merging) (o : Trace) (y : Merged) → IfSome o (λ all. merge_from (sides_ahead x all.left_in all.right_in) ≡ y)
    → IfSome (ahead x o) (λ z. z ≡ y)
unfolding ahead
ahead_is x None y h = tt
ahead_is x (Some all) y h = h

-- two sides that are merged
abbrev pub sides : ℕ → Form → Form → Records → Records → Ahead
sides clock left_form right_form left right =
    record { clock = clock; left_link = left_form.link; right_link = right_form.link; left = left; right = right }

-- both sides stand at a record or at their end
ready : (l l' r r' : Reading) (clock : ℕ) (last : Last) (stop : Option MergeStop) (a b a' b' : List ℕ) → l'.form ≡ l.form → r'.form ≡ r.form
    → records_ahead (is_unread Left last) l a ≡ records_ahead false l' a' → records_ahead (is_unread Right last) r b ≡ records_ahead false r' b'
    → sides_ahead (merging l r clock last stop) a b ≡ sides clock l'.form r'.form (records_ahead false l' a') (records_ahead false r' b')
ready l l' r r' clock last stop a b a' b' form_left form_right left right =
    ap (λ (x : Records). sides clock l.form r.form x (records_ahead (is_unread Right last) r b)) left
    ∙ ap (λ (x : Records). sides clock l.form r.form (records_ahead false l' a') x) right
    ∙ ap (λ (f : Form). sides clock f r.form (records_ahead false l' a') (records_ahead false r' b')) (sym form_left)
    ∙ ap (λ (f : Form). sides clock l'.form f (records_ahead false l' a') (records_ahead false r' b')) (sym form_right)

-- the record that a side holds, and the form of its capture
abbrev held_of : Side → Option Packet → Option Packet → Option Packet
held_of Left left right = left
held_of Right left right = right

abbrev form_of : Side → Reading → Reading → Form
form_of Left l r = l.form
form_of Right l r = r.form

-- this record comes next, whatever comes behind it
record IsNext (side : Side) (p : Packet) (time : ℕ) (left right : Option Packet) : Type 0 where
  stamp : p.stamp ≡ time
  held : held_of side left right ≡ Some p
  turn : (xs ys : Records) → turn_of (front_of (held_before left xs)) (front_of (held_before right ys)) ≡ Gives side p

abbrev stamp_of : Option Packet → Option ℕ
stamp_of held = option_map (λ (p : Packet). p.stamp) held

abbrev the_first : Option (Side × ℕ) → Side × ℕ
the_first None = (Left, 0)
the_first (Some x) = x

nothing_first : (x : Side × ℕ) → None ≡ Some x → ⊥
nothing_first x e = cc

-- what `earlier` answers comes next
chosen : (left right : Option Packet) (x : Side × ℕ) → earlier (stamp_of left) (stamp_of right) ≡ Some x → (p : Packet) × IsNext x.0 p x.1 left right
chosen None None x e = absurd (nothing_first x e)
chosen (Some l) None x e = subst (λ (y : Side × ℕ). (p : Packet) × IsNext y.0 p y.1 (Some l) None) (ap the_first e)
    (l, record { stamp = refl; held = refl; turn = λ xs ys. refl })
chosen None (Some r) x e = subst (λ (y : Side × ℕ). (p : Packet) × IsNext y.0 p y.1 None (Some r)) (ap the_first e)
    (r, record { stamp = refl; held = refl; turn = λ xs ys. refl })
chosen (Some l) (Some r) x e =
    elim (nat_le l.stamp r.stamp) as
    (λ b. nat_le l.stamp r.stamp ≡ b → cond b (Some (Left, l.stamp)) (Some (Right, r.stamp)) ≡ Some x → (p : Packet)
    × IsNext x.0 p x.1 (Some l) (Some r)) [
      | true ↦ λ b e. subst (λ (y : Side × ℕ). (p : Packet) × IsNext y.0 p y.1 (Some l) (Some r)) (ap the_first e)
          (l, record { stamp = refl; held = refl; turn = λ xs ys. ap (λ t. cond t (Gives Left l) (Gives Right r)) b })
      | false ↦ λ b e. subst (λ (y : Side × ℕ). (p : Packet) × IsNext y.0 p y.1 (Some l) (Some r)) (ap the_first e)
          (r, record { stamp = refl; held = refl; turn = λ xs ys. ap (λ t. cond t (Gives Left l) (Gives Right r)) b })
    ] refl e

-- where `earlier` answers none, no side holds a record
none_chosen : (left right : Option Packet) → earlier (stamp_of left) (stamp_of right) ≡ None → (left ≡ None) × (right ≡ None)
none_chosen None None e = (refl, refl)
none_chosen (Some l) None e = absurd (nothing_first (Left, l.stamp) (sym e))
none_chosen None (Some r) e = absurd (nothing_first (Right, r.stamp) (sym e))
none_chosen (Some l) (Some r) e =
    absurd (elim (nat_le l.stamp r.stamp) as
    (λ b. (let o : Option (Side × ℕ) = cond b (Some (Left, l.stamp)) (Some (Right, r.stamp)) in o ≡ None) → ⊥) [
      | true ↦ λ k. nothing_first (Left, l.stamp) (sym k)
      | false ↦ λ k. nothing_first (Right, r.stamp) (sym k)
    ] e)

-- the event of a record at the new clock
abbrev event_now : Side → ℕ → Reading → Reading → Packet → Event
event_now side clock l r p = event_at side clock (form_of side l r).link p

-- the first of the events that are still to come
first_event : (l l' r r' : Reading) (clock : ℕ) (last : Last) (stop : Option MergeStop) (side : Side) (p : Packet) (time : ℕ) (a b a' b' : List ℕ)
    → IsNext side p time l'.packet r'.packet
    → l'.form ≡ l.form → r'.form ≡ r.form
    → records_ahead (is_unread Left last) l a ≡ records_ahead false l' a' → records_ahead (is_unread Right last) r b ≡ records_ahead false r' b'
    → merge_from (sides_ahead (merging l r clock last stop) a b)
    ≡ with_event (event_now side (max clock p.stamp) l' r' p)
    (merge_from (sides_ahead (merging l' r' (max clock p.stamp) (LastEvent side) stop) a' b'))
first_event l l' r r' clock last stop Left p time a b a' b' next form_left form_right left right =
    ap merge_from (ready l l' r r' clock last stop a b a' b' form_left form_right left right)
    ∙ merge-gives (sides clock l'.form r'.form (records_ahead false l' a') (records_ahead false r' b')) Left p
    (next.turn (records_from l'.form l'.place a') (records_from r'.form r'.place b'))
    ∙ ap (λ (q : Option Packet). with_event (event_now Left (max clock p.stamp) l' r' p)
    (merge_from (sides (max clock p.stamp) l'.form r'.form (behind_first (held_before q (records_from l'.form l'.place a')))
    (records_ahead false r' b')))) next.held
first_event l l' r r' clock last stop Right p time a b a' b' next form_left form_right left right =
    ap merge_from (ready l l' r r' clock last stop a b a' b' form_left form_right left right)
    ∙ merge-gives (sides clock l'.form r'.form (records_ahead false l' a') (records_ahead false r' b')) Right p
    (next.turn (records_from l'.form l'.place a') (records_from r'.form r'.place b'))
    ∙ ap (λ (q : Option Packet). with_event (event_now Right (max clock p.stamp) l' r' p)
    (merge_from (sides (max clock p.stamp) l'.form r'.form (records_ahead false l' a')
    (behind_first (held_before q (records_from r'.form r'.place b')))))) next.held

-- an event is the one that its merge shows
shown : (l r : Reading) (clock : ℕ) (side : Side) (p : Packet) → held_of side l.packet r.packet ≡ Some p
    → event_given (LastEvent side) l r clock ≡ Some (event_now side clock l r p)
shown l r clock Left p e = ap (option_map (event_at Left clock l.form.link)) e
shown l r clock Right p e = ap (option_map (event_at Right clock r.form.link)) e

small_held : (side : Side) (left right : Option Packet) (p : Packet) → IfSome left IsSmall → IfSome right IsSmall → held_of side left right ≡ Some p
    → IsSmall p
small_held Left left right p h k e = subst (λ o. IfSome o IsSmall) e h
small_held Right left right p h k e = subst (λ o. IfSome o IsSmall) e k

is_some_of : (o : Option Packet) (p : Packet) → o ≡ Some p → IsSome o
is_some_of o p e = subst (λ x. IsSome x) (sym e) refl

-- the work falls with each event
falls : (l l' r r' : Reading) (last : Last) (side : Side) (p : Packet) (old mid new : Outside) → HoldsLast last l.packet r.packet
    → Readies Left (is_unread Left last) l l' old mid → Readies Right (is_unread Right last) r r' mid new → held_of side l'.packet r'.packet ≡ Some p
    → side_work l' + side_work r' < side_work l + side_work r
falls l l' r r' Nothing Left p old mid new holds h k e = let f = h.falls refl (inr (is_some_of l'.packet p e)) in omega (arith, f, k.work)
falls l l' r r' Nothing Right p old mid new holds h k e = let f = k.falls refl (inr (is_some_of r'.packet p e)) in omega (arith, f, h.work)
falls l l' r r' (LastEvent Left) side p old mid new holds h k e = let f = h.falls refl (inl holds) in omega (arith, f, k.work)
falls l l' r r' (LastEvent Right) side p old mid new holds h k e = let f = k.falls refl (inl holds) in omega (arith, f, h.work)
falls l l' r r' End Left p old mid new holds h k e = absurd (none-some p (sym holds.0 ∙ ap (λ (x : Reading). x.packet) (sym (h.kept refl).0) ∙ e))
falls l l' r r' End Right p old mid new holds h k e = absurd (none-some p (sym holds.1 ∙ ap (λ (x : Reading). x.packet) (sym (k.kept refl).0) ∙ e))

-- what is spent once a side stands at a record or at its end
still_spent : (unread : Bool) (p : Option Packet) (octets : List ℕ) → IsSpent false p octets → IsSpent unread p octets
still_spent true p octets h = tt
still_spent false p octets h = h

keeps_ends-of : (o : Trace) (m n : ℕ) (l l' r r' : Reading) (last next : Last)
    → IfSome o (λ all. IsSpent (is_unread Left last) l.packet all.left_in → IsSpent false l'.packet (drop m all.left_in))
    → IfSome o (λ all. IsSpent (is_unread Right last) r.packet all.right_in → IsSpent false r'.packet (drop n all.right_in))
    → IfSome o (λ all. IsSpent (is_unread Left last) l.packet all.left_in × IsSpent (is_unread Right last) r.packet all.right_in)
    → IfSome (took RightIn n (took LeftIn m o))
    (λ all. IsSpent (is_unread Left next) l'.packet all.left_in × IsSpent (is_unread Right next) r'.packet all.right_in)
unfolding took
keeps_ends-of None m n l l' r r' last next h k e = tt
keeps_ends-of (Some all) m n l l' r r' last next h k e = (
  still_spent (is_unread Left next) l'.packet (drop m all.left_in) (h e.0),
  still_spent (is_unread Right next) r'.packet (drop n all.right_in)
      (k e.1),
)

-- what the reading of both sides tells of both captures
record IsReady (l l' r r' : Reading) (last : Last) (old new : Outside) : Type 0 where
  reads : Reads old new
  kept_left : is_unread Left last ≡ false → reads.left_count ≡ 0
  kept_right : is_unread Right last ≡ false → reads.right_count ≡ 0
  left : IfSome old.left (λ all. records_ahead (is_unread Left last) l all.left_in ≡ records_ahead false l' (drop reads.left_count all.left_in))
  right : IfSome old.left (λ all. records_ahead (is_unread Right last) r all.right_in ≡ records_ahead false r' (drop reads.right_count all.right_in))
  spent_left : IfSome old.left
      (λ all. IsSpent (is_unread Left last) l.packet all.left_in → IsSpent false l'.packet (drop reads.left_count all.left_in))
  spent_right : IfSome old.left
      (λ all. IsSpent (is_unread Right last) r.packet all.right_in → IsSpent false r'.packet (drop reads.right_count all.right_in))

is_ready : (l l' r r' : Reading) (last : Last) (old mid new : Outside) → Readies Left (is_unread Left last) l l' old mid
    → Readies Right (is_unread Right last) r r' mid new → IsReady l l' r r' last old new
is_ready l l' r r' last old mid new h k = record {
  reads = reads_of h.count k.count old mid new h.takes k.takes;
  kept_left = λ e. (h.kept e).1;
  kept_right = λ e. (k.kept e).1;
  left = left_told old.left (λ octets. records_ahead (is_unread Left last) l octets ≡ records_ahead false l' (drop h.count octets)) h.records;
  right = right_told h.count old mid (λ octets. records_ahead (is_unread Right last) r octets ≡ records_ahead false r' (drop k.count octets)) h.takes
      k.records;
  spent_left = left_told old.left (λ octets. IsSpent (is_unread Left last) l.packet octets → IsSpent false l'.packet (drop h.count octets)) h.spent;
  spent_right = right_told h.count old mid (λ octets. IsSpent (is_unread Right last) r.packet octets → IsSpent false r'.packet (drop k.count octets))
      h.takes k.spent;
}

held_left : (side : Side) (left right : Option Packet) (p : Packet) → held_of side left right ≡ Some p → same_side side Left ≡ true → IsSome left
held_left Left left right p e h = is_some_of left p e
held_left Right left right p e h = absurd (false≢true h)

held_right : (side : Side) (left right : Option Packet) (p : Packet) → held_of side left right ≡ Some p → same_side side Right ≡ true → IsSome right
held_right Left left right p e h = absurd (false≢true h)
held_right Right left right p e h = is_some_of right p e

gives_at : (l l' r r' : Reading) (clock time : ℕ) (last : Last) (side : Side) (p : Packet) (stop : Option MergeStop) (old mid new : Outside)
    → IsSound l r clock last stop → stop ≡ None
    → Readies Left (is_unread Left last) l l' old mid → Readies Right (is_unread Right last) r r' mid new → IsNext side p time l'.packet r'.packet
    → ComesTo (event_now side (max clock p.stamp) l' r' p) (merging l r clock last stop) (merging l' r' (max clock p.stamp) (LastEvent side) stop) old
    new
gives_at l l' r r' clock time last side p stop old mid new sound running h k next =
    let small = small_held side l'.packet r'.packet p (h.small sound.small_left) (k.small sound.small_right) next.held in
    let is = is_ready l l' r r' last old mid new h k in
    let event = event_now side (max clock p.stamp) l' r' p in
    let after = merging l' r' (max clock p.stamp) (LastEvent side) stop in record {
      event = shown l' r' (max clock p.stamp) side p next.held;
      small = record { moment = omega (arith, small.stamp, sound.small_clock); octets = small.octets };
      before = omega arith;
      clock = refl;
      stop = running;
      reads = is.reads;
      only = (is.kept_left, is.kept_right);
      work = falls l l' r r' last side p old mid new (sound.running running).holds h k next.held;
      events = ahead_gives-of (merging l r clock last stop) after is.reads.left_count is.reads.right_count old.left event
          (both old.left _ _ _ is.left is.right
          (λ all left right. first_event l l' r r' clock last stop side p time all.left_in all.right_in _ _ next h.form k.form left right))
          ∙ ap (λ (o : Trace). option_map (with_event event) (ahead after o)) (sym is.reads.left);
      ends = λ e. subst (λ o. IfSome o
          (λ all. IsSpent (is_unread Left (LastEvent side)) l'.packet all.left_in
          × IsSpent (is_unread Right (LastEvent side)) r'.packet all.right_in)) (sym is.reads.left)
          (keeps_ends-of old.left is.reads.left_count is.reads.right_count l l' r r' last (LastEvent side) is.spent_left is.spent_right e);
      given = λ start events given. given_more l l' r r' clock (max clock p.stamp) last event stop start old mid new events
          (held_left side l'.packet r'.packet p next.held) (held_right side l'.packet r'.packet p next.held)
          (shown l' r' (max clock p.stamp) side p next.held) h k given;
      few = both_ready l l' r r' clock last stop old mid new h k;
    }

-- the merge came to an event
pub gives : (l l' r r' : Reading) (clock clock' : ℕ) (last : Last) (x : Side × ℕ) (stop : Option MergeStop) (old mid new : Outside)
    → IsSound l r clock last stop → stop ≡ None
    → Readies Left (is_unread Left last) l l' old mid → Readies Right (is_unread Right last) r r' mid new
    → earlier (option_map (λ (p : Packet). p.stamp) l'.packet) (option_map (λ (p : Packet). p.stamp) r'.packet) ≡ Some x → clock' ≡ max clock x.1
    → (e : Event) × ComesTo e (merging l r clock last stop) (merging l' r' clock' (LastEvent x.0) stop) old new
gives l l' r r' clock clock' last x stop old mid new sound running h k e now =
    let next = chosen l'.packet r'.packet x e in
    subst (λ (c : ℕ). (e : Event) × ComesTo e (merging l r clock last stop) (merging l' r' c (LastEvent x.0) stop) old new)
    (ap (max clock) next.1.stamp ∙ sym now)
    (event_now x.0 (max clock next.0.stamp) l' r' next.0, gives_at l l' r r' clock x.1 last x.0 next.0 stop old mid new sound running h k next.1)

-- both captures are at their ends
both_end : (l r : Reading) (clock : ℕ) (a b : List ℕ) → l.packet ≡ None → r.packet ≡ None
    → merge_from (sides clock l.form r.form (records_ahead false l a) (records_ahead false r b)) ≡ record { events = []; ending = Done }
both_end l r clock a b e f =
    ap (λ (q : Option Packet). merge_from (sides clock l.form r.form (held_before q (records_from l.form l.place a)) (records_ahead false r b))) e
    ∙ ap (λ (q : Option Packet). merge_from
    (sides clock l.form r.form (held_before None (records_from l.form l.place a)) (held_before q (records_from r.form r.place b)))) f
    ∙ merge-ends (sides clock l.form r.form (held_before None (records_from l.form l.place a)) (held_before None (records_from r.form r.place b)))
    refl

nothing_left : (q : Option Packet) (octets : List ℕ) → q ≡ None → IsSpent false q octets → length octets ≡ 0
nothing_left q octets e h = subst (λ x. IsSpent false x octets) e h

left_end : (o : Trace) (m n : ℕ) (unread : Bool) (l l' : Reading) (P : List ℕ → Type 0) → l'.packet ≡ None
    → IfSome o (λ all. IsSpent unread l.packet all.left_in → IsSpent false l'.packet (drop m all.left_in))
    → IfSome o (λ all. IsSpent unread l.packet all.left_in × P all.right_in)
    → IfSome (told_at (took RightIn n (took LeftIn m o)) LeftIn) (λ all. length all ≡ 0)
unfolding told_at took
left_end None m n unread l l' P e h k = tt
left_end (Some all) m n unread l l' P e h k = nothing_left l'.packet (drop m all.left_in) e (h k.0)

right_end : (o : Trace) (m n : ℕ) (unread : Bool) (r r' : Reading) (P : List ℕ → Type 0) → r'.packet ≡ None
    → IfSome o (λ all. IsSpent unread r.packet all.right_in → IsSpent false r'.packet (drop n all.right_in))
    → IfSome o (λ all. P all.left_in × IsSpent unread r.packet all.right_in)
    → IfSome (told_at (took RightIn n (took LeftIn m o)) RightIn) (λ all. length all ≡ 0)
unfolding told_at took
right_end None m n unread r r' P e h k = tt
right_end (Some all) m n unread r r' P e h k = nothing_left r'.packet (drop n all.right_in) e (h k.1)

-- the merge came to the end of both captures
pub finishes : (l l' r r' : Reading) (clock : ℕ) (last : Last) (stop : Option MergeStop) (old mid new : Outside) → stop ≡ None
    → Readies Left (is_unread Left last) l l' old mid → Readies Right (is_unread Right last) r r' mid new
    → earlier (option_map (λ (p : Packet). p.stamp) l'.packet) (option_map (λ (p : Packet). p.stamp) r'.packet) ≡ None
    → Finishes (merging l r clock last stop) (merging l' r' clock End stop) old new
finishes l l' r r' clock last stop old mid new running h k e =
    let is = is_ready l l' r r' last old mid new h k in
    let none = none_chosen l'.packet r'.packet e in record {
      stop = running;
      last = refl;
      reads = is.reads;
      only = (is.kept_left, is.kept_right);
      events = ahead_is (merging l r clock last stop) old.left _ (both old.left _ _ _ is.left is.right (λ all left right.
          ap merge_from (ready l l' r r' clock last stop all.left_in all.right_in _ _ h.form k.form left right)
          ∙ both_end l' r' clock _ _ none.0 none.1));
      left = λ ends. subst (λ o. IfSome (told_at o LeftIn) (λ all. length all ≡ 0)) (sym is.reads.left)
          (left_end old.left is.reads.left_count is.reads.right_count (is_unread Left last) l l' (IsSpent (is_unread Right last) r.packet) none.0
          is.spent_left ends);
      right = λ ends. subst (λ o. IfSome (told_at o RightIn) (λ all. length all ≡ 0)) (sym is.reads.left)
          (right_end old.left is.reads.left_count is.reads.right_count (is_unread Right last) r r' (IsSpent (is_unread Left last) l.packet) none.1
          is.spent_right ends);
      few = both_ready l l' r r' clock last stop old mid new h k;
    }

abbrev torn : CaptureFault → ℕ → Records
torn f place = record { packets = []; ending = CaptureEndsFaulty f place }

-- the left capture is at a fault
left_fault : (l r : Reading) (clock : ℕ) (last : Last) (stop : Option MergeStop) (f : CaptureFault) (place : ℕ) (a b : List ℕ)
    → is_unread Left last ≡ true → records_from l.form l.place a ≡ torn f place
    → merge_from (sides_ahead (merging l r clock last stop) a b) ≡ record { events = []; ending = EndsFaulty Left f place }
left_fault l r clock last stop f place a b unread e =
    ap (λ (x : Records). merge_from (sides clock l.form r.form x (records_ahead (is_unread Right last) r b)))
    (ap (λ (u : Bool). records_ahead u l a) unread ∙ e)
    ∙ merge-stops (sides clock l.form r.form (torn f place) (records_ahead (is_unread Right last) r b)) Left f place refl

right_at_fault : (q : Option Packet) (xs : Records) (f : CaptureFault) (place : ℕ) → turn_of (front_of (held_before q xs)) (front_of (torn f place))
    ≡ Stops Right f place
right_at_fault None xs f place = refl
right_at_fault (Some p) xs f place = refl

-- the right capture is at a fault, and the left one at a record or at its end
right_fault : (l l' r : Reading) (clock : ℕ) (last : Last) (stop : Option MergeStop) (f : CaptureFault) (place : ℕ) (a b a' : List ℕ)
    → records_ahead (is_unread Left last) l a ≡ records_ahead false l' a'
    → is_unread Right last ≡ true → records_from r.form r.place b ≡ torn f place
    → merge_from (sides_ahead (merging l r clock last stop) a b) ≡ record { events = []; ending = EndsFaulty Right f place }
right_fault l l' r clock last stop f place a b a' left unread e =
    ap (λ (x : Records). merge_from (sides clock l.form r.form x (records_ahead (is_unread Right last) r b))) left
    ∙ ap (λ (x : Records). merge_from (sides clock l.form r.form (records_ahead false l' a') x)) (ap (λ (u : Bool). records_ahead u r b) unread ∙ e)
    ∙ merge-stops (sides clock l.form r.form (records_ahead false l' a') (torn f place)) Right f place
    (right_at_fault l'.packet (records_from l'.form l'.place a') f place)

side_of_event : (q : Option Packet) (side : Side) (clock : ℕ) (link : Link) → IfSome (option_map (event_at side clock link) q) (λ e. e.side ≡ side)
side_of_event None side clock link = tt
side_of_event (Some p) side clock link = refl

-- the last event is of the side that is to be read
given_side : (side : Side) (last : Last) (l r : Reading) (clock : ℕ) → is_unread side last ≡ true
    → IfSome (event_given last l r clock) (λ e. e.side ≡ side)
given_side side Nothing l r clock u = tt
given_side Left (LastEvent Left) l r clock u = side_of_event l.packet Left clock l.form.link
given_side Right (LastEvent Left) l r clock u = absurd (false≢true u)
given_side Left (LastEvent Right) l r clock u = absurd (false≢true u)
given_side Right (LastEvent Right) l r clock u = side_of_event r.packet Right clock r.form.link
given_side side End l r clock u = absurd (false≢true u)

stops_left : (stop : MergeStop) (l l' r : Reading) (clock : ℕ) (last : Last) (stopped : Option MergeStop) (old new : Outside)
    → ReadsSide (Err stop) Left (is_unread Left last) l l' old new
    → StopsBy stop (merging l r clock last stopped) old new
stops_left (Fault side f place) l l' r clock last stopped old new h =
    let left = left_told old.left (λ octets. records_from l.form l.place octets ≡ torn f place) h.5 in (
      reads_of h.4.count 0 old new new h.4.takes (takes_none RightIn new),
      subst (λ s. IfSome (ahead (merging l r clock last stopped) old.left) (λ x. x ≡ record { events = []; ending = EndsFaulty s f place })) (sym h.0)
          (ahead_is (merging l r clock last stopped) old.left _
          (both old.left _ _ _ left left (λ all e same. left_fault l r clock last stopped f place all.left_in all.right_in h.1 e))),
      left_stopped l r clock last stopped old new h.1 h.4,
    )
stops_left (Desk slot) l l' r clock last stopped old new h = (
  Left,
  h.0,
  record {
    cause = subst (λ s. HasFailed s old new) h.0 h.4;
    reads = reads_of h.5.count 0 old new new h.5.takes (takes_none RightIn new);
    few = left_stopped l r clock last stopped old new h.1 h.5;
    given = λ start events given. ends_taken Left l (is_unread Left last) h.5.count start old new (event_given last l r clock) events h.1 h.5.takes
        h.5.none (given.stands Left) (given.before Left) given.last (given_side Left last l r clock h.1);
  },
)
stops_left OutOfMemory l l' r clock last stopped old new h = absurd h

stops_right : (stop : MergeStop) (l l' r r' : Reading) (clock : ℕ) (last : Last) (stopped : Option MergeStop) (old mid new : Outside)
    → Readies Left (is_unread Left last) l l' old mid
    → ReadsSide (Err stop) Right (is_unread Right last) r r' mid new → StopsBy stop (merging l r clock last stopped) old new
stops_right (Fault side f place) l l' r r' clock last stopped old mid new h k =
    let left = left_told old.left (λ octets. records_ahead (is_unread Left last) l octets ≡ records_ahead false l' (drop h.count octets)) h.records in
    let right = right_told h.count old mid (λ octets. records_from r.form r.place octets ≡ torn f place) h.takes k.5 in (
      reads_of h.count k.4.count old mid new h.takes k.4.takes,
      subst (λ s. IfSome (ahead (merging l r clock last stopped) old.left) (λ x. x ≡ record { events = []; ending = EndsFaulty s f place })) (sym k.0)
          (ahead_is (merging l r clock last stopped) old.left _
          (both old.left _ _ _ left right (λ all e fault. right_fault l l' r clock last stopped f place all.left_in all.right_in _ e k.1 fault))),
      right_stopped l l' r clock last stopped old mid new h k.1 k.4,
    )
stops_right (Desk slot) l l' r r' clock last stopped old mid new h k = (
  Right,
  k.0,
  record {
    cause = subst (λ s. HasFailed s old new) k.0 (failed_since slot old mid new (grows_takes LeftIn h.count old mid h.takes) k.4);
    reads = reads_of h.count k.5.count old mid new h.takes k.5.takes;
    few = right_stopped l l' r clock last stopped old mid new h k.1 k.5;
    given = λ start events given. ends_taken Right r (is_unread Right last) k.5.count start mid new (event_given last l r clock) events k.1 k.5.takes
        k.5.none (same_right h.count old mid h.takes ∙ given.stands Right) (given.before Right) given.last
        (given_side Right last l r clock k.1);
  },
)
stops_right OutOfMemory l l' r r' clock last stopped old mid new h k = absurd k

-- the merge stopped
pub stops : (stop : MergeStop) (l l' r r' : Reading) (clock : ℕ) (last : Last) (stopped : Option MergeStop) (old new : Outside)
    → ReadsSides (Err stop) last l l' r r' old new
    → StopsBy stop (merging l r clock last stopped) old new
stops stop l l' r r' clock last stopped old new h = elim h as (λ x. StopsBy stop (merging l r clock last stopped) old new) [
  | inl left ↦ stops_left stop l l' r clock last stopped old new left.0
  | inr right ↦ stops_right stop l l' r r' clock last stopped old right.0 new right.1 right.2
]

-- the event that was given is the one that is asked for
pub came_to : (more : Bool) (e : Event) (m m' : Merging) (old new : Outside) → more ≡ true → Advances (Ok more) m m' old new → m'.event ≡ Some e
    → ComesTo e m m' old new
came_to more e m m' old new is h held =
    let came = subst (λ b. Advances (Ok b) m m' old new) is h in
    let found : Some came.0 ≡ Some e = sym came.1.event ∙ held in
    let same : came.0 ≡ e = cc in
    subst (λ (x : Event). ComesTo x m m' old new) same came.1
