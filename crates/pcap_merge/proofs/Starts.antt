-- The beginning of a merge, over what is told of both captures.
use Rattle.std.proofs.Common.{◌≡◌, ℕ, List, [], true, false, Option, Some, None, Ok, Err, IfSome, drop, refl, sym, ap, subst, ◌∙◌, arith}
use Rattle.gate_base.specs.declared.side.Side.TheVariants.{Left, Right}
use Rattle.gate_desk.specs.declared.slot.Slot.TheVariants.{LeftIn, RightIn}
use Rattle.gate_desk.specs.Outside.{Outside, Trace, HasFailed, told_at, took}
use Rattle.gate_desk.proofs.Laws.{takes_none, failed_since, grows_takes}
use Rattle.pcap_files.specs.declared.fault.CaptureFault.{CaptureFault}
use Rattle.pcap_files.specs.declared.fault.ReadStop.{ReadStop}
use Rattle.pcap_files.specs.declared.fault.ReadStop.TheVariants.{Fault, Desk, OutOfMemory}
use Rattle.pcap_files.specs.declared.form.Form.{Form}
use Rattle.pcap_files.specs.Prelude.{Head, Good, Bad, head_of, capture_of, Records, Packet, records_from, Reading}
use Rattle.pcap_files.specs.Reader.{Begins as BeginsReader}
use Rattle.pcap_files.proofs.Records.{capture-good}
use Rattle.pcap_merge.specs.declared.order.Last.TheVariants.{Nothing}
use Rattle.pcap_merge.specs.Prelude.{stop_of, Merged, Fault as EndsFaulty, merge_from, are_good, by_heads, Merging, merging, sides_ahead, Begins, IsSpent}
use Rattle.pcap_merge.specs.Events.{have_good_heads, events_of}
use Rattle.pcap_merge.specs.Merge.{all_events, ahead, HasBegun}
use Rattle.pcap_merge.proofs.Reading.{one_at_most}
use Rattle.pcap_merge.proofs.Given.{given_none, heads_few}
use Rattle.pcap_merge.proofs.Steps.{reads_of, left_told, right_told, both, sides}

all_events_are : (o : Trace) (y : Merged) → IfSome o (λ all. events_of all.left_in all.right_in ≡ y) → IfSome (all_events o) (λ x. x ≡ y)
unfolding all_events
all_events_are None y h = tt
all_events_are (Some all) y h = h

no_left_head : (a b : List ℕ) (f : CaptureFault) (place : ℕ) → place ≡ 0 → head_of a ≡ Bad f
    → events_of a b ≡ record { events = []; ending = EndsFaulty Left f place }
unfolding events_of
no_left_head a b f place e h = ap (λ (x : Head). by_heads a b x (head_of b)) h
    ∙ ap (λ (n : ℕ). let x : Merged = record { events = []; ending = EndsFaulty Left f n } in x) (sym e)

no_right_head : (a b : List ℕ) (form : Form) (f : CaptureFault) (place : ℕ) → place ≡ 0 → head_of a ≡ Good form → head_of b ≡ Bad f
    → events_of a b ≡ record { events = []; ending = EndsFaulty Right f place }
unfolding events_of
no_right_head a b form f place e h k =
    ap (λ (x : Head). by_heads a b x (head_of b)) h ∙ ap (by_heads a b (Good form)) k
    ∙ ap (λ (n : ℕ). let x : Merged = record { events = []; ending = EndsFaulty Right f n } in x) (sym e)

both_heads : (a b : List ℕ) (l r : Reading) → head_of a ≡ Good l.form → head_of b ≡ Good r.form → l.place ≡ 24 → r.place ≡ 24
    → events_of a b ≡ merge_from (sides_ahead (merging l r 0 Nothing None) (drop 24 a) (drop 24 b))
unfolding events_of
both_heads a b l r h k e f =
    ap (λ (x : Head). by_heads a b x (head_of b)) h ∙ ap (by_heads a b (Good l.form)) k
    ∙ ap (λ (x : Records). merge_from (sides 0 l.form r.form x (capture_of b)))
    (capture-good a l.form h ∙ ap (λ (n : ℕ). records_from l.form n (drop 24 a)) (sym e))
    ∙ ap (λ (x : Records). merge_from (sides 0 l.form r.form (records_from l.form l.place (drop 24 a)) x))
    (capture-good b r.form k ∙ ap (λ (n : ℕ). records_from r.form n (drop 24 b)) (sym f))

all_ahead-of : (o : Trace) (x : Merging)
    → IfSome o (λ all. events_of all.left_in all.right_in ≡ merge_from (sides_ahead x (drop 24 all.left_in) (drop 24 all.right_in)))
    → all_events o ≡ ahead x (took RightIn 24 (took LeftIn 24 o))
unfolding all_events ahead took
all_ahead-of None x h = refl
all_ahead-of (Some all) x h = ap Some h

nothing_spent : (o : Trace) (p q : Option Packet) → IfSome o (λ all. IsSpent true p all.left_in × IsSpent true q all.right_in)
nothing_spent None p q = tt
nothing_spent (Some all) p q = (tt, tt)

no_left_good : (a b : List ℕ) (f : CaptureFault) → head_of a ≡ Bad f → have_good_heads a b ≡ false
unfolding have_good_heads
no_left_good a b f h = ap (λ (x : Head). are_good x (head_of b)) h

no_right_good : (a b : List ℕ) (form : Form) (f : CaptureFault) → head_of a ≡ Good form → head_of b ≡ Bad f → have_good_heads a b ≡ false
unfolding have_good_heads
no_right_good a b form f h k = ap (λ (x : Head). are_good x (head_of b)) h ∙ ap (are_good (Good form)) k

both_good : (a b : List ℕ) (l r : Form) → head_of a ≡ Good l → head_of b ≡ Good r → have_good_heads a b ≡ true
unfolding have_good_heads
both_good a b l r h k = ap (λ (x : Head). are_good x (head_of b)) h ∙ ap (are_good (Good l)) k

-- the left capture didn't begin
pub stops_left : (stop : ReadStop) (old new : Outside) → BeginsReader (Err stop) LeftIn old new → Begins (Err (stop_of Left stop)) old new
stops_left (Fault f place) old new h = (
  reads_of h.1.0 0 old new new h.1.2 (takes_none RightIn new),
  all_events_are old.left _
      (both old.left _ _ _ (left_told old.left (λ octets. head_of octets ≡ Bad f) h.2) (left_told old.left (λ octets. head_of octets ≡ Bad f) h.2)
      (λ all e same. no_left_head all.left_in all.right_in f place h.0 e)),
  both old.left _ _ _ (left_told old.left (λ octets. head_of octets ≡ Bad f) h.2) (left_told old.left (λ octets. head_of octets ≡ Bad f) h.2)
      (λ all e same. no_left_good all.left_in all.right_in f e),
  heads_few h.1.0 0 old new new h.1.1 (omega arith) h.1.2 (takes_none RightIn new),
)
stops_left (Desk slot) old new h = (
  Left,
  h.0,
  subst (λ s. HasFailed s old new) (sym h.0) h.1,
  (reads_of h.2.0 0 old new new h.2.2 (takes_none RightIn new), h.2.1),
  heads_few h.2.0 0 old new new (omega (arith, h.2.1)) (omega arith) h.2.2 (takes_none RightIn new),
)
stops_left OutOfMemory old new h =
    (reads_of 24 0 old new new h.1 (takes_none RightIn new), heads_few 24 0 old new new (omega arith) (omega arith) h.1 (takes_none RightIn new))

-- the right capture didn't begin
pub stops_right : (stop : ReadStop) (l : Reading) (old mid new : Outside) → BeginsReader (Ok l) LeftIn old mid
    → BeginsReader (Err stop) RightIn mid new → Begins (Err (stop_of Right stop)) old new
stops_right (Fault f place) l old mid new h k =
    let left = left_told old.left (λ octets. head_of octets ≡ Good h.0) h.3 in
    let right = right_told 24 old mid (λ octets. head_of octets ≡ Bad f) h.2 k.2 in (
      reads_of 24 k.1.0 old mid new h.2 k.1.2,
      all_events_are old.left _ (both old.left _ _ _ left right (λ all e f'. no_right_head all.left_in all.right_in h.0 f place k.0 e f')),
      both old.left _ _ _ left right (λ all e f'. no_right_good all.left_in all.right_in h.0 f e f'),
      heads_few 24 k.1.0 old mid new (omega arith) k.1.1 h.2 k.1.2,
    )
stops_right (Desk slot) l old mid new h k = (
  Right,
  k.0,
  subst (λ s. HasFailed s old new) (sym k.0) (failed_since RightIn old mid new (grows_takes LeftIn 24 old mid h.2) k.1),
  (reads_of 24 k.2.0 old mid new h.2 k.2.2, k.2.1),
  heads_few 24 k.2.0 old mid new (omega arith) (omega (arith, k.2.1)) h.2 k.2.2,
)
stops_right OutOfMemory l old mid new h k = (reads_of 24 24 old mid new h.2 k.1, heads_few 24 24 old mid new (omega arith) (omega arith) h.2 k.1)

-- both captures began
pub begins : (l r : Reading) (old mid new : Outside) → BeginsReader (Ok l) LeftIn old mid → BeginsReader (Ok r) RightIn mid new
    → HasBegun (merging l r 0 Nothing None) old new
begins l r old mid new h k =
    let reads = reads_of 24 24 old mid new h.2 k.2 in
    let left_place : l.place ≡ 24 = ap (λ (x : Reading). x.place) h.1 in
    let right_place : r.place ≡ 24 = ap (λ (x : Reading). x.place) k.1 in
    let left_form : h.0 ≡ l.form = sym (ap (λ (x : Reading). x.form) h.1) in
    let right_form : k.0 ≡ r.form = sym (ap (λ (x : Reading). x.form) k.1) in
    let left_packet : l.packet ≡ None = ap (λ (x : Reading). x.packet) h.1 in
    let right_packet : r.packet ≡ None = ap (λ (x : Reading). x.packet) k.1 in
    let left = left_told old.left (λ octets. head_of octets ≡ Good h.0) h.3 in
    let right = right_told 24 old mid (λ octets. head_of octets ≡ Good k.0) h.2 k.3 in record {
      stop = refl;
      event = refl;
      clock = refl;
      reads = reads;
      left_head = refl;
      right_head = refl;
      heads = both old.left _ _ _ left right (λ all e f. both_good all.left_in all.right_in h.0 k.0 e f);
      events = all_ahead-of old.left (merging l r 0 Nothing None)
          (both old.left _ _ _ left right
          (λ all e f. both_heads all.left_in all.right_in l r (e ∙ ap Good left_form) (f ∙ ap Good right_form) left_place right_place))
          ∙ ap (ahead (merging l r 0 Nothing None)) (sym reads.left);
      work = omega (arith, one_at_most l.packet, one_at_most r.packet);
      ends = nothing_spent new.left l.packet r.packet;
      given = given_none l r 0 None old mid new left_place right_place h.2 k.2
          (subst (λ (f : Form). IfSome (told_at old.left LeftIn) (λ octets. head_of octets ≡ Good f)) left_form h.3)
          (subst (λ (f : Form). IfSome (told_at mid.left RightIn) (λ octets. head_of octets ≡ Good f)) right_form k.3);
    }
