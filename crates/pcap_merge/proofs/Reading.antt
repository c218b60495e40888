-- Reading one side of a merge.
use Rattle.std.proofs.Common.{◌≡◌, inl, inr, ℕ, ◌+◌, ◌^◌, ◌<◌, ◌≤◌, List, [], Bool, true, false, Option, Some, None, Ok, Err, IfSome, drop, refl, sym, ap, subst, ◌∙◌, arith}
use Rattle.std.proofs.lemmas.Bool.{false≢true, true≢false}
use Rattle.gate_base.specs.declared.side.Side.{Side}
use Rattle.gate_desk.specs.declared.slot.Slot.{Slot}
use Rattle.gate_desk.specs.Outside.{Outside, Takes, told_at}
use Rattle.gate_desk.proofs.Laws.{takes_none}
use Rattle.pcap_files.specs.declared.fault.ReadStop.{ReadStop}
use Rattle.pcap_files.specs.declared.fault.ReadStop.TheVariants.{Fault, Desk, OutOfMemory}
use Rattle.pcap_files.specs.declared.fault.CaptureFault.{CaptureFault}
use Rattle.pcap_files.specs.Prelude.{Packet, Next, Ended, Broken, Came, size, next_at, Records, Fault as EndsFaulty, records_from, Reading, IsSmall, Advances, TakesNoRecord, TakesToFailure}
use Rattle.pcap_files.specs.Reader.{TakesToFault}
use Rattle.pcap_files.proofs.Records.{records-came, records-ended, records-broken, ended_is_empty}
use Rattle.pcap_merge.specs.Prelude.{Readies, ReadsSide, records_ahead, IsSpent, side_work, one_for, slot_of, stop_of}
use Rattle.pcap_merge.proofs.Given.{one_for_some}

same_records : (unread : Bool) (r : Reading) (o : Option (List ℕ))
    → IfSome o (λ octets. records_ahead unread r octets ≡ records_ahead unread r (drop 0 octets))
same_records unread r None = tt
same_records unread r (Some octets) = refl

same_spent : (p : Option Packet) (o : Option (List ℕ)) → IfSome o (λ octets. IsSpent false p octets → IsSpent false p (drop 0 octets))
same_spent p None = tt
same_spent p (Some octets) = λ h. h

-- a side that isn't to be read
pub not_read : (side : Side) (r : Reading) (o : Outside) → r.stop ≡ None → Readies side false r r o o
not_read side r o e = record {
  count = 0;
  takes = takes_none (slot_of side) o;
  kept = λ h. (refl, refl);
  slot = refl;
  form = refl;
  place = omega arith;
  near = λ h. h;
  size_is = λ h. absurd (false≢true h);
  comes = λ h. absurd (false≢true h);
  stop = e;
  small = λ h. h;
  records = same_records false r (told_at o.left (slot_of side));
  spent = same_spent r.packet (told_at o.left (slot_of side));
  work = omega arith;
  falls = λ h k. absurd (false≢true h);
}

-- the reader behind a record
abbrev behind : Reading → Packet → Reading
behind r p = record r { packet = Some p; place = r.place + size p }

-- the reader at the end
abbrev at_end : Reading → Reading
at_end r = record r { packet = None }

records_behind : (r : Reading) (p : Packet) (o : Option (List ℕ)) → IfSome o (λ octets. next_at r.form r.place octets ≡ Came p)
    → IfSome o (λ octets. records_ahead true r octets ≡ records_ahead false (behind r p) (drop (size p) octets))
records_behind r p None h = tt
records_behind r p (Some octets) h = records-came r.form r.place octets p h

records_at_end : (r : Reading) (o : Option (List ℕ)) → IfSome o (λ octets. next_at r.form r.place octets ≡ Ended)
    → IfSome o (λ octets. records_ahead true r octets ≡ records_ahead false (at_end r) (drop 0 octets))
records_at_end r None h = tt
records_at_end r (Some octets) h = records-ended r.form r.place octets h

not_spent : (r : Reading) (p : Packet) (n : ℕ) (o : Option (List ℕ))
    → IfSome o (λ octets. IsSpent true r.packet octets → IsSpent false (Some p) (drop n octets))
not_spent r p n None = tt
not_spent r p n (Some octets) = λ h. tt

spent_at_end : (r : Reading) (o : Option (List ℕ)) → IfSome o (λ octets. next_at r.form r.place octets ≡ Ended)
    → IfSome o (λ octets. IsSpent true r.packet octets → IsSpent false None (drop 0 octets))
spent_at_end r None h = tt
spent_at_end r (Some octets) h = λ k. ended_is_empty r.form r.place octets h

-- one record counts one
pub one_at_most : (p : Option Packet) → one_for p ≤ 1
one_at_most None = omega arith
one_at_most (Some p) = omega arith

came : (side : Side) (r : Reading) (p : Packet) (old new : Outside) → r.stop ≡ None → IsSmall p → r.place + size p ≤ 2 ^ 40
    → Takes (slot_of side) (size p) old new → IfSome (told_at old.left (slot_of side)) (λ octets. next_at r.form r.place octets ≡ Came p)
    → Readies side true r (behind r p) old new
came side r p old new e small fits takes there = record {
  count = size p;
  takes = takes;
  kept = λ h. absurd (true≢false h);
  slot = refl;
  form = refl;
  place = refl;
  near = λ h. fits;
  size_is = λ h. refl;
  comes = λ h. there;
  stop = e;
  small = λ h. small;
  records = records_behind r p (told_at old.left (slot_of side)) there;
  spent = not_spent r p (size p) (told_at old.left (slot_of side));
  work = omega arith;
  falls = λ h k. omega arith;
}

ended : (side : Side) (r : Reading) (old new : Outside) → r.stop ≡ None
    → Takes (slot_of side) 0 old new → IfSome (told_at old.left (slot_of side)) (λ octets. next_at r.form r.place octets ≡ Ended)
    → Readies side true r (at_end r) old new
ended side r old new e takes there = record {
  count = 0;
  takes = takes;
  kept = λ h. absurd (true≢false h);
  slot = refl;
  form = refl;
  place = omega arith;
  near = λ h. h;
  size_is = λ h. refl;
  comes = λ h. there;
  stop = e;
  small = λ h. tt;
  records = records_at_end r (told_at old.left (slot_of side)) there;
  spent = spent_at_end r (told_at old.left (slot_of side)) there;
  work = omega arith;
  falls = λ h k. elim k as
      (λ z. side_work (at_end r) < side_work r) [ inl some ↦ omega (arith, one_for_some r.packet some) | inr none ↦ absurd (false≢true none) ];
}

-- a side that was read
pub was_read : (side : Side) (more : Bool) (r s : Reading) (old new : Outside) → r.stop ≡ None → r.slot ≡ slot_of side
    → Advances (Ok more) r s old new → Readies side true r s old new
was_read side true r s old new e at h =
    subst (λ x. Readies side true r x old new) (sym h.3)
    (came side r h.0 old new e h.1 h.2 (subst (λ slot. Takes slot (size h.0) old new) at h.4)
    (subst (λ slot. IfSome (told_at old.left slot) (λ octets. next_at r.form r.place octets ≡ Came h.0)) at h.5))
was_read side false r s old new e at h =
    subst (λ x. Readies side true r x old new) (sym h.0)
    (ended side r old new e (subst (λ slot. Takes slot 0 old new) at h.1)
    (subst (λ slot. IfSome (told_at old.left slot) (λ octets. next_at r.form r.place octets ≡ Ended)) at h.2))

broken : (r : Reading) (f : CaptureFault) (place : ℕ) (o : Option (List ℕ)) → place ≡ r.place
    → IfSome o (λ octets. next_at r.form r.place octets ≡ Broken f)
    → IfSome o (λ octets. records_from r.form r.place octets ≡ record { packets = []; ending = EndsFaulty f place })
broken r f place None e h = tt
broken r f place (Some octets) e h = records-broken r.form r.place octets f h
    ∙ ap (λ (n : ℕ). let x : Records = record { packets = []; ending = EndsFaulty f n } in x) (sym e)

-- what was taken to a fault is no record
to_fault : (slot : Slot) (r : Reading) (f : CaptureFault) (old new : Outside) → r.slot ≡ slot → TakesToFault r.slot r.place f old new
    → IfSome (told_at old.left r.slot) (λ octets. next_at r.form r.place octets ≡ Broken f) → TakesToFailure slot r.form r.place old new
to_fault slot r f old new at h there = subst (λ s. TakesToFailure s r.form r.place old new) at (record {
  count = h.count;
  takes = h.takes;
  near = h.near;
  none = no_record (told_at old.left r.slot) there;
})
  where
    no_record : (o : Option (List ℕ)) → IfSome o (λ octets. next_at r.form r.place octets ≡ Broken f)
        → IfSome o (λ octets. TakesNoRecord (next_at r.form r.place octets) h.count)
    no_record None e = tt
    no_record (Some octets) e = subst (λ (x : Next). TakesNoRecord x h.count) (sym e) tt

-- a side whose reading stopped
pub has_stopped : (side : Side) (stop : ReadStop) (r s : Reading) (old new : Outside) → r.slot ≡ slot_of side → Advances (Err stop) r s old new
    → ReadsSide (Err (stop_of side stop)) side true r s old new
has_stopped side (Fault f place) r s old new at h = (
  refl,
  refl,
  ap (λ (x : Reading). x.slot) h.1,
  ap (λ (x : Reading). x.packet) h.1,
  to_fault (slot_of side) r f old new at h.2 h.3,
  broken r f place (told_at old.left (slot_of side)) h.0
      (subst (λ slot. IfSome (told_at old.left slot) (λ octets. next_at r.form r.place octets ≡ Broken f)) at h.3),
)
has_stopped side (Desk slot) r s old new at h = (
  h.0 ∙ at,
  refl,
  ap (λ (x : Reading). x.slot) h.1,
  ap (λ (x : Reading). x.packet) h.1,
  h.2,
  subst (λ slot. TakesToFailure slot r.form r.place old new) at h.3,
)
has_stopped side OutOfMemory r s old new at h = absurd h
