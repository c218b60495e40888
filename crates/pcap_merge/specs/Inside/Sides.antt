-- What only proofs and private contracts need beside `Sides`.
use Rattle.std.specs.Prelude.{◌≡◌, ◌⊎◌, ℕ, ◌+◌, ◌<◌, ◌≤◌, List, [], Bool, true, false, Option, Some, None, Result, Ok, Err, IfSome, IsSome, drop}
use Rattle.gate_base.specs.declared.side.Side.{Side}
use Rattle.gate_base.specs.declared.side.Side.TheVariants.{Left, Right}
use Rattle.gate_desk.specs.Outside.{Outside, Takes, HasFailed, told_at}
use Rattle.pcap_files.specs.Prelude.{Packet, Fault as EndsFaulty, Ended, Came, size, next_at, records_from, Reading, IsSmall, TakesToFailure}
use Rattle.pcap_merge.specs.declared.order.Last.{Last}
use Rattle.pcap_merge.specs.declared.stop.MergeStop.{MergeStop}
use Rattle.pcap_merge.specs.declared.stop.MergeStop.TheVariants.{Fault, Desk, OutOfMemory}
use Rattle.pcap_merge.specs.Order.{is_unread}
use Rattle.pcap_merge.specs.Stops.{slot_of}
use Rattle.pcap_merge.specs.Sides.{records_ahead, IsSpent, side_work}
use Rattle.pcap_files.specs.declared.record.TheConstants.{LONGEST_CAPTURE}

-- the reader came to what stands next: a record, which it holds, or the end
abbrev pub ComesTo : Option Packet → Reading → List ℕ → Type 0
ComesTo None r octets = next_at r.form r.place octets ≡ Ended
ComesTo (Some p) r octets = next_at r.form r.place octets ≡ Came p

-- how many octets the record that is held has
abbrev pub held_size : Option Packet → ℕ
held_size None = 0
held_size (Some p) = size p

-- the side stands at its next record or at its end, and was read where it had to be
pub record Readies (side : Side) (unread : Bool) (r s : Reading) (old new : Outside) : Type 0 where
  pub count : ℕ
  pub takes : Takes (slot_of side) count old new
  pub kept : unread ≡ false → (s ≡ r) × (count ≡ 0)
  pub slot : s.slot ≡ r.slot
  pub form : s.form ≡ r.form
  pub place : s.place ≡ r.place + count
  pub near : r.place ≤ LONGEST_CAPTURE → s.place ≤ LONGEST_CAPTURE
  pub size_is : unread ≡ true → count ≡ held_size s.packet
  pub comes : unread ≡ true → IfSome (told_at old.left (slot_of side)) (ComesTo s.packet r)
  pub stop : s.stop ≡ None
  pub small : IfSome r.packet IsSmall → IfSome s.packet IsSmall
  pub records : IfSome (told_at old.left (slot_of side)) (λ octets. records_ahead unread r octets ≡ records_ahead false s (drop count octets))
  pub spent : IfSome (told_at old.left (slot_of side)) (λ octets. IsSpent unread r.packet octets → IsSpent false s.packet (drop count octets))
  pub work : side_work s ≤ side_work r
  pub falls : unread ≡ true → IsSome r.packet ⊎ IsSome s.packet → side_work s < side_work r

-- what reading a side answers
abbrev pub ReadsSide : Result (Unit {0}) MergeStop → Side → Bool → Reading → Reading → Outside → Outside → Type 0
ReadsSide (Ok u) side unread r s old new = Readies side unread r s old new
ReadsSide (Err (Fault stopped f place)) side unread r s old new = (stopped ≡ side) × (unread ≡ true) × (s.slot ≡ r.slot) × (s.packet ≡ None)
    × TakesToFailure (slot_of side) r.form r.place old new
    × IfSome (told_at old.left (slot_of side)) (λ octets. records_from r.form r.place octets ≡ record { packets = []; ending = EndsFaulty f place })
ReadsSide (Err (Desk slot)) side unread r s old new = (slot ≡ slot_of side) × (unread ≡ true) × (s.slot ≡ r.slot) × (s.packet ≡ None)
    × HasFailed slot old new
    × TakesToFailure (slot_of side) r.form r.place old new
ReadsSide (Err OutOfMemory) side unread r s old new = ⊥

-- what reading both sides answers
abbrev pub ReadsSides : Result (Unit {0}) MergeStop → Last → Reading → Reading → Reading → Reading → Outside → Outside → Type 0
ReadsSides (Ok u) last l l' r r' old new = (mid : Outside) × Readies Left (is_unread Left last) l l' old mid
    × Readies Right (is_unread Right last) r r' mid new
ReadsSides (Err e) last l l' r r' old new = (ReadsSide (Err e) Left (is_unread Left last) l l' old new × (r' ≡ r))
    ⊎ ((mid : Outside) × Readies Left (is_unread Left last) l l' old mid × ReadsSide (Err e) Right (is_unread Right last) r r' mid new)
