-- Who answers alike from the greatest acknowledged place on sends alike.
use Rattle.std.proofs.Common.{◌≡◌, ◌≤◌, ◌+◌, ◌-◌, ℕ, Bool, true, false, refl, sym, ◌∙◌, ap}
use Rattle.std.proofs.Common.{arith, inl, inr, nat_lt, nat_le, max, length, Option, Some, None}
use Rattle.std.proofs.lemmas.Bool.{cases_Bool, cases_lt, cond-true, cond-false, lt-ltb, le-ltb, le-leb, lt-leb}
use Rattle.tcp_segments.specs.Prelude.{one_if}
use Rattle.stream_model.specs.Numbers.{number_at, place_near, known}
use Rattle.stream_model.specs.Session.{Segment, arrival, start_at, place_acknowledged}
use Rattle.stream_model.specs.Standing.{Standing, first_recent}
use Rattle.stream_model.specs.Sending.{sends_end, low, high, bare_offset, limit_of, acknowledgement_at, acknowledgement_to, acked_with}
use Rattle.stream_model.specs.Sending.{syn_sent, reset_sent, other_sent, sent_by, ends_by, inner_number, inner_at, inner_by}
use Rattle.stream_model.specs.Agreeing.{Agree, SendsRecent}
use Rattle.stream_model.specs.declared.numbers.Offset.{Offset}
use Rattle.stream_model.specs.declared.refusals.Extent.{Extent}

recent_is : (s t : Standing) → Agree s t → first_recent s ≡ first_recent t
recent_is s t a = a.back s.acked (omega arith) a.within ∙ ap t.back a.acked

pub low_agrees : (old : Extent) (s t : Standing) (start : Offset) → Agree s t → low old s start ≡ low old t start
low_agrees old s t start a =
    let place : ℕ = old.octets + start.after - start.before in
    rw (a.fore (max place (first_recent s)) (omega arith), recent_is s t a) refl

ends_agrees : (s t : Standing) (fin : Bool) → Agree s t → sends_end s fin ≡ sends_end t fin
ends_agrees s t fin a = rw (a.extent, a.acked) refl

pub high_agrees : (old : Extent) (s t : Standing) (start : Offset) (count : ℕ) (fin : Bool) → Agree s t
    → high old s start count fin ≡ high old t start count fin
high_agrees old s t start count fin a =
    let place : ℕ = old.octets + start.after + count - start.before in
    rw (a.rear (max place (first_recent s)) (omega arith), recent_is s t a, a.extent, a.acked) refl

bare_agrees : (s t : Standing) (start : Offset) → Agree s t → bare_offset s start ≡ bare_offset t start
bare_agrees s t start a = rw (a.extent, a.acked) refl

acknowledgement_agrees : (s t : Standing) → Agree s t → acknowledgement_to s ≡ acknowledgement_to t
acknowledgement_agrees s t a = rw (a.extent, recent_is s t a) refl

acked_agrees : (r k : Standing) (g : Segment) → Agree r k → acked_with r g ≤ r.extent.due + one_if r.extent.ended
    → acknowledgement_at r (acked_with r g) ≡ acknowledgement_at k (acked_with k g)
acked_agrees r k g a within =
    ap (number_at (known r.extent.initial))
    (a.back (acked_with r g) (omega arith) within ∙ ap (λ (n : ℕ). k.back (max n (place_acknowledged r.extent (arrival g)))) a.acked)
    ∙ ap (λ (x : Extent). number_at (known x.initial) (k.back (max k.acked (place_acknowledged x (arrival g))))) a.extent

pub other_agrees : (old : Extent) (s t : Standing) (start : Offset) (g : Segment) (ack limit : ℕ) → Agree s t
    → SendsRecent old s start (length g.octets) g.flags.fin → other_sent old s start g ack limit ≡ other_sent old t start g ack limit
other_agrees old s t start g ack limit a recent =
    let lo : ℕ = low old s start in
    let hi : ℕ = high old s start (length g.octets) g.flags.fin in
    let first : low old s start ≡ low old t start = low_agrees old s t start a in
    let past : high old s start (length g.octets) g.flags.fin ≡ high old t start (length g.octets) g.flags.fin =
    high_agrees old s t start (length g.octets) g.flags.fin a in
    let end : sends_end s g.flags.fin ≡ sends_end t g.flags.fin = ends_agrees s t g.flags.fin a in
    elim (cases_lt lo hi) [
      | inl less ↦
          let r = recent less in
          rw (a.part lo hi r.0 less r.1, first, past, end, a.extent, a.acked) refl
      | inr none ↦
          let none_too : high old t start (length g.octets) g.flags.fin ≤ low old t start = omega (arith, none, first, past) in
          rw (le-ltb lo hi none, le-ltb (low old t start) (high old t start (length g.octets) g.flags.fin) none_too)
          (rw (bare_agrees s t start a, end, a.extent) refl)
    ]

reset_agrees : (s t r k : Standing) (g : Segment) (limit : ℕ) → Agree s t → Agree r k → reset_sent s r g limit ≡ reset_sent t k g limit
reset_agrees s t r k g limit a b =
    rw (bare_agrees s t (start_at s.extent (arrival g)) a, acknowledgement_agrees r k b, a.extent, b.extent) refl

-- what goes out, where a segment with neither SYN nor RST leaves those that agree
pub sent_agrees : (s t new_s new_t r k : Standing) (g : Segment) → Agree s t → Agree r k
    → (g.flags.syn ≡ false → g.flags.reset ≡ false
    → Agree new_s new_t × (acked_with r g ≤ r.extent.due + one_if r.extent.ended)
    × SendsRecent s.extent new_s (start_at s.extent (arrival g)) (length g.octets) g.flags.fin)
    → sent_by s new_s r g ≡ sent_by t new_t k g
sent_agrees s t new_s new_t r k g a b after =
    let limit : limit_of r.mss g ≡ limit_of k.mss g = rw b.mss refl in
    elim (cases_Bool g.flags.syn) [
      | inl syn ↦ cond-true _ _ _ syn ∙ ap (syn_sent g) limit ∙ sym (cond-true _ _ _ syn)
      | inr not_syn ↦
          elim (cases_Bool g.flags.reset) [
            | inl reset ↦
                cond-false _ _ _ not_syn ∙ cond-true _ _ _ reset
                ∙ reset_agrees s t r k g (limit_of r.mss g) a b ∙ ap (reset_sent t k g) limit
                ∙ sym (cond-false _ _ _ not_syn ∙ cond-true _ _ _ reset)
            | inr not_reset ↦
                let n = after not_syn not_reset in
                cond-false _ _ _ not_syn ∙ cond-false _ _ _ not_reset
                ∙ other_agrees s.extent new_s new_t (start_at s.extent (arrival g)) g
                (acknowledgement_at r (acked_with r g)) (limit_of r.mss g) n.0 n.2
                ∙ ap (λ (x : Extent).
                other_sent x new_t (start_at x (arrival g)) g (acknowledgement_at r (acked_with r g)) (limit_of r.mss g)) a.extent
                ∙ ap (λ (m : ℕ). other_sent t.extent new_t (start_at t.extent (arrival g)) g m (limit_of r.mss g)) (acked_agrees r k g b n.1)
                ∙ ap (other_sent t.extent new_t (start_at t.extent (arrival g)) g (acknowledgement_at k (acked_with k g))) limit
                ∙ sym (cond-false _ _ _ not_syn ∙ cond-false _ _ _ not_reset)
          ]
    ]

pub end_agrees : (s t : Standing) (g : Segment) → Agree s t → ends_by s g ≡ ends_by t g
end_agrees s t g a = rw a.extent refl

-- the sender's own number of a place of its image
number_agrees : (s t : Standing) (initial : ℕ) (near : Offset) → Agree s t → near.after ≤ one_if s.extent.ended
    → inner_number s initial near ≡ inner_number t initial near
number_agrees s t initial near a within =
    elim (cases_lt (s.extent.due + near.after) (s.acked + near.before)) [
      | inl below ↦
          let is : nat_le (s.acked + near.before) (s.extent.due + near.after) ≡ false = lt-leb _ _ below in
          let too : nat_le (t.acked + near.before) (t.extent.due + near.after) ≡ false = rw (sym a.acked, sym a.extent) is in
          rw (is, too, recent_is s t a) refl
      | inr from ↦
          let is : nat_le (s.acked + near.before) (s.extent.due + near.after) ≡ true = le-leb _ _ from in
          let too : nat_le (t.acked + near.before) (t.extent.due + near.after) ≡ true = rw (sym a.acked, sym a.extent) is in
          rw (is, too, a.back (s.extent.due + near.after - near.before) (omega (arith, from)) (omega (arith, within)), a.extent) refl
    ]

at_agrees : (s t : Standing) (initial : ℕ) (near : Offset) → Agree s t → inner_at s initial near ≡ inner_at t initial near
at_agrees s t initial near a =
    elim (cases_lt (one_if s.extent.ended) near.after) [
      | inl beyond ↦
          let is : nat_lt (one_if s.extent.ended) near.after ≡ true = lt-ltb _ _ beyond in
          let too : nat_lt (one_if t.extent.ended) near.after ≡ true = rw (sym a.extent) is in
          rw (is, too) refl
      | inr within ↦
          rw (number_agrees s t initial near a within, a.extent) refl
    ]

pub inner_agrees : (s t : Standing) (initial : Option ℕ) (number : ℕ) → Agree s t → inner_by s initial number ≡ inner_by t initial number
inner_agrees s t None number a = refl
inner_agrees s t (Some initial) number a = at_agrees s t initial (place_near initial s.extent.due number) a ∙ rw a.extent refl
