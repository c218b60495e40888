-- What goes out for a segment brings what is lacking.
use Rattle.std.proofs.Common.{◌≡◌, ◌≤◌, ◌<◌, ◌+◌, ◌-◌, ◌*◌, ℕ, zero, suc, Bool, true, false, cond, List, [], ◌∷◌, ◌++◌, length, map, drop, refl, sym, ◌∙◌, ap, subst, arith, inl, inr, not, ◌&&◌, ◌||◌, ◌==◌, ◌/◌, ◌⊎◌, nat_lt, min, max, slice_range, Some, None, slice_get}
use Rattle.std.specs.List.{AllByRecursion}
use Rattle.std.proofs.lemmas.List.{length-append, length-drop, drop_all}
use Rattle.std.proofs.lemmas.Bool.{cases_Bool, cases_lt, ltb-true, ltb-false, le-ltb, le-leb, lt-leb, cond-false, or_parts, or_right, or_from, and_parts, and_from, and_left, and_right, eqb-true, eq-eqb, ne_eqb, not-false, true≢false, not-true}
use Rattle.std.proofs.lemmas.Option.{slice_get_past}
use Rattle.gate_base.specs.declared.host.Host.{Host}
use Rattle.gate_base.specs.declared.host.Host.TheVariants.{Client, Server}
use Rattle.dialogue.specs.Prelude.{Meaning, IsLawful, Span, back_in, cut, pushes_of, image, due, spans, fore, rear, back}
use Rattle.dialogue.proofs.Laws.{fore-back, length-due-le, length-spans}
use Rattle.tcp_segments.specs.Prelude.{one_if}
use Rattle.stream_model.specs.Numbers.{number_after, number_at, known}
use Rattle.stream_model.specs.Session.{Sender, Session, Segment, Outgoing, own, other, due_in, extent, arrival, start_of}
use Rattle.stream_model.specs.Refusals.{is_data, past_end_at, segment_refusal}
use Rattle.stream_model.specs.Standing.{Standing, standing}
use Rattle.stream_model.specs.Sending.{Sent, Piece, pieces, limit_of, grows, sends_end, low, high, bare_offset, acknowledgement_to, data_sent, segment_with, alone, sent_in, in_pieces}
use Rattle.stream_model.specs.Steps.{taken, acknowledged, opened, own_after, other_after, session_next, session_out}
use Rattle.stream_model.specs.History.{OneShows, Facts}
use Rattle.stream_model.specs.Progress.{acknowledged_of, BeginsBy, EndsBy, Reaches, OneEnds, AsksAgain, Brings}
use Rattle.stream_model.proofs.Cutting.{pieces_from}
use Rattle.stream_model.proofs.PassLemmas.{Passes, IsData, passes, data_is, second_false, nothing_past}
use Rattle.stream_model.proofs.SentLaw.{Part, part, parts, parts_show, in_pieces_are, numbered, fits, front, rear_in-le, high-le, not_grown, due-taken, out, data_is_sent, data_acknowledges, data_out}
use Rattle.stream_model.proofs.SessionAcked.{back_stays}
use Rattle.stream_model.proofs.SpanLemmas.{Rising, Rising-spans, rear_past_back, rear_past, fore_below, Clear-spans, rear_before_fore}
use Rattle.stream_model.proofs.Waiting.{proper, back_within, not_all_in, back_is}

-- no more of a stream is acknowledged than was sent of it
abbrev pub IsBound : Sender → Type 0
IsBound a = a.acked ≤ length (due_in a) + one_if a.ended

rising : (m : Meaning) (s : List ℕ) → Rising 0 0 (spans m s)
rising m s = Rising-spans (pushes_of m (cut m s) (cut m s).rest) 0 0 0 (omega arith) (omega arith)

-- the place after the last octet of a segment
abbrev end_of : Sender → Segment → ℕ
end_of a g = length a.octets + (start_of a g).after + length g.octets - (start_of a g).before

-- the same, or the place of the first octet that is not acknowledged
abbrev past_of : Sender → Segment → ℕ
past_of a g = max (end_of a g) (back a.meaning (taken a g).ended (taken a g).octets a.acked)

-- what was acknowledged stays
ack_same : (f : Host) (a b : Sender) (g : Segment) → IsLawful a.meaning → Passes f a b g → IsData g → IsBound a
    → back a.meaning (taken a g).ended (taken a g).octets a.acked ≡ acknowledged_of a
ack_same f a b g law p d bound = back_stays f a b g a.acked law p d bound

-- the first place that goes out

low_by : (a : Sender) (g : Segment) (n q : ℕ)
    → max (length a.octets + (start_of a g).after - (start_of a g).before) (back a.meaning (taken a g).ended (taken a g).octets a.acked) ≡ n
    → fore a.meaning (taken a g).ended (taken a g).octets n ≤ q → low (extent a) (standing (taken a g)) (start_of a g) ≤ q
low_by a g n q e l = subst (λ (x : ℕ). min (length (due_in a)) (fore a.meaning (taken a g).ended (taken a g).octets x) ≤ q) (sym e) (omega arith)

low_acked : (f : Host) (a b : Sender) (g : Segment) → IsLawful a.meaning → Passes f a b g → IsData g → IsBound a → BeginsBy a g (acknowledged_of a)
    → low (extent a) (standing (taken a g)) (start_of a g) ≤ a.acked
low_acked f a b g law p d bound begins =
    let same : back a.meaning (taken a g).ended (taken a g).octets a.acked ≡ acknowledged_of a = ack_same f a b g law p d bound in
    low_by a g (back a.meaning (taken a g).ended (taken a g).octets a.acked) a.acked (omega arith)
    (fore-back a.meaning law (taken a g).ended (taken a g).octets a.acked)

low_each : (f : Host) (a b : Sender) (g : Segment) (p q : ℕ) (x : Span) → IsLawful a.meaning → Passes f a b g → IsData g → IsBound a
    → acknowledged_of a ≤ p → BeginsBy a g p → slice_get (spans a.meaning (taken a g).octets) p ≡ Some x → x.first ≤ q
    → low (extent a) (standing (taken a g)) (start_of a g) ≤ q
low_each f a b g p q x law pass d bound from begins at l =
    let same : back a.meaning (taken a g).ended (taken a g).octets a.acked ≡ acknowledged_of a = ack_same f a b g law pass d bound in
    low_by a g
    (max (length a.octets + (start_of a g).after - (start_of a g).before) (back a.meaning (taken a g).ended (taken a g).octets a.acked)) q refl
    (fore_below (spans a.meaning (taken a g).octets) 0 0 (length (due_in (taken a g))) q _ p x (rising a.meaning (taken a g).octets) at l
    (omega arith))

-- the place after the last that goes out

high_by : (a : Sender) (g : Segment) (q : ℕ) → q < length (due_in (taken a g))
    → (grows (extent a) (standing (taken a g)) ≡ false → q < rear a.meaning (taken a g).ended (taken a g).octets (past_of a g))
    → q < high (extent a) (standing (taken a g)) (start_of a g) (length g.octets) g.flags.fin
high_by a g q d h =
    elim (cases_Bool (grows (extent a) (standing (taken a g)) || sends_end (standing (taken a g)) g.flags.fin)) [
      | inl e ↦
          let all : high (extent a) (standing (taken a g)) (start_of a g) (length g.octets) g.flags.fin ≡ length (due_in (taken a g)) =
          rw e refl in
          omega arith
      | inr e ↦
          let part : high (extent a) (standing (taken a g)) (start_of a g) (length g.octets) g.flags.fin
          ≡ rear a.meaning (taken a g).ended (taken a g).octets (past_of a g) = rw e refl in
          let r : q < rear a.meaning (taken a g).ended (taken a g).octets (past_of a g) = h (or_parts _ _ e).0 in
          omega arith
    ]

past_back : (a : Sender) (g : Segment) (q : ℕ) → back_in (spans a.meaning (taken a g).octets) q < end_of a g → q < length (due_in (taken a g))
    → q < rear a.meaning (taken a g).ended (taken a g).octets (past_of a g)
past_back a g q l d =
    rear_past_back (spans a.meaning (taken a g).octets) 0 0 (length (due_in (taken a g))) q (past_of a g) (rising a.meaning (taken a g).octets)
    (omega (arith, l)) d

high_acked : (f : Host) (a b : Sender) (g : Segment) → IsLawful a.meaning → Passes f a b g → IsData g → IsBound a
    → Reaches a g (acknowledged_of a + 1) → a.acked < length (due_in (taken a g))
    → a.acked < high (extent a) (standing (taken a g)) (start_of a g) (length g.octets) g.flags.fin
high_acked f a b g law p d bound past l =
    let same : back a.meaning (taken a g).ended (taken a g).octets a.acked ≡ acknowledged_of a = ack_same f a b g law p d bound in
    let is : back a.meaning (taken a g).ended (taken a g).octets a.acked ≡ back_in (spans a.meaning (taken a g).octets) a.acked =
    back_is a.meaning (taken a g).ended (taken a g).octets a.acked
    (omega (arith, length-due-le a.meaning law (taken a g).ended (taken a g).octets)) in
    high_by a g a.acked l (λ e. past_back a g a.acked (omega arith) l)

-- a stream that has not grown has no more octets
no_longer : (a : Sender) (g : Segment) → grows (extent a) (standing (taken a g)) ≡ false → length (taken a g).octets ≡ length a.octets
no_longer a g e =
    let short : length (taken a g).octets ≤ length a.octets = ltb-false _ _ (or_parts _ _ e).0 in
    omega (arith, length-append a.octets (drop (start_of a g).before g.octets))

high_onward : (a : Sender) (g : Segment) (q : ℕ) → IsLawful a.meaning → Reaches a g (length a.octets) → q < length (due_in (taken a g))
    → q < high (extent a) (standing (taken a g)) (start_of a g) (length g.octets) g.flags.fin
high_onward a g q law reaches l =
    high_by a g q l (λ e.
    let less : back_in (spans a.meaning (taken a g).octets) q < length (taken a g).octets =
    not_all_in a.meaning law (taken a g).octets q (omega (arith, length-due-le a.meaning law (taken a g).ended (taken a g).octets)) in
    past_back a g q (omega (arith, no_longer a g e)) l)

high_each : (a : Sender) (g : Segment) (p q : ℕ) (x : Span) → Reaches a g (p + 1) → slice_get (spans a.meaning (taken a g).octets) p ≡ Some x
    → q < x.past → q < length (due_in (taken a g)) → q < high (extent a) (standing (taken a g)) (start_of a g) (length g.octets) g.flags.fin
high_each a g p q x past at k l =
    high_by a g q l (λ e. rear_past (spans a.meaning (taken a g).octets) 0 0 (length (due_in (taken a g))) q p (past_of a g) x
    (rising a.meaning (taken a g).octets) at k (omega arith) l)

high_grown : (a : Sender) (g : Segment) (q : ℕ) → length (due_in a) ≤ q → q < length (due_in (taken a g))
    → q < high (extent a) (standing (taken a g)) (start_of a g) (length g.octets) g.flags.fin
high_grown a g q from l = high_by a g q l (λ e. absurd (omega (arith, ap length (not_grown a g e))))

high_ending : (a : Sender) (g : Segment) → sends_end (standing (taken a g)) g.flags.fin ≡ true
    → high (extent a) (standing (taken a g)) (start_of a g) (length g.octets) g.flags.fin ≡ length (due_in (taken a g))
high_ending a g e =
    let c : (grows (extent a) (standing (taken a g)) || sends_end (standing (taken a g)) g.flags.fin) ≡ true = or_right _ _ e in rw c refl

-- the places from the first to below the last go out
pub shown : (a b : Sender) (g : Segment) (q : ℕ) → IsLawful a.meaning → low (extent a) (standing (taken a g)) (start_of a g) ≤ q
    → q < high (extent a) (standing (taken a g)) (start_of a g) (length g.octets) g.flags.fin
    → OneShows (known a.initial) (due_in (taken a g)) q (data_out a b g)
shown a b g q law from below =
    let rest : (h : List ℕ) × (image a.meaning (taken a g).octets ≡ due_in (taken a g) ++ h) =
    front a.meaning law (taken a g).ended (taken a g).octets in
    parts_show (standing (taken a g)) (acknowledgement_to (standing (acknowledged b g))) g (limit_of b.mss g)
    (low (extent a) (standing (taken a g)) (start_of a g)) (high (extent a) (standing (taken a g)) (start_of a g) (length g.octets) g.flags.fin)
    (due_in (taken a g)) rest.0 (image a.meaning (taken a g).octets) (sends_end (standing (taken a g)) g.flags.fin) g.flags.push _ q rest.1
    (high-le (extent a) (taken a g) (start_of a g) (length g.octets) g.flags.fin) from below

-- the end

pieces_end : (s : Sent) (i offset whole limit at from place : ℕ) (octets : List ℕ) (push : Bool) → s.sequence ≡ number_after i offset
    → offset + at ≡ from + 1 → from + length octets ≡ place → whole * limit ≤ length octets
    → OneEnds i place (map (segment_with s) (pieces_from whole limit at octets true push))
pieces_end s i offset zero limit at from place octets push n o e l =
    inl (record { fin = refl; at = from; number = numbered s i offset at from n o; octets = e })
pieces_end s i offset (suc whole) limit at from place octets push n o e l =
    let k : limit + whole * limit ≤ length octets = omega arith in
    inr (pieces_end s i offset whole limit (at + limit) (from + limit) place (drop limit octets) push n (omega arith)
    (omega (arith, length-drop limit octets)) (omega (arith, length-drop limit octets)))

parts_end : (new : Standing) (ack : ℕ) (g : Segment) (limit lo hi : ℕ) (stream h img : List ℕ) (push : Bool) → img ≡ stream ++ h → hi ≡ length stream
    → lo ≤ hi
    → OneEnds (known new.extent.initial) (length stream)
    (in_pieces (parts new ack g limit lo hi (slice_range img lo hi) true push (length stream + 1)))
parts_end new ack g limit lo hi stream h img push e u l =
    elim (cases_Bool (nat_lt lo hi)) [
      | inl t ↦
          let p : Part stream img lo hi = part stream h img lo hi e (ltb-true lo hi t) (omega arith) in
          let s : Sent = data_sent new ack g limit (lo + 1) (slice_range img lo hi) true push in
          rw t (subst (λ (os : List Outgoing). OneEnds (known new.extent.initial) (length stream) os)
          (sym (in_pieces_are s (slice_range img lo hi) (omega (arith, p.len, ltb-true lo hi t))))
          (pieces_end s (known new.extent.initial) (lo + 1) ((length (slice_range img lo hi) - 1) / limit) limit 0 lo (length stream)
          (slice_range img lo hi) push refl (omega arith) (omega (arith, p.len)) (fits (length (slice_range img lo hi)) limit)))
      | inr t ↦ rw t (inl (record { fin = refl; at = length stream; number = refl; octets = omega arith }))
    ]

pub ends : (f : Host) (a b : Sender) (g : Segment) → IsLawful a.meaning → Passes f a b g → IsData g
    → sends_end (standing (taken a g)) g.flags.fin ≡ true → OneEnds (known a.initial) (length (due_in (taken a g))) (data_out a b g)
ends f a b g law p d e =
    let new : Standing = standing (taken a g) in
    let ack = acknowledgement_to (standing (acknowledged b g)) in
    let lo = low (extent a) new (start_of a g) in
    let hi = high (extent a) new (start_of a g) (length g.octets) g.flags.fin in
    let rest : (h : List ℕ) × (image a.meaning (taken a g).octets ≡ due_in (taken a g) ++ h) =
    front a.meaning law (taken a g).ended (taken a g).octets in
    let more : (more : List ℕ) × (due_in (taken a g) ≡ due_in a ++ more) = due-taken f a b g law p d in
    let all : hi ≡ length (due_in (taken a g)) = high_ending a g e in
    let below : lo ≤ length (due_in a) = omega arith in
    subst (λ (x : Bool). OneEnds (known a.initial) (length (due_in (taken a g)))
    (in_pieces (parts new ack g (limit_of b.mss g) lo hi (slice_range (image a.meaning (taken a g).octets) lo hi) x g.flags.push
    (cond x (length (due_in (taken a g)) + 1) (bare_offset new (start_of a g)))))) (sym e)
    (parts_end new ack g (limit_of b.mss g) lo hi (due_in (taken a g)) rest.0 (image a.meaning (taken a g).octets) g.flags.push rest.1 all
    (omega (arith, ap length more.1, length-append (due_in a) more.0)))

-- with FIN all of the image is due
whole_due : (a : Sender) (g : Segment) → g.flags.fin ≡ true → due_in (taken a g) ≡ image a.meaning (taken a g).octets
whole_due a g f = ap (λ b. due a.meaning b (taken a g).octets) (or_right a.ended g.flags.fin f)

sends : (a : Sender) (g : Segment) → g.flags.fin ≡ true → a.acked ≤ length (image a.meaning (taken a g).octets)
    → sends_end (standing (taken a g)) g.flags.fin ≡ true
sends a g f l = and_from _ _ f (le-leb _ _ (omega (arith, l, ap length (whole_due a g f))))

-- where nothing is lacking, the receiver is asked to acknowledge again

not_longer : (f : Host) (a b : Sender) (g : Segment) → IsLawful a.meaning → Passes f a b g → IsData g → IsBound a → EndsBy a g (acknowledged_of a)
    → drop (start_of a g).before g.octets ≡ []
not_longer f a b g law p d bound by_it =
    elim (cases_Bool a.ended) [
      | inl e ↦ nothing_past f a b g p d e
      | inr e ↦
          let within : acknowledged_of a ≤ length a.octets = omega (arith, back_open e) in
          drop_all (start_of a g).before g.octets (omega arith)
    ]
  where
    back_open : a.ended ≡ false → acknowledged_of a ≤ length a.octets
    back_open e = rw e (back_within a.meaning a.octets a.acked)

not_growing : (f : Host) (a b : Sender) (g : Segment) → IsLawful a.meaning → Passes f a b g → IsData g → IsBound a → EndsBy a g (acknowledged_of a)
    → ((g.flags.fin ≡ false) ⊎ (a.ended ≡ true)) → grows (extent a) (standing (taken a g)) ≡ false
not_growing f a b g law p d bound by_it no_end =
    let none : drop (start_of a g).before g.octets ≡ [] = not_longer f a b g law p d bound by_it in
    or_from (nat_lt (length a.octets) (length (taken a g).octets)) ((a.ended || g.flags.fin) && not a.ended)
    (le-ltb (length a.octets) (length (taken a g).octets)
    (omega (arith, length-append a.octets (drop (start_of a g).before g.octets), ap length none)))
    (elim no_end [ inl e ↦ still a.ended g.flags.fin e | inr e ↦ ended_still a.ended g.flags.fin e ])
  where
    still : (x y : Bool) → y ≡ false → ((x || y) && not x) ≡ false
    still true y e = refl
    still false true e = absurd (true≢false e)
    still false false e = refl

    ended_still : (x y : Bool) → x ≡ true → ((x || y) && not x) ≡ false
    ended_still true y e = refl
    ended_still false y e = absurd (true≢false (sym e))

nothing_out : (f : Host) (a b : Sender) (g : Segment) → IsLawful a.meaning → Passes f a b g → IsData g → IsBound a → EndsBy a g (acknowledged_of a)
    → grows (extent a) (standing (taken a g)) ≡ false → sends_end (standing (taken a g)) g.flags.fin ≡ false
    → high (extent a) (standing (taken a g)) (start_of a g) (length g.octets) g.flags.fin ≤ low (extent a) (standing (taken a g)) (start_of a g)
nothing_out f a b g law p d bound by_it no_more no_end =
    let same : back a.meaning (taken a g).ended (taken a g).octets a.acked ≡ acknowledged_of a = ack_same f a b g law p d bound in
    let c : (grows (extent a) (standing (taken a g)) || sends_end (standing (taken a g)) g.flags.fin) ≡ false = or_from _ _ no_more no_end in
    let hi : high (extent a) (standing (taken a g)) (start_of a g) (length g.octets) g.flags.fin ≡ rear a.meaning (taken a g).ended (taken a g).octets
    (past_of a g) = rw c refl in
    let old_due : length (due_in (taken a g)) ≡ length (due_in a) = ap length (not_grown a g no_more) in
    let within : rear a.meaning (taken a g).ended (taken a g).octets (past_of a g) ≤ length (due_in (taken a g)) =
    rear_in-le (spans a.meaning (taken a g).octets) _ _ in
    let n : max (length a.octets + (start_of a g).after - (start_of a g).before) (back a.meaning (taken a g).ended (taken a g).octets a.acked) ≡ back
    a.meaning (taken a g).ended (taken a g).octets a.acked = omega arith in
    let lo : low (extent a) (standing (taken a g)) (start_of a g) ≡ min (length (due_in a))
    (fore a.meaning (taken a g).ended (taken a g).octets (back a.meaning (taken a g).ended (taken a g).octets a.acked)) =
    ap (λ (x : ℕ). min (length (due_in a)) (fore a.meaning (taken a g).ended (taken a g).octets x)) n in
    let before : rear a.meaning (taken a g).ended (taken a g).octets (past_of a g) ≤ fore a.meaning (taken a g).ended (taken a g).octets
    (back a.meaning (taken a g).ended (taken a g).octets a.acked) =
    before_back a.meaning law (taken a g).ended (taken a g).octets a.acked (past_of a g) (omega arith) in
    omega arith
  where
    before_back : (m : Meaning) → IsLawful m → (ended : Bool) (s : List ℕ) (k e : ℕ) → e ≤ back m ended s k
        → rear m ended s e ≤ fore m ended s (back m ended s k)
    before_back m law ended s k e l =
        elim (cases_Bool (ended && (k == length (image m s) + 1))) [
          | inl t ↦
              let past : slice_get (spans m s) (length s + 1) ≡ None = slice_get_past (spans m s) (length s + 1) (omega (arith, length-spans m s)) in
              let all : fore m ended s (back m ended s k) ≡ length (due m ended s) = rw (t, past) refl in
              let within : rear m ended s e ≤ length (due m ended s) = rear_in-le (spans m s) (length (due m ended s)) e in
              omega arith
          | inr t ↦
              let is : back m ended s k ≡ back_in (spans m s) k = rw t refl in
              subst (λ (n : ℕ). rear m ended s e ≤ fore m ended s n) (sym is)
              (rear_before_fore (spans m s) k 0 (length (due m ended s)) e
              (Clear-spans (pushes_of m (cut m s) (cut m s).rest) 0 k 0 (proper m law s) (omega arith)) (omega arith))
        ]

-- an end that is repeated stands at the end of its sender's octets
end_place : (f : Host) (a b : Sender) (g : Segment) → Passes f a b g → IsData g → a.ended ≡ true → g.flags.fin ≡ true
    → (start_of a g).after + length g.octets ≡ (start_of a g).before
end_place f a b g p d e fin =
    let x : past_end_at (extent a) (arrival g) (start_of a g) ≡ false = second_false (is_data (arrival g)) _ p.past_end (data_is g d) in
    let two : (a.ended && g.flags.fin && not ((start_of a g).after + length g.octets == (start_of a g).before)) ≡ false =
    (or_parts _ _ (or_parts _ _ x).0).1 in
    let three : not ((start_of a g).after + length g.octets == (start_of a g).before) ≡ false = second_false _ _ two (and_from _ _ e fin) in
    eqb-true _ _ (not-false _ three)

asks : (a b : Sender) (g : Segment)
    → high (extent a) (standing (taken a g)) (start_of a g) (length g.octets) g.flags.fin ≤ low (extent a) (standing (taken a g)) (start_of a g)
    → sends_end (standing (taken a g)) g.flags.fin ≡ false → bare_offset (standing (taken a g)) (start_of a g) ≡ a.acked
    → AsksAgain (known a.initial) a.acked (data_out a b g)
asks a b g l e o =
    let t : nat_lt (low (extent a) (standing (taken a g)) (start_of a g))
    (high (extent a) (standing (taken a g)) (start_of a g) (length g.octets) g.flags.fin) ≡ false = le-ltb _ _ l in
    record {
      one = alone (data_sent (standing (taken a g)) (acknowledgement_to (standing (acknowledged b g))) g (limit_of b.mss g)
          (bare_offset (standing (taken a g)) (start_of a g)) [] false false);
      is = rw (t, e) refl;
      octets = refl;
      fin = refl;
      number = ap (number_after (known a.initial)) o;
    }

again_at : (f : Host) (a b : Sender) (g : Segment) → IsLawful a.meaning → Passes f a b g → IsData g → IsBound a → EndsBy a g (acknowledged_of a)
    → ((g.flags.fin ≡ false) ⊎ (a.ended ≡ true)) → sends_end (standing (taken a g)) g.flags.fin ≡ false
    → bare_offset (standing (taken a g)) (start_of a g) ≡ a.acked → AsksAgain (known a.initial) a.acked (data_out a b g)
again_at f a b g law p d bound by_it no_new no_end o =
    asks a b g (nothing_out f a b g law p d bound by_it (not_growing f a b g law p d bound by_it no_new) no_end) no_end o

offset_before : (a : Sender) (g : Segment) → 1 ≤ (start_of a g).before → bare_offset (standing (taken a g)) (start_of a g) ≡ a.acked
offset_before a g l =
    let n : ((start_of a g).before == 0) ≡ false = ne_eqb (start_of a g).before 0 (λ e. omega arith) in
    rw n refl

offset_end : (f : Host) (a b : Sender) (g : Segment) → IsLawful a.meaning → Passes f a b g → IsData g → IsBound a → a.ended ≡ true
    → g.flags.fin ≡ true → length (image a.meaning (taken a g).octets) < a.acked → bare_offset (standing (taken a g)) (start_of a g) ≡ a.acked
offset_end f a b g law p d bound e fin l =
    elim (cases_lt 0 (start_of a g).before) [
      | inl more ↦ offset_before a g more
      | inr none ↦
          let z : (start_of a g).before ≡ 0 = omega arith in
          let c : ((start_of a g).before == 0) ≡ true = eq-eqb (start_of a g).before 0 z in
          let at : (start_of a g).after + length g.octets ≡ (start_of a g).before = end_place f a b g p d e fin in
          let o : bare_offset (standing (taken a g)) (start_of a g) ≡ length (due_in (taken a g)) + (start_of a g).after + 1 = rw c refl in
          let more : (more : List ℕ) × (due_in (taken a g) ≡ due_in a ++ more) = due-taken f a b g law p d in
          let one : one_if a.ended ≡ 1 = ap one_if e in
          let le : length (due_in (taken a g)) ≤ length (image a.meaning (taken a g).octets) =
          length-due-le a.meaning law (taken a g).ended (taken a g).octets in
          omega (arith, ap length more.1, length-append (due_in a) more.0)
    ]

-- an end that its receiver has acknowledged had ended the stream before
ended_before : (f : Host) (a b : Sender) (g : Segment) → IsLawful a.meaning → Passes f a b g → IsData g → IsBound a
    → length (image a.meaning (taken a g).octets) < a.acked → a.ended ≡ true
ended_before f a b g law p d bound l =
    elim (cases_Bool a.ended) [
      | inl e ↦ e
      | inr e ↦
          let more : (more : List ℕ) × (due_in (taken a g) ≡ due_in a ++ more) = due-taken f a b g law p d in
          let none : one_if a.ended ≡ 0 = ap one_if e in
          let le : length (due_in (taken a g)) ≤ length (image a.meaning (taken a g).octets) =
          length-due-le a.meaning law (taken a g).ended (taken a g).octets in
          absurd (omega (arith, ap length more.1, length-append (due_in a) more.0))
    ]

pub again : (f : Host) (a b : Sender) (g : Segment) → IsLawful a.meaning → Passes f a b g → IsData g → IsBound a → EndsBy a g (acknowledged_of a)
    → ((1 ≤ (start_of a g).before) ⊎ (g.flags.fin ≡ true)) → ((g.flags.fin ≡ false) ⊎ (length (image a.meaning (taken a g).octets) < a.acked))
    → AsksAgain (known a.initial) a.acked (data_out a b g)
again f a b g law p d bound by_it repeats known_end =
    elim known_end [
      | inl no_fin ↦
          let no_end : sends_end (standing (taken a g)) g.flags.fin ≡ false = and_left _ _ no_fin in
          elim repeats [
            | inl l ↦ again_at f a b g law p d bound by_it (inl no_fin) no_end (offset_before a g l)
            | inr fin ↦ absurd (true≢false (sym fin ∙ no_fin))
          ]
      | inr l ↦
          let e : a.ended ≡ true = ended_before f a b g law p d bound l in
          let no_end : sends_end (standing (taken a g)) g.flags.fin ≡ false =
          and_right _ _ (lt-leb a.acked (length (due_in (taken a g)))
          (omega (arith, l, length-due-le a.meaning law (taken a g).ended (taken a g).octets))) in
          again_at f a b g law p d bound by_it (inr e) no_end
          (elim repeats [
            | inl k ↦ offset_before a g k
            | inr fin ↦ offset_end f a b g law p d bound e fin l
          ])
    ]

-- each acknowledges the octets of the receiver that are acknowledged by now
pub each_carries : (s : Sent) (octets : List ℕ) → AllByRecursion (λ o. o.acknowledgement ≡ s.acknowledgement) (sent_in s octets)
each_carries s [] = (refl, tt)
each_carries s (x ∷ xs) = each (pieces s.limit 0 (x ∷ xs) s.flags.fin s.flags.push)
  where
    each : (ps : List Piece) → AllByRecursion (λ o. o.acknowledgement ≡ s.acknowledgement) (map (segment_with s) ps)
    each [] = tt
    each (p ∷ ps) = (refl, each ps)

pub brings : (f : Host) (a b : Sender) (g : Segment) → IsLawful a.meaning → Passes f a b g → IsData g → IsBound a
    → Brings a (taken a g) g (data_out a b g)
brings f a b g law p d bound = record {
  due = λ q from l. shown a b g q law (omega arith) (high_grown a g q from l);
  ended = λ open_it fin. ends f a b g law p d (sends a g fin (acked_in open_it));
  lacking = λ c l. shown a b g a.acked law (low_acked f a b g law p d bound c.begins) (high_acked f a b g law p d bound c.goes_past l);
  onward = λ c r q from l. shown a b g q law
      (let k : low (extent a) (standing (taken a g)) (start_of a g) ≤ a.acked = low_acked f a b g law p d bound c.begins in omega arith)
      (high_onward a g q law r l);
  each = λ n q x from c at first past l. shown a b g q law (low_each f a b g n q x law p d bound from c.begins at first)
      (high_each a g n q x c.goes_past at past l);
  ending = λ fin l. ends f a b g law p d (sends a g fin l);
  behind = λ fin l begins q from k.
      shown a b g q law
      (let m : low (extent a) (standing (taken a g)) (start_of a g) ≤ a.acked = low_acked f a b g law p d bound begins in omega arith)
      (let all : high (extent a) (standing (taken a g)) (start_of a g) (length g.octets) g.flags.fin ≡ length (due_in (taken a g)) = high_ending a g
      (sends a g fin l) in omega arith);
  again = λ by_it repeats known_end. again f a b g law p d bound by_it repeats known_end;
}
  where
    acked_in : a.ended ≡ false → a.acked ≤ length (image a.meaning (taken a g).octets)
    acked_in e =
        let none : one_if a.ended ≡ 0 = ap one_if e in
        let more : (more : List ℕ) × (due_in (taken a g) ≡ due_in a ++ more) = due-taken f a b g law p d in
        let le : length (due_in (taken a g)) ≤ length (image a.meaning (taken a g).octets) =
        length-due-le a.meaning law (taken a g).ended (taken a g).octets in
        omega (arith, ap length more.1, length-append (due_in a) more.0)

-- over a session

pub data_of : (g : Segment) → is_data (arrival g) ≡ true → IsData g
data_of g e =
    let b : (not g.flags.syn ≡ true) × (not g.flags.reset ≡ true) = and_parts _ _ e in (not-true g.flags.syn b.0, not-true g.flags.reset b.1)

pub own_is : (a : Sender) (g : Segment) → IsData g → own_after a g ≡ taken a g
own_is a g d = cond-false g.flags.syn (opened a g) (cond g.flags.reset a (taken a g)) d.0 ∙ cond-false g.flags.reset a (taken a g) d.1

pub out_is : (a b : Sender) (g : Segment) → IsData g → out a b g ≡ data_out a b g
out_is a b g d = ap in_pieces (cond-false g.flags.syn _ _ d.0 ∙ cond-false g.flags.reset _ _ d.1)

pub other_is : (b : Sender) (g : Segment) → IsData g → other_after b g ≡ acknowledged b g
other_is b g d = cond-false (g.flags.syn || g.flags.reset) b (acknowledged b g) (or_from _ _ d.0 d.1)

brings_by : (f : Host) (a b : Sender) (g : Segment) → IsLawful a.meaning → Facts a → Passes f a b g → is_data (arrival g) ≡ true
    → Brings a (own_after a g) g (out a b g)
brings_by f a b g law facts p e =
    let d : IsData g = data_of g e in
    subst (λ (z : Sender). Brings a z g (out a b g)) (sym (own_is a g d))
    (subst (λ (os : List Outgoing). Brings a (taken a g) g os) (sym (out_is a b g d)) (brings f a b g law p d facts.acked))

pub session_brings : (from : Host) (s : Session) (g : Segment) → IsLawful (own from s).meaning → Facts (own from s) → segment_refusal from s g ≡ None
    → is_data (arrival g) ≡ true → Brings (own from s) (own from (session_next from s g)) g (session_out from s g)
session_brings Client s g law facts v e = brings_by Client s.client s.server g law facts (passes Client s.client s.server g v) e
session_brings Server s g law facts v e = brings_by Server s.server s.client g law facts (passes Server s.server s.client g v) e

carries_by : (a b : Sender) (g : Segment) → is_data (arrival g) ≡ true
    → AllByRecursion (λ o. o.acknowledgement ≡ acknowledgement_to (standing (other_after b g))) (out a b g)
carries_by a b g e =
    let d : IsData g = data_of g e in
    let s : Sent = data_is_sent a b g in
    subst (λ (z : Sender). AllByRecursion (λ o. o.acknowledgement ≡ acknowledgement_to (standing z)) (out a b g)) (sym (other_is b g d))
    (subst (λ (os : List Outgoing). AllByRecursion (λ o. o.acknowledgement ≡ acknowledgement_to (standing (acknowledged b g))) os)
    (sym (out_is a b g d))
    (subst (λ (n : ℕ). AllByRecursion (λ o. o.acknowledgement ≡ n) (data_out a b g)) (data_acknowledges a b g) (each_carries s s.octets)))

pub session_carries : (from : Host) (s : Session) (g : Segment) → is_data (arrival g) ≡ true
    → AllByRecursion (λ o. o.acknowledgement ≡ acknowledgement_to (standing (other from (session_next from s g)))) (session_out from s g)
session_carries Client s g e = carries_by s.client s.server g e
session_carries Server s g e = carries_by s.server s.client g e

-- The same with the number in full. An equation of its own says that both are one: else whoever looks for a difference compares all that goes out.
acknowledges : (a : Sender) → acknowledgement_to (standing a) ≡ number_at (known a.initial) (acknowledged_of a)
acknowledges a = refl

pub carries_number : (from : Host) (s : Session) (g : Segment) → is_data (arrival g) ≡ true
    → let b = other from (session_next from s g) in
    AllByRecursion (λ o. o.acknowledgement ≡ number_at (known b.initial) (acknowledged_of b)) (session_out from s g)
carries_number from s g e = subst (λ (n : ℕ). AllByRecursion (λ o. o.acknowledgement ≡ n) (session_out from s g))
    (acknowledges (other from (session_next from s g))) (session_carries from s g e)
