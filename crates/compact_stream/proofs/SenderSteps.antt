-- What is kept of a sender goes on as its session does.
use Rattle.std.proofs.Common.{◌≡◌, ◌≤◌, ◌+◌, ℕ, Bool, true, false, cond, List, [], ◌++◌, length, drop, refl, sym, ◌∙◌, ap, subst, arith, inl, inr, min, max, ◌||◌, append-nil, length-append}
use Rattle.std.proofs.lemmas.Bool.{cases_Bool, cond-true, cond-false, or_parts, true≢false}
use Rattle.gate_base.specs.declared.host.Host.{Host}
use Rattle.dialogue.specs.Prelude.{Meaning, IsLawful, Plain, cut, due, back}
use Rattle.dialogue.proofs.Laws.{due-append}
use Rattle.shift_ledger.specs.Prelude.{StandsFor, pushed}
use Rattle.shift_ledger.proofs.Walks.{StandsFor-acknowledge}
use Rattle.tcp_segments.specs.Prelude.{one_if}
use Rattle.stream_model.specs.Prelude.{Sender, Segment, extent, arrival, start_at, place_acknowledged, start_of, repeats_unlike, taken, own_after, other_after}
use Rattle.stream_model.specs.declared.refusals.Extent.{Extent}
use Rattle.stream_model.proofs.PassLemmas.{Passes, IsData, nothing_past, ack_within, data_is}
use Rattle.compact_stream.specs.Prelude.{sent_pushes, CompactSender, sender_of, Keeps, KeepsSender, extent_kept, went_on, closed, taken_kept, own_kept, acknowledged_kept, other_kept, held_rest, Run, run}
use Rattle.compact_stream.proofs.DuePlaces.{end_from-due}
use Rattle.compact_stream.proofs.OctetSteps.{IsKept}
use Rattle.compact_stream.proofs.RunLemmas.{kept_on}
use Rattle.compact_stream.proofs.RecentLemmas.{recent_more, recent_end, recent_forgotten}
use Rattle.compact_stream.proofs.SenderLemmas.{due_is, extent_is, end_pushes}

-- an open stream
pub open_kept : (m : Meaning) (h : CompactSender) (s : List ℕ) → h.ended ≡ false → h.acked ≤ h.ledger.octets_out → Keeps m h s
    → IsKept m h.rest h.released h.ledger s h.acked
open_kept m h s e l k = record {
  rest_is = k.rest ∙ cond-false h.ended [] (held_rest m (cut m s).rest) e;
  released_is = k.released e;
  ledger_is =
      let low : min h.acked h.ledger.octets_out ≡ h.acked = omega arith in
      subst (λ (b : Bool). StandsFor h.ledger (sent_pushes m b (cut m s)) h.acked) e
      (subst (λ (n : ℕ). StandsFor h.ledger (sent_pushes m h.ended (cut m s)) n) low k.ledger);
}

pub went_on_keeps : (m : Meaning) → IsLawful m → (h : CompactSender) (s t : List ℕ) → h.ended ≡ false → h.acked ≤ h.ledger.octets_out → Keeps m h s
    → Keeps m (went_on m h t) (s ++ t) × (h.acked ≤ (went_on m h t).ledger.octets_out)
went_on_keeps m law h s t e l k =
    let r : Run = run m (record { rest = h.rest; released = h.released; pushes = [] }) t in
    let on : IsKept m (went_on m h t).rest (went_on m h t).released (went_on m h t).ledger (s ++ t) h.acked =
    kept_on m law h.rest h.released h.ledger s t h.acked (open_kept m h s e l k) in
    let more : (more : List ℕ) × (due m false (s ++ t) ≡ due m false s ++ more) = due-append m law s t in
    let old : h.ledger.octets_out ≡ length (due m false s) = due_is m h s k ∙ ap (λ b. length (due m b s)) e in
    let new : (went_on m h t).ledger.octets_out ≡ length (due m false (s ++ t)) = on.ledger_is.octets_out ∙ end_from-due m (s ++ t) in
    let up : h.acked ≤ (went_on m h t).ledger.octets_out = omega (arith, ap length more.1, length-append (due m false s) more.0) in
    let low : h.acked ≡ min h.acked (went_on m h t).ledger.octets_out = omega arith in (
      record {
        rest = on.rest_is ∙ sym (cond-false h.ended [] (held_rest m (cut m (s ++ t)).rest) e);
        released = λ o. on.released_is;
        ledger =
            subst (λ (b : Bool). StandsFor (went_on m h t).ledger (sent_pushes m b (cut m (s ++ t))) (min h.acked (went_on m h t).ledger.octets_out))
            (sym e) (subst (λ (n : ℕ). StandsFor (went_on m h t).ledger (sent_pushes m false (cut m (s ++ t))) n) low on.ledger_is);
        recent =
            ap (λ (r : List ℕ). r ++ t) (k.recent ∙ ap (λ (b : Bool). drop (back m b s h.acked) s) e)
            ∙ recent_more m law s t h.acked (omega arith)
            ∙ ap (λ (b : Bool). drop (back m b (s ++ t) h.acked) (s ++ t)) (sym e);
      },
      up,
    )

pub closed_keeps : (m : Meaning) → IsLawful m → (h : CompactSender) (s : List ℕ) → h.ended ≡ false → h.acked ≤ h.ledger.octets_out → Keeps m h s
    → Keeps m (closed h) s
closed_keeps m law h s e l k =
    let d : h.ledger.octets_out ≡ length (due m false s) = due_is m h s k ∙ ap (λ b. length (due m b s)) e in
    let o : IsKept m h.rest h.released h.ledger s h.acked = open_kept m h s e l k in
    let p : StandsFor (pushed h.ledger (Plain (length (held_rest m (cut m s).rest)))) (sent_pushes m true (cut m s)) h.acked =
    end_pushes m h.ledger (cut m s) h.acked o.ledger_is in
    let low : h.acked ≡ min h.acked (h.ledger.octets_out + length h.rest) = omega arith in
    record {
      rest = refl;
      released = λ f. absurd (true≢false f);
      ledger =
          subst (λ (n : ℕ). StandsFor (closed h).ledger (sent_pushes m true (cut m s)) n) low
          (subst (λ (r : List ℕ). StandsFor (pushed h.ledger (Plain (length r))) (sent_pushes m true (cut m s)) h.acked) (sym o.rest_is) p);
      recent = k.recent ∙ ap (λ (b : Bool). drop (back m b s h.acked) s) e ∙ recent_end m law s h.acked (omega arith);
    }

abbrev with_end : Meaning → CompactSender → List ℕ → Bool → Sender
with_end m h u b = record { meaning = m; mss = h.mss; initial = h.initial; octets = u; ended = b; acked = h.acked }

pub taken_keeps : (f : Host) (m : Meaning) → IsLawful m → (h : CompactSender) (s : List ℕ) (b : Sender) (g : Segment) → Passes f (sender_of m h s) b g
    → IsData g → h.acked ≤ h.ledger.octets_out + one_if h.ended → Keeps m h s → KeepsSender m (taken_kept m h g) (taken (sender_of m h s) g)
taken_keeps f m law h s b g p d l k =
    let same : (start_at (extent_kept h) (arrival g)).before ≡ (start_of (sender_of m h s) g).before =
    ap (λ (x : Extent). (start_at x (arrival g)).before) (extent_is m h s k) in
    let t : List ℕ = drop (start_of (sender_of m h s) g).before g.octets in
    elim (cases_Bool h.ended) [
      | inl e ↦
          let none : drop (start_of (sender_of m h s) g).before g.octets ≡ [] = nothing_past f (sender_of m h s) b g p d e in
          ended_case m h s g e none k
      | inr e ↦
          let low : h.acked ≤ h.ledger.octets_out = omega (arith, ap one_if e) in
          subst (λ (n : ℕ). KeepsSender m (cond h.ended h (cond g.flags.fin (closed (went_on m h (drop n g.octets))) (went_on m h (drop n g.octets))))
          (taken (sender_of m h s) g)) (sym same)
          (open_case m law h s (drop (start_of (sender_of m h s) g).before g.octets) g.flags.fin e
          (went_on_keeps m law h s (drop (start_of (sender_of m h s) g).before g.octets) e low k))
    ]
  where
    flags_same : (m : Meaning) (h : CompactSender) (u : List ℕ) (x y : Bool) → x ≡ y → with_end m h u x ≡ with_end m h u y
    flags_same m h u x y e = ap (with_end m h u) e

    ended_case : (m : Meaning) (h : CompactSender) (s : List ℕ) (g : Segment) → h.ended ≡ true
        → drop (start_of (sender_of m h s) g).before g.octets ≡ [] → Keeps m h s → KeepsSender m (taken_kept m h g) (taken (sender_of m h s) g)
    ended_case m h s g e none k =
        let octets : s ++ drop (start_of (sender_of m h s) g).before g.octets ≡ s = ap (λ u. s ++ u) none ∙ append-nil s in
        subst (λ (x : CompactSender). KeepsSender m x (taken (sender_of m h s) g)) (sym (cond-true h.ended h _ e))
        (record {
          is = flags_same m h (s ++ drop (start_of (sender_of m h s) g).before g.octets) (h.ended || g.flags.fin) h.ended
              (ap (λ b. b || g.flags.fin) e ∙ sym e);
          keeps = subst (λ (u : List ℕ). Keeps m h u) (sym octets) k;
        })

    open_case : (m : Meaning) → IsLawful m → (h : CompactSender) (s t : List ℕ) (fin : Bool) → h.ended ≡ false → Keeps m (went_on m h t) (s ++ t)
        × (h.acked ≤ (went_on m h t).ledger.octets_out) → KeepsSender m (cond h.ended h (cond fin (closed (went_on m h t)) (went_on m h t)))
        (record { meaning = m; mss = h.mss; initial = h.initial; octets = s ++ t; ended = h.ended || fin; acked = h.acked })
    open_case m law h s t true e k =
        subst (λ (x : CompactSender). KeepsSender m x
        (record { meaning = m; mss = h.mss; initial = h.initial; octets = s ++ t; ended = h.ended || true; acked = h.acked }))
        (sym (cond-false h.ended h (closed (went_on m h t)) e))
        (record {
          is = flags_same m h (s ++ t) (h.ended || true) true (ap (λ b. b || true) e);
          keeps =
              closed_keeps m law (went_on m h t) (s ++ t) e k.1 k.0;
        })
    open_case m law h s t false e k =
        subst (λ (x : CompactSender). KeepsSender m x
        (record { meaning = m; mss = h.mss; initial = h.initial; octets = s ++ t; ended = h.ended || false; acked = h.acked }))
        (sym (cond-false h.ended h (went_on m h t) e))
        (record { is = flags_same m h (s ++ t) (h.ended || false) h.ended (ap (λ b. b || false) e ∙ sym e); keeps = k.0 })

-- after its own segment
pub own_kept_keeps : (f : Host) (m : Meaning) → IsLawful m → (h : CompactSender) (s : List ℕ) (b : Sender) (g : Segment)
    → Passes f (sender_of m h s) b g → h.acked ≤ h.ledger.octets_out + one_if h.ended → Keeps m h s
    → KeepsSender m (own_kept m h g) (own_after (sender_of m h s) g)
own_kept_keeps f m law h s b g p l k =
    elim (cases_Bool g.flags.syn) [
      | inl syn ↦ both (own_kept m h g) _ (own_after (sender_of m h s) g) _ (cond-true _ _ _ syn) (cond-true _ _ _ syn)
          (record { is = refl; keeps = record { rest = k.rest; released = k.released; ledger = k.ledger; recent = k.recent } })
      | inr not_syn ↦
          elim (cases_Bool g.flags.reset) [
            | inl reset ↦ both (own_kept m h g) h (own_after (sender_of m h s) g) (sender_of m h s) (cond-false _ _ _ not_syn ∙ cond-true _ _ _ reset)
                (cond-false _ _ _ not_syn ∙ cond-true _ _ _ reset) (record { is = refl; keeps = k })
            | inr not_reset ↦ both (own_kept m h g) (taken_kept m h g) (own_after (sender_of m h s) g) (taken (sender_of m h s) g)
                (cond-false _ _ _ not_syn ∙ cond-false _ _ _ not_reset) (cond-false _ _ _ not_syn ∙ cond-false _ _ _ not_reset)
                (taken_keeps f m law h s b g p (not_syn, not_reset) l k)
          ]
    ]
  where
    both : (x y : CompactSender) (a c : Sender) → x ≡ y → a ≡ c → KeepsSender m y c → KeepsSender m x a
    both x y a c e i h = subst (λ (z : CompactSender). KeepsSender m z a) (sym e) (subst (λ (z : Sender). KeepsSender m y z) (sym i) h)

-- after its receiver's segment
pub acknowledged_keeps : (m : Meaning) → IsLawful m → (h : CompactSender) (s : List ℕ) (q : ℕ) → h.acked ≤ h.ledger.octets_out + one_if h.ended
    → q ≤ h.ledger.octets_out + one_if h.ended → Keeps m h s → Keeps m (acknowledged_kept h q) s
acknowledged_keeps m law h s q i j k =
    let n : max (min h.acked h.ledger.octets_out) (min (max h.acked q) h.ledger.octets_out) ≡ min (max h.acked q) h.ledger.octets_out = omega arith in
    record {
      rest = k.rest;
      released = k.released;
      ledger = subst (λ (i : ℕ). StandsFor (acknowledged_kept h q).ledger (sent_pushes m h.ended (cut m s)) i) n
          (StandsFor-acknowledge h.ledger (sent_pushes m h.ended (cut m s)) (min h.acked h.ledger.octets_out)
          (min (max h.acked q) h.ledger.octets_out) h.ledger.spare (omega arith) k.ledger);
      recent = recent_forgotten m law h s (max h.acked q) k (omega arith) (omega arith);
    }

pub other_kept_keeps : (f : Host) (m : Meaning) → IsLawful m → (h : CompactSender) (s : List ℕ) (a : Sender) (g : Segment)
    → Passes f a (sender_of m h s) g → h.acked ≤ h.ledger.octets_out + one_if h.ended → Keeps m h s
    → KeepsSender m (other_kept h g) (other_after (sender_of m h s) g)
other_kept_keeps f m law h s a g p l k =
    go (g.flags.syn || g.flags.reset) refl (place_acknowledged (extent_kept h) (arrival g))
    (place_acknowledged (extent (sender_of m h s)) (arrival g)) refl (ap (λ (e : Extent). place_acknowledged e (arrival g)) (extent_is m h s k))
  where
    within : (g.flags.syn || g.flags.reset) ≡ false → place_acknowledged (extent_kept h) (arrival g) ≤ h.ledger.octets_out + one_if h.ended
    within none =
        let d : (g.flags.syn ≡ false) × (g.flags.reset ≡ false) = or_parts g.flags.syn g.flags.reset none in
        let at : place_acknowledged (extent_kept h) (arrival g) ≡ place_acknowledged (extent (sender_of m h s)) (arrival g) =
        ap (λ (e : Extent). place_acknowledged e (arrival g)) (extent_is m h s k) in
        omega (arith, at, due_is m h s k, ack_within f (extent a) (extent (sender_of m h s)) (arrival g) (repeats_unlike a g) p d.0 (data_is g d))

    go : (c : Bool) → (g.flags.syn || g.flags.reset) ≡ c → (p q : ℕ) → p ≡ place_acknowledged (extent_kept h) (arrival g) → p ≡ q
        → KeepsSender m (cond c h (acknowledged_kept h p)) (cond c (sender_of m h s) (record (sender_of m h s) { acked = max h.acked q }))
    go true none p q at e = record { is = refl; keeps = k }
    go false none p q at e =
        subst (λ (n : ℕ). KeepsSender m (acknowledged_kept h p) (record (sender_of m h s) { acked = max h.acked n })) e
        (record { is = refl; keeps = acknowledged_keeps m law h s p l (omega (arith, at, within none)) k })
