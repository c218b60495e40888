-- What is kept stays in its ranges, whatever it is kept of.
use Rattle.std.proofs.Common.{◌≡◌, ◌≤◌, ◌<◌, ◌+◌, ◌-◌, ◌*◌, ℕ, Bool, true, false, cond, List, [], ◌∷◌, ◌++◌, length, drop, sym, ◌∙◌, subst, arith, inl, inr, ◌^◌, ◌||◌, max, is_some, None, bytes_eq, length-append, length-drop}
use Rattle.std.proofs.lemmas.Bool.{cases_Bool, cond-true, cond-false, leb-false, or_parts}
use Rattle.gate_base.proofs.Options.{none_there}
use Rattle.gate_base.specs.declared.host.Host.{Host}
use Rattle.dialogue.specs.Prelude.{Meaning, IsUnit, IsRest, IsLawful, Push, Plain, Changed, push_of}
use Rattle.dialogue.proofs.CutLemmas.{IsRest-nil}
use Rattle.shift_ledger.specs.Prelude.{Kept}
use Rattle.tcp_segments.specs.Prelude.{one_if}
use Rattle.stream_model.specs.Prelude.{Segment, other, arrival, start_at, place_acknowledged, is_data, refusal_of}
use Rattle.stream_model.specs.declared.refusals.Extent.{Extent}
use Rattle.stream_model.proofs.PassLemmas.{second_false, PassesBy, passes_by, data_is, ack_within, one-le}
use Rattle.stream_model.proofs.RecentFact.{few_added}
use Rattle.compact_stream.specs.Prelude.{CompactSender, extent_kept, recent_start, back_kept, InRange, went_on, closed, taken_kept, own_kept, other_kept, Run, run, all_pushed, next}
use Rattle.compact_stream.proofs.OctetSteps.{unit_here}
use Rattle.compact_stream.proofs.RunLemmas.{all_pushed-push}

-- a rest and a ledger of at most n octets, the ledger of an image that is small enough and has at least so many octets
record Counted (m : Meaning) (least : ℕ) (rest : List ℕ) (value : Kept) (n : ℕ) : Type 0 where
  is_rest : IsRest m rest
  octets : value.octets_in + length rest ≤ n
  image : 2 * value.octets_out ≤ 3 * value.octets_in
  grown : least ≤ value.octets_out

counted_plain : (m : Meaning) → IsLawful m → (least : ℕ) (rest : List ℕ) (l : Kept) (ps : List Push) (count n : ℕ) → count ≤ length rest + 1
    → Counted m least rest (all_pushed l ps) n → Counted m least [] (all_pushed l (ps ++ Plain count ∷ [])) (n + 1)
counted_plain m law least rest l ps count n c k =
    subst (λ (v : Kept). Counted m least [] v (n + 1)) (sym (all_pushed-push l ps (Plain count)))
    (record { is_rest = IsRest-nil m law; octets = omega (arith, k.octets); image = omega (arith, k.image); grown = omega (arith, k.grown) })

counted_unit : (m : Meaning) → IsLawful m → (least : ℕ) (rest unit : List ℕ) (l : Kept) (ps : List Push) (n : ℕ) → length unit ≡ length rest + 1
    → IsUnit m unit → Counted m least rest (all_pushed l ps) n → Counted m least [] (all_pushed l (ps ++ push_of m unit ∷ [])) (n + 1)
counted_unit m law least rest unit l ps n e u k =
    elim (cases_Bool (bytes_eq (m.image unit) unit)) [
      | inl same ↦ rw same (counted_plain m law least rest l ps (length unit) n (omega arith) k)
      | inr other ↦ rw other (subst (λ (v : Kept). Counted m least [] v (n + 1)) (sym (all_pushed-push l ps (Changed (length unit) (m.image unit))))
          (record {
            is_rest = IsRest-nil m law;
            octets = omega (arith, k.octets);
            image = omega (arith, k.image, law.small unit u);
            grown =
                omega (arith, k.grown);
          }))
    ]

counted_octet : (m : Meaning) → IsLawful m → (least : ℕ) (r : Run) (l : Kept) (x n : ℕ) → Counted m least r.rest (all_pushed l r.pushes) n
    → Counted m least (next m r x).rest (all_pushed l (next m r x).pushes) (n + 1)
counted_octet m law least r l x n k =
    elim (cases_Bool r.released) [
      | inl e ↦ rw e (counted_plain m law least r.rest l r.pushes 1 n (omega arith) k)
      | inr e ↦ rw e (
          let one : length (r.rest ++ x ∷ []) ≡ length r.rest + 1 = omega (arith, length-append r.rest (x ∷ [])) in
          elim (cases_Bool (is_some (m.first_end (r.rest ++ x ∷ [])))) [
            | inl ends ↦ rw ends (counted_unit m law least r.rest (r.rest ++ x ∷ []) l r.pushes n one (unit_here m law r.rest x k.is_rest ends) k)
            | inr goes ↦
                elim (cases_Bool (m.holds (r.rest ++ x ∷ []))) [
                  | inl holds ↦ rw (goes, holds)
                      (record {
                        is_rest = none_there (m.first_end (r.rest ++ x ∷ [])) goes;
                        octets = omega (arith, k.octets);
                        image = k.image;
                        grown =
                            k.grown;
                      })
                  | inr free ↦ rw (goes, free) (counted_plain m law least r.rest l r.pushes (length (r.rest ++ x ∷ [])) n (omega arith) k)
                ]
          ])
    ]

counted_run : (m : Meaning) → IsLawful m → (least : ℕ) (t : List ℕ) (r : Run) (l : Kept) (n : ℕ) → Counted m least r.rest (all_pushed l r.pushes) n
    → Counted m least (run m r t).rest (all_pushed l (run m r t).pushes) (n + length t)
counted_run m law least [] r l n k = subst (λ (i : ℕ). Counted m least r.rest (all_pushed l r.pushes) i) (omega arith) k
counted_run m law least (x ∷ t) r l n k =
    subst (λ (i : ℕ). Counted m least (run m (next m r x) t).rest (all_pushed l (run m (next m r x) t).pushes) i) (omega arith)
    (counted_run m law least t (next m r x) l (n + 1) (counted_octet m law least r l x n k))

pub went_on_in_range : (m : Meaning) → IsLawful m → (h : CompactSender) (t : List ℕ) → h.ledger.octets_in + length h.rest + length t < 2 ^ 30
    → length h.recent + length t ≤ 65536 → InRange m h → InRange m (went_on m h t)
went_on_in_range m law h t small few i =
    let k : Counted m h.ledger.octets_out (went_on m h t).rest (went_on m h t).ledger (h.ledger.octets_in + length h.rest + length t) =
    counted_run m law h.ledger.octets_out t (record { rest = h.rest; released = h.released; pushes = [] }) h.ledger
    (h.ledger.octets_in + length h.rest)
    (record { is_rest = i.rest; octets = omega arith; image = i.image; grown = omega arith }) in
    record {
      octets = omega (arith, k.octets);
      image = k.image;
      acked = omega (arith, k.grown, i.acked);
      rest = k.is_rest;
      recent =
          omega (arith, length-append h.recent t);
    }

pub closed_in_range : (m : Meaning) → IsLawful m → (h : CompactSender) → InRange m h → InRange m (closed h)
closed_in_range m law h i =
    let one : one_if h.ended ≤ 1 = one-le h.ended in
    record {
      octets = omega (arith, i.octets);
      image = omega (arith, i.image);
      acked = within (length h.rest);
      rest = IsRest-nil m law;
      recent =
          i.recent;
    }
  where
    within : (n : ℕ) → h.acked ≤ h.ledger.octets_out + n + 1
    within n = omega (arith, i.acked, one-le h.ended)

taken_in_range : (m : Meaning) → IsLawful m → (h : CompactSender) (g : Segment)
    → h.ledger.octets_in + length h.rest + (length g.octets - (start_at (extent_kept h) (arrival g)).before) < 2 ^ 30
    → length h.recent + (length g.octets - (start_at (extent_kept h) (arrival g)).before) ≤ 65536 → InRange m h → InRange m (taken_kept m h g)
taken_in_range m law h g small few i =
    let n : ℕ = (start_at (extent_kept h) (arrival g)).before in
    let on : InRange m (went_on m h (drop (start_at (extent_kept h) (arrival g)).before g.octets)) =
    went_on_in_range m law h (drop (start_at (extent_kept h) (arrival g)).before g.octets)
    (omega (arith, length-drop (start_at (extent_kept h) (arrival g)).before g.octets))
    (omega (arith, length-drop (start_at (extent_kept h) (arrival g)).before g.octets)) i in
    choose h.ended g.flags.fin h _ i on
  where
    choose : (ended fin : Bool) (h more : CompactSender) → InRange m h → InRange m more → InRange m (cond ended h (cond fin (closed more) more))
    choose true fin h more i j = i
    choose false true h more i j = closed_in_range m law more j
    choose false false h more i j = j

pub own_in_range : (f : Host) (m : Meaning) → IsLawful m → (h : CompactSender) (b : Extent) (g : Segment) (u : Bool) → InRange m h
    → refusal_of f (extent_kept h) b (arrival g) u ≡ None → InRange m (own_kept m h g)
own_in_range f m law h b g u i v =
    let p : PassesBy f (extent_kept h) b (arrival g) u = passes_by f (extent_kept h) b (arrival g) u v in
    elim (cases_Bool g.flags.syn) [
      | inl syn ↦ subst (λ (z : CompactSender). InRange m z) (sym (cond-true g.flags.syn _ _ syn))
          (record { octets = i.octets; image = i.image; acked = i.acked; rest = i.rest; recent = i.recent })
      | inr not_syn ↦
          elim (cases_Bool g.flags.reset) [
            | inl reset ↦ subst (λ (z : CompactSender). InRange m z) (sym (cond-false g.flags.syn _ _ not_syn ∙ cond-true g.flags.reset _ _ reset)) i
            | inr not_reset ↦
                let small : h.ledger.octets_in + length h.rest + (length g.octets - (start_at (extent_kept h) (arrival g)).before) < 2 ^ 30 =
                leb-false _ _ (second_false (is_data (arrival g)) _ p.stream_limit (data_is g (not_syn, not_reset))) in
                let few : length h.recent + (length g.octets - (start_at (extent_kept h) (arrival g)).before) ≤ 65536 =
                few_added (is_data (arrival g)) (length h.recent) (length g.octets - (start_at (extent_kept h) (arrival g)).before)
                (data_is g (not_syn, not_reset)) p.backlog i.recent in
                subst (λ (z : CompactSender). InRange m z) (sym (cond-false g.flags.syn _ _ not_syn ∙ cond-false g.flags.reset _ _ not_reset))
                (taken_in_range m law h g small few i)
          ]
    ]

pub other_in_range : (f : Host) (m : Meaning) (h : CompactSender) (a : Extent) (g : Segment) (u : Bool) → InRange m h
    → refusal_of f a (extent_kept h) (arrival g) u ≡ None → InRange m (other_kept h g)
other_in_range f m h a g u i v =
    let p : PassesBy f a (extent_kept h) (arrival g) u = passes_by f a (extent_kept h) (arrival g) u v in
    elim (cases_Bool (g.flags.syn || g.flags.reset)) [
      | inl none ↦ subst (λ (z : CompactSender). InRange m z) (sym (cond-true (g.flags.syn || g.flags.reset) _ _ none)) i
      | inr some ↦
          let d : (g.flags.syn ≡ false) × (g.flags.reset ≡ false) = or_parts g.flags.syn g.flags.reset some in
          let q : place_acknowledged (extent_kept h) (arrival g) ≤ h.ledger.octets_out + one_if h.ended =
          ack_within f a (extent_kept h) (arrival g) u p d.0 (data_is g d) in
          subst (λ (z : CompactSender). InRange m z) (sym (cond-false (g.flags.syn || g.flags.reset) _ _ some))
          (record {
            octets = i.octets;
            image = i.image;
            acked = omega (arith, i.acked, q);
            rest = i.rest;
            recent =
                omega (
                  arith,
                  i.recent,
                  length-drop (back_kept h (max h.acked (place_acknowledged (extent_kept h) (arrival g))) - recent_start h) h.recent,
                );
          })
    ]
