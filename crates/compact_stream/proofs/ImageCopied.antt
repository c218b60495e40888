-- What goes out of an image is copied from the recent octets alone.
use Rattle.std.proofs.Common.{◌≡◌, ◌≤◌, ◌+◌, ◌-◌, ℕ, Bool, true, false, List, [], ◌∷◌, ◌++◌, length, take, drop, refl, sym, ◌∙◌, ap, subst, arith, append_assoc, inl, inr, map, min, slice_range, ◌⊎◌, slice_get, flat_map}
use Rattle.std.proofs.lemmas.List.{length-append, length-drop, drop-append-le, take-append-le, take_all}
use Rattle.std.proofs.lemmas.Bool.{cases_Bool, cond-true, cond-false, le-leb}
use Rattle.dialogue.specs.Prelude.{Meaning, IsLawful, is_held, Push, Plain, Changed, end_from, cut, due_rest, image, back, push_of, pushes_of}
use Rattle.dialogue.proofs.CutLemmas.{cut_joined}
use Rattle.dialogue.proofs.Laws.{joined-pushes}
use Rattle.dialogue.proofs.PlaceLemmas.{end_from-append}
use Rattle.shift_ledger.specs.Prelude.{fore_by, copied_by, StandsFor, in_from, fore_of, back_of, Source, Written, plain_sources, sources_from, resolve, copied, NeedsOnly, IsPartAt}
use Rattle.shift_ledger.proofs.Copies.{copied-image, needs-above}
use Rattle.shift_ledger.proofs.CopiedBy.{copied_by-is}
use Rattle.shift_ledger.proofs.NeededOctets.{slice_get-append_left}
use Rattle.shift_ledger.proofs.SourceWalk.{length-sources_from}
use Rattle.shift_ledger.proofs.Walks.{fore_walk-kept, back_walk-kept}
use Rattle.compact_stream.specs.Prelude.{CompactSender, Keeps, sent_pushes, octets_kept, recent_start, recent_back}
use Rattle.compact_stream.proofs.SenderLemmas.{octets_are, back-sent, due_is, in_from-pushes}

sources-append : (hs ps : List Push) (start : ℕ) → sources_from start (hs ++ ps) ≡ sources_from start hs ++ sources_from (in_from start hs) ps
sources-append [] ps start = refl
sources-append (Plain n ∷ hs) ps start = ap (λ (xs : List Source). plain_sources start n ++ xs) (sources-append hs ps (start + n))
    ∙ sym (append_assoc (plain_sources start n) (sources_from (start + n) hs) (sources_from (in_from (start + n) hs) ps))
sources-append (Changed unit image ∷ hs) ps start = ap (λ (xs : List Source). map Written image ++ xs) (sources-append hs ps (start + unit))
    ∙ sym (append_assoc (map Written image) (sources_from (start + unit) hs) (sources_from (in_from (start + unit) hs) ps))

front_part : (xs ys : List Source) (lo hi : ℕ) → lo ≤ hi → hi ≤ length xs → take (hi - lo) (drop lo (xs ++ ys)) ≡ take (hi - lo) (drop lo xs)
front_part xs ys lo hi l h = ap (take (hi - lo)) (drop-append-le lo xs ys (omega arith))
    ∙ take-append-le (hi - lo) (drop lo xs) ys (omega (arith, length-drop lo xs))

-- what is copied, and needed, of the front of pushes is no matter of those that follow
copied-front : (hs ps qs : List Push) (lo hi start : ℕ) (octets : List ℕ) → lo ≤ hi → hi ≤ end_from 0 hs
    → copied (hs ++ ps) lo hi start octets ≡ copied (hs ++ qs) lo hi start octets
copied-front hs ps qs lo hi start octets l h =
    let n : 0 + length (sources_from 0 hs) ≡ end_from 0 hs = length-sources_from 0 0 hs in
    ap (map (resolve start octets))
    (ap (λ (xs : List Source). take (hi - lo) (drop lo xs)) (sources-append hs ps 0)
    ∙ front_part (sources_from 0 hs) (sources_from (in_from 0 hs) ps) lo hi l (omega arith)
    ∙ sym (ap (λ (xs : List Source). take (hi - lo) (drop lo xs)) (sources-append hs qs 0)
    ∙ front_part (sources_from 0 hs) (sources_from (in_from 0 hs) qs) lo hi l (omega arith)))

needs-front : (hs ps qs : List Push) (lo hi b e : ℕ) → hi ≤ end_from 0 hs → NeedsOnly (hs ++ ps) lo hi b e → NeedsOnly (hs ++ qs) lo hi b e
needs-front hs ps qs lo hi b e h needs = λ q p from below is.
    let n : 0 + length (sources_from 0 hs) ≡ end_from 0 hs = length-sources_from 0 0 hs in
    let same : slice_get (sources_from 0 (hs ++ ps)) q ≡ slice_get (sources_from 0 (hs ++ qs)) q =
    ap (λ (xs : List Source). slice_get xs q) (sources-append hs ps 0)
    ∙ slice_get-append_left (sources_from 0 hs) (sources_from (in_from 0 hs) ps) q (omega arith)
    ∙ sym (ap (λ (xs : List Source). slice_get xs q) (sources-append hs qs 0)
    ∙ slice_get-append_left (sources_from 0 hs) (sources_from (in_from 0 hs) qs) q (omega arith)) in
    needs q p from below (same ∙ is)

-- what of a rest is due is all of it or nothing
rest_cases : (m : Meaning) (ended : Bool) (r : List ℕ) → (due_rest m ended r ≡ r) ⊎ (due_rest m ended r ≡ [])
rest_cases m true r = inl refl
rest_cases m false r =
    elim (cases_Bool (is_held m r)) [ inl e ↦ inr (cond-true (is_held m r) [] r e) | inr e ↦ inl (cond-false (is_held m r) [] r e) ]

-- the pushes of all octets do for those that are due
all_pushes : (m : Meaning) (ended : Bool) (s : List ℕ) (lo hi start b : ℕ) (octets : List ℕ) → lo ≤ hi
    → hi ≤ end_from 0 (sent_pushes m ended (cut m s)) → NeedsOnly (sent_pushes m ended (cut m s)) lo hi b (in_from 0 (sent_pushes m ended (cut m s)))
    → in_from 0 (sent_pushes m ended (cut m s)) ≤ length s → let all = pushes_of m (cut m s) (cut m s).rest in
    (copied (sent_pushes m ended (cut m s)) lo hi start octets ≡ copied all lo hi start octets) × NeedsOnly all lo hi b (length s)
all_pushes m ended s lo hi start b octets l h needs short =
    let us : List Push = map (push_of m) (cut m s).units in
    let wide : NeedsOnly (sent_pushes m ended (cut m s)) lo hi b (length s) =
    λ q p from below is. (let x = needs q p from below is in (x.0, omega (arith, x.1))) in
    elim (rest_cases m ended (cut m s).rest) [
      | inl whole ↦
          let same : sent_pushes m ended (cut m s) ≡ pushes_of m (cut m s) (cut m s).rest = ap (pushes_of m (cut m s)) whole in
          (ap (λ (ps : List Push). copied ps lo hi start octets) same, subst (λ (ps : List Push). NeedsOnly ps lo hi b (length s)) same wide)
      | inr none ↦
          let end : end_from 0 (sent_pushes m ended (cut m s)) ≡ end_from 0 (map (push_of m) (cut m s).units) =
          ap (λ (r : List ℕ). end_from 0 (pushes_of m (cut m s) r)) none ∙ end_from-append 0 (map (push_of m) (cut m s).units) (Plain 0 ∷ [])
          ∙ omega arith in (
            copied-front (map (push_of m) (cut m s).units) (Plain (length (due_rest m ended (cut m s).rest)) ∷ [])
                (Plain (length (cut m s).rest) ∷ []) lo hi start octets l (omega (arith, end)),
            needs-front (map (push_of m) (cut m s).units) (Plain (length (due_rest m ended (cut m s).rest)) ∷ [])
                (Plain (length (cut m s).rest) ∷ []) lo hi b (length s) (omega (arith, end)) wide,
          )
    ]

pub image_copied : (m : Meaning) → IsLawful m → (h : CompactSender) (s : List ℕ) (lo hi : ℕ) → Keeps m h s → h.acked ≤ h.ledger.octets_out
    → recent_back h ≤ octets_kept h → fore_by h.ledger (recent_back h) ≤ lo → lo ≤ hi → hi ≤ h.ledger.octets_out
    → copied_by h.ledger lo hi (recent_start h) h.recent ≡ slice_range (image m s) lo hi
image_copied m law h s lo hi k up inside from order within =
    let ps : List Push = sent_pushes m h.ended (cut m s) in
    let q : min h.acked h.ledger.octets_out ≡ h.acked = omega arith in
    let st : StandsFor h.ledger (sent_pushes m h.ended (cut m s)) h.acked =
    subst (λ (n : ℕ). StandsFor h.ledger (sent_pushes m h.ended (cut m s)) n) q k.ledger in
    let b : recent_back h ≡ back_of (sent_pushes m h.ended (cut m s)) h.acked = cond-true _ _ _ (le-leb h.acked h.ledger.octets_out up)
    ∙ back_walk-kept h.ledger (sent_pushes m h.ended (cut m s)) h.acked h.acked st (omega arith) in
    let at : back m h.ended s h.acked ≡ recent_back h = back-sent m law h.ended s h.acked (omega (arith, due_is m h s k)) ∙ sym b in
    let low : fore_of (sent_pushes m h.ended (cut m s)) (back_of (sent_pushes m h.ended (cut m s)) h.acked) ≤ lo =
    omega (
      arith,
      from,
      ap (fore_by h.ledger) b,
      fore_walk-kept h.ledger (sent_pushes m h.ended (cut m s)) h.acked (back_of (sent_pushes m h.ended (cut m s)) h.acked) st (omega arith),
    ) in
    let n : octets_kept h ≡ length s = octets_are m h s k in
    let recent : h.recent ≡ drop (recent_back h) s = k.recent ∙ ap (λ (i : ℕ). drop i s) at in
    let len : length h.recent ≡ length s - recent_back h = ap length recent ∙ length-drop (recent_back h) s in
    let start : recent_start h ≡ recent_back h = omega (arith, len, n, inside) in
    let total : recent_start h + length h.recent ≡ length s = omega (arith, start, len, inside, n) in
    let needs = needs-above (sent_pushes m h.ended (cut m s)) lo hi (back_of (sent_pushes m h.ended (cut m s)) h.acked) low in
    let both =
    all_pushes m h.ended s lo hi (recent_start h) (back_of (sent_pushes m h.ended (cut m s)) h.acked) h.recent order
    (omega (arith, st.octets_out)) needs (omega (arith, st.octets_in, n)) in
    let part : IsPartAt s (recent_start h) h.recent =
    recent ∙ ap (λ (i : ℕ). drop i s) (sym start)
    ∙ sym (ap (λ (e : ℕ). slice_range s (recent_start h) e) total
    ∙ take_all (length s - recent_start h) (drop (recent_start h) s) (omega (arith, length-drop (recent_start h) s))) in
    let all : length s ≡ in_from 0 (pushes_of m (cut m s) (cut m s).rest) =
    sym (in_from-pushes m (cut m s) (cut m s).rest ∙ sym (length-append (flat_map (λ u. u) (cut m s).units) (cut m s).rest)
    ∙ ap length (cut_joined m s)) in
    let need : NeedsOnly (pushes_of m (cut m s) (cut m s).rest) lo hi (recent_start h) (recent_start h + length h.recent) =
    λ q p up below e. (let x = both.1 q p up below e in (omega (arith, x.0, start, b), omega (arith, x.1, total))) in
    copied_by-is h.ledger (sent_pushes m h.ended (cut m s)) h.acked lo hi (recent_start h) h.recent st low order within
    ∙ both.0
    ∙ copied-image (pushes_of m (cut m s) (cut m s).rest) lo hi (recent_start h) s h.recent all part need
    ∙ ap (λ (xs : List ℕ). slice_range xs lo hi) (joined-pushes m s)
