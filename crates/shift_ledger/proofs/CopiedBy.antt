-- The image octets that a ledger gives by what it keeps are those of the list of pushes.
use Rattle.std.proofs.Common.{◌≡◌, ◌≤◌, ◌+◌, ◌-◌, ℕ, true, false, List, [], ◌∷◌, length, get_or, refl, sym, ◌∙◌, ap, arith, inl, inr, nat_lt, Some, None, slice_index}
use Rattle.std.proofs.lemmas.List.FromFn.{get_or-map-range_with_len, length-map-range_with_len}
use Rattle.std.proofs.lemmas.Bool.{cases_lt, lt-ltb, le-ltb}
use Rattle.std.proofs.lemmas.Option.{same_Some}
use Rattle.dialogue.specs.Prelude.{Push}
use Rattle.shift_ledger.specs.Prelude.{copied_by, KeptUnit, Kept, StandsFor, fore_of, back_of, Source, Sent, Written, resolve, copied}
use Rattle.shift_ledger.specs.Answers.{octet_walk}
use Rattle.shift_ledger.proofs.SourceWalk.{source_walk, source_walk-none, source_walk-before, source_walk-in, source_walk-after, sent_before, sent_before-is, sent_before-none, source_walk-kept, source_at, copied_is}

sent_resolves : (n before start : ℕ) (octets : List ℕ) (x : Source) → sent_before n before ≡ Some x
    → slice_index octets (n - before - start) ≡ resolve start octets x
sent_resolves n before start octets x e =
    elim (cases_lt n before) [
      | inl past ↦ absurd (let none : None ≡ Some x = sym (sent_before-none n before past) ∙ e in cc)
      | inr within ↦ ap (resolve start octets) (same_Some (Sent (n - before)) x (sym (sent_before-is n before within) ∙ e))
    ]

octet_resolves : (us : List KeptUnit) (i o start : ℕ) (octets : List ℕ) (q : ℕ) (x : Source) → source_walk us i o q ≡ Some x
    → octet_walk us i o start octets q ≡ resolve start octets x
unfolding octet_walk
octet_resolves [] i o start octets q x e = sent_resolves i (o - q) start octets x (sym (source_walk-none i o q) ∙ e)
octet_resolves (u ∷ us) i o start octets q x e =
    elim (cases_lt q u.at) [
      | inl before ↦
          let t : nat_lt q u.at ≡ true = lt-ltb q u.at before in
          rw t (sent_resolves u.start (u.at - q) start octets x (sym (source_walk-before u us i o q before) ∙ e))
      | inr from ↦
          let t : nat_lt q u.at ≡ false = le-ltb q u.at from in
          elim (cases_lt q (u.at + length u.image)) [
            | inl inside ↦
                let s : nat_lt q (u.at + length u.image) ≡ true = lt-ltb q (u.at + length u.image) inside in
                rw (t, s) (ap (resolve start octets)
                (same_Some (Written (get_or u.image (q - u.at) 0)) x (sym (source_walk-in u us i o q from inside) ∙ e)))
            | inr after ↦
                let s : nat_lt q (u.at + length u.image) ≡ false = le-ltb q (u.at + length u.image) after in
                rw (t, s) (octet_resolves us i o start octets q x (sym (source_walk-after u us i o q after) ∙ e))
          ]
    ]

pub copied_by-is : (l : Kept) (h : List Push) (k lo hi start : ℕ) (octets : List ℕ) → StandsFor l h k → fore_of h (back_of h k) ≤ lo → lo ≤ hi
    → hi ≤ l.octets_out → copied_by l lo hi start octets ≡ copied h lo hi start octets
copied_by-is l h k lo hi start octets st from order within =
    let f : ℕ → ℕ = octet_walk l.changed l.octets_in l.octets_out start octets in
    let n : length (copied_by l lo hi start octets) ≡ hi - lo = length-map-range_with_len f lo (hi - lo) in
    copied_is h lo hi start octets (copied_by l lo hi start octets) (omega arith) (omega (arith, st.octets_out)) (λ j below.
    get_or-map-range_with_len f lo (hi - lo) j (lo + j) 0 (omega arith) refl
    ∙ octet_resolves l.changed l.octets_in l.octets_out start octets (lo + j) (source_at h (lo + j))
    (source_walk-kept l h k (lo + j) (Written 0) st (omega arith) (omega arith)))
