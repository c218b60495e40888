-- Octets that are a head and what stands behind it.
use Rattle.std.proofs.Common.{◌≡◌, ◌≤◌, ℕ, Bool, true, ◌&&◌, List, ◌++◌, length, take, drop, sym, ◌∙◌, ap, arith, nat_lt, nat_le, bytes_eq, take-append-drop}
use Rattle.std.proofs.lemmas.Bool.Decides.{nat_tests, same_from_decides}
use Rattle.std.proofs.Math.Seq.{take-append_seam, drop-append_seam}
use Rattle.std.proofs.lemmas.Bool.{and_parts, and_from}
use Rattle.std.proofs.lemmas.Slice.Eq.{bytes_eq-Decides}

pub front_is : (o h d : List ℕ) → (bytes_eq (take (length h) o) h && bytes_eq (drop (length h) o) d) ≡ bytes_eq o (h ++ d)
front_is o h d =
    same_from_decides {P = (o ≡ h ++ d)} (bytes_eq (take (length h) o) h && bytes_eq (drop (length h) o) d) (bytes_eq o (h ++ d)) (
      (λ e.
          let p = and_parts (bytes_eq (take (length h) o) h) (bytes_eq (drop (length h) o) d) e in
          sym (take-append-drop (length h) o) ∙ ap (λ (x : List ℕ). x ++ drop (length h) o) ((bytes_eq-Decides (take (length h) o) h).0 p.0)
          ∙ ap (λ (x : List ℕ). h ++ x) ((bytes_eq-Decides (drop (length h) o) d).0 p.1)),
      (λ q.
          and_from (bytes_eq (take (length h) o) h) (bytes_eq (drop (length h) o) d)
          ((bytes_eq-Decides (take (length h) o) h).1 (ap (take (length h)) q ∙ take-append_seam h d))
          ((bytes_eq-Decides (drop (length h) o) d).1 (ap (drop (length h)) q ∙ drop-append_seam h d))),
    )
    (bytes_eq-Decides o (h ++ d))

-- by the parts
pub front_by : (o h d f r : List ℕ) (a b res : Bool) → f ≡ take (length h) o → r ≡ drop (length h) o → a ≡ bytes_eq f h → b ≡ bytes_eq r d
    → res ≡ (a && b) → res ≡ bytes_eq o (h ++ d)
front_by o h d f r a b res is_front is_rest one two both_are =
    both_are
    ∙ ap (λ (x : Bool). x && b) (one ∙ ap (λ (x : List ℕ). bytes_eq x h) is_front)
    ∙ ap (λ (x : Bool). bytes_eq (take (length h) o) h && x) (two ∙ ap (λ (x : List ℕ). bytes_eq x d) is_rest)
    ∙ front_is o h d

-- the size of a piece that may be
pub within_is : (size limit n all : ℕ) → (nat_lt 0 size && (nat_le size limit && nat_le n all)) ≡ true → (size ≤ limit) × (n ≤ all)
within_is size limit n all e =
    let one = and_parts (nat_lt 0 size) (nat_le size limit && nat_le n all) e in
    let two = and_parts (nat_le size limit) (nat_le n all) one.1 in
    let few : size ≤ limit = let t = two.0 in grind (arith, nat_tests) in
    let most : n ≤ all = let t = two.1 in grind (arith, nat_tests) in
    (few, most)
