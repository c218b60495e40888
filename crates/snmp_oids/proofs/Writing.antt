-- Octets written one behind another.
use Rattle.std.proofs.Common.{◌≡◌, ℕ, ◌+◌, ◌≤◌, List, [], ◌++◌, take, drop, length, refl, ap, ◌∙◌, arith, append_assoc, append-nil, length-append, take-take, sym, ◌-◌, if◌then◌else◌, ne_eqb}
use Rattle.std.proofs.lemmas.List.{length-take-le, take_at, drop_at, drop-drop, take-append-le}
use Rattle.std.proofs.Math.Seq.{drop-append-add}
use Rattle.snmp_oids.specs.Elements.{head_for, shortest}
use Rattle.snmp_oids.specs.Inside.Written.{with_octets}

past : (xs rest : List ℕ) (n : ℕ) → drop (length xs + n) (xs ++ rest) ≡ drop n rest
past xs rest n = drop-append-add xs rest n

pub written_twice : (place : ℕ) (first second old : List ℕ) → place + length first + length second ≤ length old
    → with_octets (place + length first) second (with_octets place first old) ≡ with_octets place (first ++ second) old
written_twice place first second old room =
    let front = take place old ++ first in
    let size : length front ≡ place + length first = omega (arith, length-append (take place old) first, length-take-le place old (omega arith)) in
    let kept = take_at front (drop (place + length first) old) (place + length first) size in
    let behind : drop (place + length first + length second) (front ++ drop (place + length first) old)
    ≡ drop (place + length (first ++ second)) old =
    ap (λ n. drop n (front ++ drop (place + length first) old)) (omega (arith, size))
    ∙ past front (drop (place + length first) old) (length second)
    ∙ drop-drop _ _ old
    ∙ ap (λ n. drop n old) (omega (arith, length-append first second))
    in
    ap (λ xs. xs ++ second ++ drop (place + length first + length second) (front ++ drop (place + length first) old)) kept
    ∙ ap (λ xs. front ++ second ++ xs) behind
    ∙ ap (λ xs. xs ++ drop (place + length (first ++ second)) old) (append_assoc (take place old) first second)

-- octets written behind others that were just written
pub written_after : (place end : ℕ) (first second old between new : List ℕ) → end ≡ place + length first
    → place + length first + length second ≤ length old → between ≡ with_octets place first old → new ≡ with_octets end second between
    → new ≡ with_octets place (first ++ second) old
written_after place end first second old between new ends room one two =
    two ∙ ap (λ n. with_octets n second between) ends ∙ ap (with_octets (place + length first) second) one ∙ written_twice place first second old room

-- octets written are what they were before those that they cover
front_kept : (place q : ℕ) (ys base : List ℕ) → place ≤ q → q ≤ length base → take place (with_octets q ys base) ≡ take place base
front_kept place q ys base before within =
    ap (take place) (append_assoc (take q base) ys (drop (q + length ys) base))
    ∙ take-append-le place (take q base) (ys ++ drop (q + length ys) base) (omega (arith, length-take-le q base within))
    ∙ take-take place q base before

behind_kept : (past_ q : ℕ) (ys base : List ℕ) → q + length ys ≤ past_ → q ≤ length base → drop past_ (with_octets q ys base) ≡ drop past_ base
behind_kept past_ q ys base behind within =
    let front = take q base ++ ys in
    let size = length-append (take q base) ys in
    let front_size = length-take-le q base within in
    ap (λ n. drop n (front ++ drop (q + length ys) base)) (omega arith)
    ∙ past front (drop (q + length ys) base) (past_ - q - length ys)
    ∙ drop-drop _ _ base
    ∙ ap (λ n. drop n base) (omega arith)

there : (q : ℕ) (ys base : List ℕ) → q ≤ length base → drop q (with_octets q ys base) ≡ ys ++ drop (q + length ys) base
there q ys base within =
    ap (drop q) (append_assoc (take q base) ys (drop (q + length ys) base))
    ∙ drop_at (take q base) (ys ++ drop (q + length ys) base) q (length-take-le q base within)

-- octets written over all that was written within them
pub overwritten : (place q : ℕ) (xs ys base : List ℕ) → place ≤ q → q + length ys ≤ place + length xs → q ≤ length base
    → with_octets place xs (with_octets q ys base) ≡ with_octets place xs base
overwritten place q xs ys base before behind within =
    ap (λ zs. zs ++ xs ++ drop (place + length xs) (with_octets q ys base)) (front_kept place q ys base before within)
    ∙ ap (λ zs. take place base ++ xs ++ zs) (behind_kept (place + length xs) q ys base behind within)

-- what was just written
pub read_back : (place count : ℕ) (xs base : List ℕ) → count ≡ length xs → place ≤ length base → take count (drop place (with_octets place xs base))
    ≡ xs
read_back place count xs base count_is within = ap (take count) (there place xs base within)
    ∙ take_at xs (drop (place + length xs) base) count (sym count_is)

pub head_other : (head : List ℕ) (old new : ℕ) → (new ≡ old → ⊥) → head_for head old new ≡ take 1 head ++ shortest new
head_other head old new apart = ap (λ b. if b then head else take 1 head ++ shortest new) (ne_eqb new old apart)

pub four_written : (place p q r : ℕ) (a b c d old old_a old_b old_c new : List ℕ) → place + length (a ++ (b ++ (c ++ (d ++ [])))) ≤ length old
    → old_a ≡ with_octets place a old → p ≡ place + length a → old_b ≡ with_octets p b old_a → q ≡ p + length b → old_c ≡ with_octets q c old_b
    → r ≡ q + length c → new ≡ with_octets r d old_c → new ≡ with_octets place (a ++ (b ++ (c ++ (d ++ [])))) old
four_written place p q r a b c d old old_a old_b old_c new room a_is p_is b_is q_is c_is r_is d_is =
    let sizes : length (a ++ (b ++ (c ++ (d ++ [])))) ≡ length a + length b + length c + length d = simp length-append (omega arith) in
    let ab = length-append a b in
    let abc = length-append (a ++ b) c in
    let two = written_after place p a b old old_a old_b p_is (omega arith) a_is b_is in
    let three = written_after place q (a ++ b) c old old_b old_c (omega arith) (omega arith) two c_is in
    let four = written_after place r (a ++ b ++ c) d old old_c new (omega arith) (omega arith) three d_is in
    let regrouped : ((a ++ b) ++ c) ++ d ≡ a ++ (b ++ (c ++ (d ++ []))) = simp (append_assoc, append-nil) refl in
    four ∙ ap (λ xs. with_octets place xs old) regrouped
