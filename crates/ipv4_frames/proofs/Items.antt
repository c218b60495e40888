-- A list whose first items are shown, so that fields at known places compute.
use Rattle.std.proofs.Common.{◌≡◌, ℕ, zero, suc, ◌≤◌, List, [], ◌∷◌, ◌++◌, get_or, length, drop, refl, ap, ◌∙◌, sym, arith}

-- so many items from a place
abbrev pub items : ℕ → ℕ → List ℕ → List ℕ
items place zero xs = []
items place (suc count) xs = get_or xs place 0 ∷ items (suc place) count xs

items_behind : (place count x : ℕ) (xs : List ℕ) → items (suc place) count (x ∷ xs) ≡ items place count xs
items_behind place zero x xs = refl
items_behind place (suc count) x xs = ap (λ more. get_or xs place 0 ∷ more) (items_behind (suc place) count x xs)

pub front_items : (count : ℕ) (xs : List ℕ) → count ≤ length xs → xs ≡ items 0 count xs ++ drop count xs
front_items zero xs long = refl
front_items (suc count) [] long = absurd (omega arith)
front_items (suc count) (x ∷ xs) long =
    ap (λ more. x ∷ more) (front_items count xs (omega arith) ∙ ap (λ front. front ++ drop count xs) (sym (items_behind 0 count x xs)))
