-- A list with a part written over.
use Rattle.std.proofs.Common.{◌≡◌, ℕ, ◌+◌, ◌-◌, ◌<◌, ◌≤◌, List, ◌++◌, take, drop, length, get_or, refl, ap, ◌∙◌, arith, length-append, length-drop}
use Rattle.std.proofs.lemmas.List.{get_or_append_left, get_or-append_right, get_or-take, get_or-drop, length-take-le, take-append-le, take-take}

-- a part from a place on up to another
abbrev pub splice : {X : Type 0} → List X → ℕ → ℕ → List X → List X
splice xs place to ys = take place xs ++ (ys ++ drop to xs)

pub length-splice : {X : Type 0} (xs : List X) (place to : ℕ) (ys : List X) → place + length ys ≡ to → to ≤ length xs
    → length (splice xs place to ys) ≡ length xs
length-splice xs place to ys ends within =
    length-append (take place xs) (ys ++ drop to xs)
    ∙ omega (arith, length-take-le place xs (omega arith), length-append ys (drop to xs), length-drop to xs)

pub splice-before : {X : Type 0} (xs : List X) (place to : ℕ) (ys : List X) (i : ℕ) (d : X) → place ≤ length xs → i < place
    → get_or (splice xs place to ys) i d ≡ get_or xs i d
splice-before xs place to ys i d within below =
    get_or_append_left (take place xs) (ys ++ drop to xs) d i (omega (arith, length-take-le place xs within)) ∙ get_or-take place xs i d below

pub splice-inside : {X : Type 0} (xs : List X) (place to : ℕ) (ys : List X) (i : ℕ) (d : X) → place ≤ length xs → place ≤ i → i < place + length ys
    → get_or (splice xs place to ys) i d ≡ get_or ys (i - place) d
splice-inside xs place to ys i d within from below =
    get_or-append_right (take place xs) (ys ++ drop to xs) place i d (length-take-le place xs within) from
    ∙ get_or_append_left ys (drop to xs) d (i - place) (omega arith)

pub splice-behind : {X : Type 0} (xs : List X) (place to : ℕ) (ys : List X) (i : ℕ) (d : X) → place + length ys ≡ to → to ≤ length xs → to ≤ i
    → get_or (splice xs place to ys) i d ≡ get_or xs i d
splice-behind xs place to ys i d ends within past =
    let place_in : place ≤ length xs = omega arith in
    let there : to + (i - place - length ys) ≡ i = omega arith in
    get_or-append_right (take place xs) (ys ++ drop to xs) place i d (length-take-le place xs place_in) (omega arith)
    ∙ get_or-append_right ys (drop to xs) (length ys) (i - place) d refl (omega arith)
    ∙ get_or-drop to xs (i - place - length ys) d
    ∙ ap (λ n. get_or xs n d) there

-- what stands in front stays
pub front-splice : {X : Type 0} (xs : List X) (front place to : ℕ) (ys : List X) → front ≤ place → place ≤ length xs
    → take front (splice xs place to ys) ≡ take front xs
front-splice xs front place to ys before within =
    take-append-le front (take place xs) (ys ++ drop to xs) (omega (arith, length-take-le place xs within)) ∙ take-take front place xs before
