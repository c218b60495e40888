-- Lists that are read item by item.
use Rattle.std.proofs.Common.{◌≡◌, ◌<◌, ◌+◌, ℕ, List, [], ◌∷◌, ◌++◌, Ok, Err, drop, length, get_or, refl, subst, append_assoc}
use Rattle.toml.specs.Data.{Data, Items, item}
use Rattle.toml.specs.View.{view, items_view}
use Rattle.toml.specs.declared.value.Value.{Value}
use Rattle.toml.proofs.Views.{items_view-drop}
use Rattle.settings_file.specs.Document.{each}
use Rattle.settings_file.specs.Firsts.{◌>>=◌, Found}

-- with these in front
abbrev pub with_front : {A : Type 0} → List A → Found (List A) → Found (List A)
with_front front found = found >>= (λ rest. Ok (front ++ rest))

read_item : {A : Type 0} (read : ℕ → Data → Found A) (front : List A) (one : A) (n : ℕ) (datum : Data) (rest : Items) → read n datum ≡ Ok one
    → with_front front (each read n (item datum rest)) ≡ with_front (front ++ one ∷ []) (each read (n + 1) rest)
read_item {A} read front one n datum rest is = rw is (behind (each read (n + 1) rest))
  where
    behind : (others : Found (List A)) → with_front front (others >>= (λ all. Ok (one ∷ all))) ≡ with_front (front ++ one ∷ []) others
    behind (Ok all) = rw append_assoc refl
    behind (Err fault) = refl

-- what is read next stands behind what was read
pub read_next : {A : Type 0} (read : ℕ → Data → Found A) (front : List A) (one : A) (values : List Value) (i : ℕ) (value : Value) → i < length values
    → value ≡ get_or values i value → read (i + 1) (view value) ≡ Ok one → with_front front (each read (i + 1) (items_view (drop i values)))
    ≡ with_front (front ++ one ∷ []) (each read (i + 1 + 1) (items_view (drop (i + 1) values)))
read_next read front one values i value within is reads =
    rw (items_view-drop values i value within)
    (read_item read front one (i + 1) (view (get_or values i value)) (items_view (drop (i + 1) values))
    (subst (λ v. read (i + 1) (view v) ≡ Ok one) is reads))
