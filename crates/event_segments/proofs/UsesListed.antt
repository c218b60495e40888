-- The uses of the addresses that a list renames, one after the other.
use Rattle.std.proofs.Common.{◌≡◌, ℕ, Bool, true, false, List, [], ◌∷◌, ◌++◌, if◌then◌else◌, is_some, refl, sym, ap, ◌∙◌}
use Rattle.std.proofs.lemmas.List.Sums.{fold-append}
use Rattle.gate_base.specs.declared.address.Addr.{Addr}
use Rattle.gate_base.specs.declared.side.Side.{Side}
use Rattle.binding_table.specs.Prelude.{Bindings, used, after_uses}
use Rattle.dialogue.specs.Prelude.{Entry}
use Rattle.gate_model.specs.Prelude.{renamed_in, uses_until}
use Rattle.gate_model.proofs.ListsKept.{uses_append}

renamed-append : (xs ys : List Entry) → renamed_in (xs ++ ys) ≡ renamed_in xs ++ renamed_in ys
renamed-append [] ys = refl
renamed-append (x ∷ xs) ys = by_image (is_some x.1) (renamed-append xs ys)
  where
    by_image : (b : Bool) → renamed_in (xs ++ ys) ≡ renamed_in xs ++ renamed_in ys
        → (if b then x.0 ∷ renamed_in (xs ++ ys) else renamed_in (xs ++ ys)) ≡ (if b then x.0 ∷ renamed_in xs else renamed_in xs) ++ renamed_in ys
    by_image true e = ap (λ (more : List Addr). x.0 ∷ more) e
    by_image false e = e

pub next_used : (table : Bindings) (side : Side) (until : ℕ) (xs : List Entry) (x : Entry)
    → after_uses (after_uses table (uses_until side until (renamed_in xs))) (uses_until side until (renamed_in (x ∷ []))) ≡ after_uses table
    (uses_until side until (renamed_in (xs ++ x ∷ [])))
next_used table side until xs x =
    sym (fold-append used table (uses_until side until (renamed_in xs)) (uses_until side until (renamed_in (x ∷ []))))
    ∙ ap (after_uses table)
    (sym (uses_append side until (renamed_in xs) (renamed_in (x ∷ []))) ∙ ap (uses_until side until) (sym (renamed-append xs (x ∷ []))))
