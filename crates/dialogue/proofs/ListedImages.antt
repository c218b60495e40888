-- The images that a list gives addresses.
use Rattle.std.proofs.Common.{◌≡◌, ℕ, List, [], ◌∷◌, ◌++◌, refl, ap, ◌∙◌, inl, inr, Option, Some, None, is_some}
use Rattle.std.specs.Option.{option_map, option_or}
use Rattle.std.proofs.lemmas.Bool.{cases_Bool}
use Rattle.std.proofs.lemmas.List.Folds.{find-append}
use Rattle.dialogue.specs.Prelude.{Entry, is_of, is_listed, listed_image}

-- a list gives an image to just the addresses of which it has an entry
pub image_of_listed : (entries : List Entry) (address : ℕ) → is_some (listed_image entries address) ≡ is_listed entries address
image_of_listed [] address = refl
image_of_listed (entry ∷ entries) address =
    elim (cases_Bool (is_of address entry)) [
      | inl t ↦ rw t refl
      | inr f ↦ rw f (image_of_listed entries address)
    ]

mapped_or : (o p : Option Entry) → option_map (λ (entry : Entry). entry.1) (option_or o p) ≡ option_or (option_map (λ (entry : Entry). entry.1) o)
    (option_map (λ (entry : Entry). entry.1) p)
mapped_or None p = refl
mapped_or (Some x) p = refl

-- of two lists that are joined, the first that has an entry gives the image
pub image_of_joined : (entries more : List Entry) (address : ℕ) → listed_image (entries ++ more) address ≡ option_or (listed_image entries address)
    (listed_image more address)
image_of_joined entries more address = ap (option_map (λ (entry : Entry). entry.1)) (find-append (is_of address) entries more) ∙ mapped_or _ _
