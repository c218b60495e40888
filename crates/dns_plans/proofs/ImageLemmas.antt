-- The images of units, by the list of their sender once what they name is entered.
use Rattle.std.proofs.Common.{◌≡◌, ℕ, Bool, false, List, [], ◌∷◌, ◌++◌, sym, ◌∙◌, ap, subst, append_assoc, map, Option, Some, None, unwrap_or, ◌||◌}
use Rattle.std.specs.Option.{option_or}
use Rattle.std.specs.List.{list_any}
use Rattle.std.proofs.lemmas.List.{map-append}
use Rattle.std.proofs.lemmas.List.Elements.{All-head, All-tail, All-nil, All-cons, All-append}
use Rattle.gate_base.specs.declared.address.Addr.{Addr}
use Rattle.dialogue.specs.Prelude.{Entry, AreImages, listed_image}
use Rattle.dialogue.specs.declared.learns.UnitImage.{UnitImage}
use Rattle.dialogue.proofs.ListedImages.{image_of_joined}
use Rattle.dns_stream.specs.Prelude.{dns_units, image_in}
use Rattle.gate_model.specs.Prelude.{grows_too_much}
use Rattle.dns_plans.specs.Prelude.{AreRead, unit_of, image_unit}
use Rattle.dns_plans.specs.Inside.Steps.{IsRead}
use Rattle.dns_plans.specs.declared.named.ReadUnit.{ReadUnit}

-- ## The image of an address by a list and what is new to it

pub image_of_first : (es new : List Entry) (address : ℕ) (image : Option Addr) → listed_image es address ≡ Some image
    → image_in (es ++ new) address ≡ image
image_of_first es new address image e =
    ap (λ o. unwrap_or o None) (image_of_joined es new address ∙ ap (λ o. option_or o (listed_image new address)) e)

pub image_of_new : (es new : List Entry) (address : ℕ) → listed_image es address ≡ None
    → image_in (es ++ new) address ≡ unwrap_or (listed_image new address) None
image_of_new es new address e = ap (λ o. unwrap_or o None) (image_of_joined es new address ∙ ap (λ o. option_or o (listed_image new address)) e)

-- ## All units

-- none of the units before the rest grows too much, and these are their images
pub record ImagedSoFar (es : List Entry) (units rest : List ReadUnit) (images : List UnitImage) : Type 0 where
  pub grows : list_any (grows_too_much es) (map unit_of units) ≡ list_any (grows_too_much es) (map unit_of rest)
  pub units_are : map unit_of units ≡ map image_unit images ++ map unit_of rest
  pub each : AreRead rest
  pub images_are : AreImages (dns_units es) images

pub first_read : (rest more : List ReadUnit) (one : ReadUnit) → rest ≡ one ∷ more → AreRead rest → IsRead one
first_read rest more one e each = All-head IsRead one more (subst AreRead e each)

pub images_on : (es : List Entry) (units rest more : List ReadUnit) (one : ReadUnit) (images after : List UnitImage) (image : UnitImage)
    → rest ≡ one ∷ more → ImagedSoFar es units rest images → false ≡ grows_too_much es (unit_of one) → after ≡ images ++ image ∷ []
    → image.unit.items ≡ unit_of one → image.image.items ≡ (dns_units es).image image.unit.items → ImagedSoFar es units more after
images_on es units rest more one images after image e w small is of right =
    let Right : UnitImage → Type 0 = λ one. one.image.items ≡ (dns_units es).image one.unit.items in
    record {
      grows = w.grows ∙ ap (λ us. list_any (grows_too_much es) (map unit_of us)) e
          ∙ ap (λ (b : Bool). b || list_any (grows_too_much es) (map unit_of more)) (sym small);
      units_are =
          w.units_are
          ∙ ap (λ us. map image_unit images ++ map unit_of us) e
          ∙ ap (λ (u : List ℕ). map image_unit images ++ u ∷ map unit_of more) (sym of)
          ∙ sym (append_assoc (map image_unit images) (map image_unit (image ∷ [])) (map unit_of more))
          ∙ ap (λ (us : List (List ℕ)). us ++ map unit_of more) (sym (map-append image_unit images (image ∷ [])) ∙ ap (map image_unit) (sym is));
      each = All-tail IsRead one more (subst AreRead e w.each);
      images_are =
          subst (AreImages (dns_units es)) (sym is)
          (All-append Right images (image ∷ []) w.images_are (All-cons Right image [] right (All-nil Right)));
    }
