-- Units keep the laws of a dialogue that learns. Lemmas, which stand here since an impl cites them for its laws.
use Rattle.std.proofs.Common.{◌≡◌, ◌≤◌, ◌+◌, ◌*◌, ℕ, Bool, true, false, List, [], ◌∷◌, ◌++◌, length, refl, sym, ◌∙◌, ap, arith, inl, inr}
use Rattle.std.specs.Prelude.{Option, Some, None, nat_lt, map, unwrap_or, option_map, is_some, if◌then◌else◌}
use Rattle.gate_base.specs.Prelude.{◌>>=◌}
use Rattle.std.specs.List.{find, list_any}
use Rattle.std.specs.Option.{option_or}
use Rattle.std.proofs.lemmas.List.Folds.{find-append}
use Rattle.std.proofs.lemmas.Bool.{cases_lt, cases_Bool, lt-ltb, le-ltb}
use Rattle.gate_base.specs.declared.address.Addr.{Addr}
use Rattle.dialogue.specs.Prelude.{IsLawful, HoldsAtMost, Entry, is_of, is_listed, AllListed, IsLearning}
use Rattle.dns_messages.specs.declared.message.Message.{Message}
use Rattle.dns_messages.specs.Reading.{message_at}
use Rattle.dns_gateway.specs.Addresses.{message_addresses}
use Rattle.dns_stream.specs.Units.{message_in, addresses_of, unit_addresses}
use Rattle.dns_stream.specs.Images.{image_in, renamed, if_small, image_with, image_by, dns_units}
use Rattle.dns_stream.specs.Inside.Ends.{within, alone, follows, rest-short}
use Rattle.dns_stream.specs.declared.messages.TheConstants.{LONGEST_STREAMED}

-- ---- a unit that doesn't bear

none-in-two : (b : Bool) → (if b then Some [] else None) >>= message_at ≡ None
unfolding message_at
none-in-two true = refl
none-in-two false = refl

no_message : (u : List ℕ) → nat_lt 2 (length u) ≡ false → message_in u ≡ None
no_message [] e = refl
no_message (high ∷ []) e = refl
no_message (high ∷ low ∷ []) e = none-in-two _
no_message (high ∷ low ∷ x ∷ u) e = absurd (let f : true ≡ false = sym (lt-ltb 2 (length (high ∷ low ∷ x ∷ u)) (omega arith)) ∙ e in cc)

kept : (entries : List Entry) (u : List ℕ) → nat_lt 2 (length u) ≡ false → image_by entries u (message_in u) ≡ u
kept entries u e = ap (λ m. image_by entries u m) (no_message u e)

-- ---- the size of an image

renamed-some : (images : List (Option Addr)) (u : List ℕ) (m : Message) → 1 ≤ length u → 1 ≤ length (renamed images u m)
unfolding renamed
renamed-some images u m some = from (list_any is_some images) refl
  where
    from : (b : Bool) → list_any is_some images ≡ b → 1 ≤ length (renamed images u m)
    from true e = rw e (omega arith)
    from false e = rw e some

-- at least one octet, and at most one and a half times the unit's
record IsSmall (u image : List ℕ) : Type 0 where
  some : 1 ≤ length image
  small : 2 * length image ≤ 3 * length u

small-if : (u image : List ℕ) → 1 ≤ length u → 1 ≤ length image → IsSmall u (unwrap_or (if_small u image) u)
small-if u image own some =
    elim (cases_lt (3 * length u) (2 * length image)) [
      | inl l ↦ rw (lt-ltb (3 * length u) (2 * length image) l) (record { some = own; small = omega arith })
      | inr l ↦ rw (le-ltb (3 * length u) (2 * length image) l) (record { some = some; small = l })
    ]

size : (entries : List Entry) (u : List ℕ) (o : Option Message) → 1 ≤ length u → IsSmall u (image_by entries u o)
size entries u None own = record { some = own; small = omega arith }
size entries u (Some m) own =
    let images = map (image_in entries) (message_addresses m) in
    small-if u (renamed images u m) own (renamed-some images u m own)

pub dns_units-lawful : (entries : List Entry) → IsLawful (dns_units entries)
dns_units-lawful entries = record {
  within = within;
  alone = alone;
  follows = follows;
  released = λ r t h. absurd (let f : true ≡ false = h.free in cc);
  stays = λ r t h. absurd (let f : true ≡ false = h.free in cc);
  ends = λ r t h. absurd (let f : true ≡ false = h.free in cc);
  kept = λ u unit e. kept entries u e;
  some = λ u unit. (size entries u (message_in u) (within u (length u) unit).0).some;
  small = λ u unit. (size entries u (message_in u) (within u (length u) unit).0).small;
}

-- ---- more entries

found-stays : (o p : Option Entry) → is_some o ≡ true → option_or o p ≡ o
found-stays None p e = cc
found-stays (Some x) p e = refl

listed-found : (entries : List Entry) (address : ℕ) → is_listed entries address ≡ true → is_some (find (is_of address) entries) ≡ true
listed-found [] address e = cc
listed-found (entry ∷ entries) address e =
    elim (cases_Bool (is_of address entry)) [
      | inl t ↦ rw t refl
      | inr f ↦ rw f (listed-found entries address (rw f at e))
    ]

pub image-stays : (entries more : List Entry) (address : ℕ) → is_listed entries address ≡ true
    → image_in (entries ++ more) address ≡ image_in entries address
image-stays entries more address e =
    ap (λ o. unwrap_or (option_map (λ entry. entry.1) o) None)
    (find-append (is_of address) entries more ∙ found-stays _ _ (listed-found entries address e))

pub images-stay : (entries more : List Entry) (addresses : List ℕ) → AllListed entries addresses → map (image_in (entries ++ more)) addresses
    ≡ map (image_in entries) addresses
images-stay entries more [] listed = refl
images-stay entries more (a ∷ addresses) listed =
    ap (λ i. i ∷ map (image_in (entries ++ more)) addresses) (image-stays entries more a listed.0)
    ∙ ap (λ is. image_in entries a ∷ is) (images-stay entries more addresses listed.1)

unit-stays : (entries more : List Entry) (u : List ℕ) (o : Option Message) → AllListed entries (addresses_of o)
    → image_by (entries ++ more) u o ≡ image_by entries u o
unit-stays entries more u None listed = refl
unit-stays entries more u (Some m) listed = ap (λ images. image_with images u m) (images-stay entries more (message_addresses m) listed)

pub dns_units-learning : IsLearning unit_addresses dns_units
dns_units-learning = record {
  first_end = λ es fs s. refl;
  holds = λ es fs r. refl;
  bears = λ es fs u. refl;
  image = λ es more u listed. unit-stays es more u (message_in u) listed;
}

pub rests-short : (entries : List Entry) → HoldsAtMost (dns_units entries) (LONGEST_STREAMED + 1)
rests-short entries = λ r rest held. rest-short r rest
