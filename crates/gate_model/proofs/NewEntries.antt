-- What is entered into a list, the new addresses first.
use Rattle.std.proofs.Common.{◌≡◌, ◌+◌, ℕ, Bool, true, false, not, ◌&&◌, ◌||◌, ◌==◌, if◌then◌else◌, List, [], ◌∷◌, ◌++◌, length, map, Option, None, option_map, refl, sym, ◌∙◌, ap, append_assoc, inl, inr, unwrap_or, find}
use Rattle.std.specs.Option.{option_or}
use Rattle.std.proofs.lemmas.Bool.{cases_Bool, eqb-true, true≢false}
use Rattle.std.proofs.lemmas.List.{append-nil, map-append, length-append, length-map}
use Rattle.std.proofs.lemmas.List.Folds.{list_any-append, find-append}
use Rattle.gate_base.specs.declared.address.Addr.{Addr}
use Rattle.binding_table.specs.Prelude.{is_among}
use Rattle.dialogue.specs.Prelude.{Entry, is_of, is_listed}
use Rattle.dns_stream.specs.Prelude.{image_in, image-stays}
use Rattle.gate_model.specs.Prelude.{enter, entered}
use Rattle.gate_model.specs.Lists.{is_new, unlisted_after, unlisted}
use Rattle.gate_model.proofs.Entering.{entered_more}

-- an address with what it is called
abbrev entry_of : (Addr → Option Addr) → Addr → Entry
entry_of image a = (a, image a)

listed_among : (image : Addr → Option Addr) (xs : List Addr) (a : Addr) → is_listed (map (entry_of image) xs) a.0 ≡ is_among xs a
listed_among image [] a = refl
listed_among image (x ∷ xs) a = ap (λ (b : Bool). x.0 == a.0 || b) (listed_among image xs a)

listed_either : (image : Addr → Option Addr) (es : List Entry) (earlier : List Addr) (a : Addr)
    → is_listed (es ++ map (entry_of image) earlier) a.0 ≡ (is_listed es a.0 || is_among earlier a)
listed_either image es earlier a = list_any-append (is_of a.0) es (map (entry_of image) earlier)
    ∙ ap (λ (b : Bool). is_listed es a.0 || b) (listed_among image earlier a)

-- one address more
enter_new : (image : Addr → Option Addr) (es : List Entry) (earlier : List Addr) (a : Addr)
    → enter image (es ++ map (entry_of image) earlier) a ≡ es ++ map (entry_of image) (if is_new es earlier a then earlier ++ a ∷ [] else earlier)
enter_new image es earlier a =
    ap (λ (b : Bool). if b then es ++ map (entry_of image) earlier else (es ++ map (entry_of image) earlier) ++ (a, image a) ∷ [])
    (listed_either image es earlier a)
    ∙ by_tests (is_listed es a.0) (is_among earlier a)
  where
    more : (es ++ map (entry_of image) earlier) ++ (a, image a) ∷ [] ≡ es ++ map (entry_of image) (earlier ++ a ∷ [])
    more = append_assoc es (map (entry_of image) earlier) ((a, image a) ∷ [])
        ∙ ap (λ (xs : List Entry). es ++ xs) (sym (map-append (entry_of image) earlier (a ∷ [])))

    by_tests : (x y : Bool)
        → (if x || y then es ++ map (entry_of image) earlier else (es ++ map (entry_of image) earlier) ++ (a, image a) ∷ []) ≡ es ++ map
        (entry_of image) (if not x && not y then earlier ++ a ∷ [] else earlier)
    by_tests true true = refl
    by_tests true false = refl
    by_tests false true = refl
    by_tests false false = more

entered_after : (image : Addr → Option Addr) (es : List Entry) (earlier names : List Addr)
    → entered image (es ++ map (entry_of image) earlier) names ≡ es ++ map (entry_of image) (unlisted_after es earlier names)
entered_after image es earlier [] = refl
entered_after image es earlier (a ∷ names) =
    ap (λ (xs : List Entry). entered image xs names) (enter_new image es earlier a)
    ∙ entered_after image es (if is_new es earlier a then earlier ++ a ∷ [] else earlier) names

pub entered_new : (image : Addr → Option Addr) (es : List Entry) (names : List Addr)
    → entered image es names ≡ es ++ map (λ a. (a, image a)) (unlisted es names)
entered_new image es names = ap (λ (xs : List Entry). entered image xs names) (sym (append-nil es)) ∙ entered_after image es [] names

pub entered_count : (image : Addr → Option Addr) (es : List Entry) (names : List Addr)
    → length (entered image es names) ≡ length es + length (unlisted es names)
entered_count image es names =
    ap length (entered_new image es names) ∙ length-append es (map (entry_of image) (unlisted es names))
    ∙ ap (λ (n : ℕ). length es + n) (length-map (unlisted es names) (entry_of image))

-- ## The images of what is entered

found_new : (image : Addr → Option Addr) (xs : List Addr) (n : ℕ) → is_listed (map (entry_of image) xs) n ≡ true
    → image_in (map (entry_of image) xs) n ≡ image (record { 0 = n })
found_new image [] n h = absurd (cc)
found_new image (x ∷ xs) n h =
    elim (cases_Bool (x.0 == n)) [
      | inl this ↦ rw this (ap (λ (k : ℕ). image (record { 0 = k })) (eqb-true x.0 n this))
      | inr that ↦ rw that (found_new image xs n (rw that at h))
    ]

none_in : (es : List Entry) (n : ℕ) → is_listed es n ≡ false → find (is_of n) es ≡ None
none_in [] n h = refl
none_in (e ∷ es) n h =
    elim (cases_Bool (is_of n e)) [
      | inl this ↦ absurd (let f : is_listed (e ∷ es) n ≡ true = rw this refl in true≢false (sym f ∙ h))
      | inr that ↦ rw that (none_in es n (rw that at h))
    ]

-- an address that is listed afterwards has its old image, or what it is called
pub entered_image : (image : Addr → Option Addr) (es : List Entry) (names : List Addr) (n : ℕ) → is_listed (entered image es names) n ≡ true
    → image_in (entered image es names) n ≡ (if is_listed es n then image_in es n else image (record { 0 = n }))
entered_image image es names n h =
    elim (cases_Bool (is_listed es n)) [
      | inl listed ↦
          let more = entered_more image es names in
          rw listed (ap (λ (xs : List Entry). image_in xs n) more.1 ∙ image-stays es more.0 n listed)
      | inr new ↦
          let is = entered_new image es names in
          let after : is_listed (map (entry_of image) (unlisted es names)) n ≡ true =
          sym (list_any-append (is_of n) es (map (entry_of image) (unlisted es names))
          ∙ ap (λ (b : Bool). b || is_listed (map (entry_of image) (unlisted es names)) n) new)
          ∙ ap (λ (xs : List Entry). is_listed xs n) (sym is) ∙ h in
          rw new (ap (λ (xs : List Entry). image_in xs n) is
          ∙ ap (λ (o : Option Entry). unwrap_or (option_map (λ entry. entry.1) o) None)
          (find-append (is_of n) es (map (entry_of image) (unlisted es names))
          ∙ ap (λ (o : Option Entry). option_or o (find (is_of n) (map (entry_of image) (unlisted es names)))) (none_in es n new))
          ∙ found_new image (unlisted es names) n after)
    ]
