-- What is entered into a list stays, and all that is entered is listed.
use Rattle.std.proofs.Common.{◌≡◌, ◌*◌, ℕ, Bool, true, false, List, [], ◌∷◌, ◌++◌, length, map, Option, Some, None, refl, sym, ◌∙◌, ap, subst, append_assoc, if◌then◌else◌, nat_lt, is_none, unwrap_or, append-nil}
use Rattle.std.specs.List.{flat_map, list_any, AllByRecursion}
use Rattle.std.proofs.lemmas.List.Folds.{list_any-append}
use Rattle.std.proofs.lemmas.Bool.{or_left, or_right, or_parts, eq-eqb}
use Rattle.gate_base.specs.declared.address.Addr.{Addr}
use Rattle.dialogue.specs.Prelude.{Entry, is_of, is_listed, AllListed}
use Rattle.dns_messages.specs.declared.message.Message.{Message}
use Rattle.dns_gateway.specs.Addresses.{message_addresses}
use Rattle.dns_stream.specs.Prelude.{message_in, addresses_of, unit_addresses, image_in, renamed, grows_by}
use Rattle.dns_stream.specs.Images.{if_small, image_with, image_by}
use Rattle.dns_stream.specs.Inside.Lawful.{images-stay}
use Rattle.gate_model.specs.Prelude.{enter, entered, is_bad, grows_too_much, IsRenamed}

address : ℕ → Addr
address number = record { 0 = number }

-- ## Lists grow at their ends

enter_more : (image : Addr → Option Addr) (es : List Entry) (a : Addr) → (more : List Entry) × (enter image es a ≡ es ++ more)
enter_more image es a = by_test (is_listed es a.0)
  where
    by_test : (b : Bool) → (more : List Entry) × ((if b then es else es ++ (a, image a) ∷ []) ≡ es ++ more)
    by_test true = ([], sym (append-nil es))
    by_test false = ((a, image a) ∷ [], refl)

pub entered_more : (image : Addr → Option Addr) (es : List Entry) (names : List Addr) → (more : List Entry) × (entered image es names ≡ es ++ more)
entered_more image es [] = ([], sym (append-nil es))
entered_more image es (a ∷ names) =
    let one = enter_more image es a in
    let rest = entered_more image (enter image es a) names in
    (one.0 ++ rest.0, rest.1 ∙ ap (λ (xs : List Entry). xs ++ rest.0) one.1 ∙ append_assoc es one.0 rest.0)

pub listed_more : (es more : List Entry) (n : ℕ) → is_listed es n ≡ true → is_listed (es ++ more) n ≡ true
listed_more es more n h = list_any-append (is_of n) es more ∙ or_left _ _ h

pub all_listed_more : (es more : List Entry) (ns : List ℕ) → AllListed es ns → AllListed (es ++ more) ns
all_listed_more es more [] h = tt
all_listed_more es more (n ∷ ns) h = (listed_more es more n h.0, all_listed_more es more ns h.1)

enter_lists : (image : Addr → Option Addr) (es : List Entry) (n : ℕ) → is_listed (enter image es (record { 0 = n })) n ≡ true
enter_lists image es n = by_test (is_listed es n) refl
  where
    by_test : (b : Bool) → is_listed es n ≡ b → is_listed (if b then es else es ++ (record { 0 = n }, image (record { 0 = n })) ∷ []) n ≡ true
    by_test true e = e
    by_test false e = list_any-append (is_of n) es ((record { 0 = n }, image (record { 0 = n })) ∷ []) ∙ or_right _ _ (or_left _ _ (eq-eqb n n refl))

stays_listed : (image : Addr → Option Addr) (es : List Entry) (names : List Addr) (n : ℕ) → is_listed es n ≡ true
    → is_listed (entered image es names) n ≡ true
stays_listed image es names n h = let m = entered_more image es names in ap (λ (xs : List Entry). is_listed xs n) m.1 ∙ listed_more es m.0 n h

pub entered_all : (image : Addr → Option Addr) (es : List Entry) (ns : List ℕ)
    → AllListed (entered image es (map (λ number. let one : Addr = record { 0 = number } in one) ns)) ns
entered_all image es [] = tt
entered_all image es (n ∷ ns) = (
  stays_listed image (enter image es (record { 0 = n })) (map (λ number. let one : Addr = record { 0 = number } in one) ns) n
      (enter_lists image es n),
  entered_all image (enter image es (record { 0 = n })) ns,
)

-- ## Units that are renamed

renamed_more : (es more : List Entry) (u : List ℕ) → IsRenamed es u → IsRenamed (es ++ more) u
renamed_more es more u r = record {
  message = r.message;
  holds = r.holds;
  listed = all_listed_more es more (message_addresses r.message) r.listed;
  image =
      let same = images-stay es more (message_addresses r.message) r.listed in
      ap (image_by (es ++ more) u) r.holds ∙ ap (λ (is : List (Option Addr)). image_with is u r.message) same ∙ sym (ap (image_by es u) r.holds)
      ∙ r.image ∙ ap (λ (is : List (Option Addr)). renamed is u r.message) (sym same);
}

pub all_renamed_more : (es more : List Entry) (us : List (List ℕ)) → AllByRecursion (IsRenamed es) us → AllByRecursion (IsRenamed (es ++ more)) us
all_renamed_more es more [] h = tt
all_renamed_more es more (u ∷ us) h = (renamed_more es more u h.0, all_renamed_more es more us h.1)

message_of : (o : Option Message) → is_none o ≡ false → (m : Message) × (o ≡ Some m)
message_of None e = absurd (cc)
message_of (Some m) e = (m, refl)

not_grown : (u image : List ℕ) → nat_lt (3 * length u) (2 * length image) ≡ false → unwrap_or (if_small u image) u ≡ image
not_grown u image e = rw e refl

one_renamed : (es : List Entry) (u : List ℕ) → AllListed es (unit_addresses u) → is_bad u ≡ false → grows_too_much es u ≡ false → IsRenamed es u
one_renamed es u listed good small =
    let m = message_of (message_in u) good in
    record {
      message = m.0;
      holds = m.1;
      listed = subst (λ (o : Option Message). AllListed es (addresses_of o)) m.1 listed;
      image =
          let no_more : grows_by (map (image_in es) (addresses_of (Some m.0))) u (Some m.0) ≡ false =
          ap (λ (o : Option Message). grows_by (map (image_in es) (addresses_of o)) u o) (sym m.1) ∙ small in
          ap (image_by es u) m.1 ∙ not_grown u (renamed (map (image_in es) (message_addresses m.0)) u m.0) no_more;
    }

listed_front : (es : List Entry) (xs ys : List ℕ) → AllListed es (xs ++ ys) → (AllListed es xs) × (AllListed es ys)
listed_front es [] ys h = (tt, h)
listed_front es (x ∷ xs) ys h = let r = listed_front es xs ys h.1 in ((h.0, r.0), r.1)

pub all_renamed : (es : List Entry) (us : List (List ℕ)) → AllListed es (flat_map unit_addresses us) → list_any is_bad us ≡ false
    → list_any (grows_too_much es) us ≡ false → AllByRecursion (IsRenamed es) us
all_renamed es [] listed good small = tt
all_renamed es (u ∷ us) listed good small =
    let l = listed_front es (unit_addresses u) (flat_map unit_addresses us) listed in
    let g = or_parts (is_bad u) (list_any is_bad us) good in
    let s = or_parts (grows_too_much es u) (list_any (grows_too_much es) us) small in
    (one_renamed es u l.0 g.0 s.0, all_renamed es us l.1 g.1 s.1)

pub listed_units : (es : List Entry) (us : List (List ℕ)) → AllByRecursion (IsRenamed es) us
    → AllByRecursion (λ u. AllListed es (unit_addresses u)) us
listed_units es [] h = tt
listed_units es (u ∷ us) h = (subst (λ (o : Option Message). AllListed es (addresses_of o)) (sym h.0.holds) h.0.listed, listed_units es us h.1)

-- each unit by itself
pub split_listed : (es : List Entry) (us : List (List ℕ)) → AllListed es (flat_map unit_addresses us)
    → AllByRecursion (λ u. AllListed es (unit_addresses u)) us
split_listed es [] h = tt
split_listed es (u ∷ us) h = let l = listed_front es (unit_addresses u) (flat_map unit_addresses us) h in (l.0, split_listed es us l.1)

pub listed_units_more : (es more : List Entry) (us : List (List ℕ)) → AllByRecursion (λ u. AllListed es (unit_addresses u)) us
    → AllByRecursion (λ u. AllListed (es ++ more) (unit_addresses u)) us
listed_units_more es more [] h = tt
listed_units_more es more (u ∷ us) h = (all_listed_more es more (unit_addresses u) h.0, listed_units_more es more us h.1)

pub all_append : {A : Type 0} (P : A → Type 0) (xs ys : List A) → AllByRecursion P xs → AllByRecursion P ys → AllByRecursion P (xs ++ ys)
all_append P [] ys h k = k
all_append P (x ∷ xs) ys h k = (h.0, all_append P xs ys h.1 k)
