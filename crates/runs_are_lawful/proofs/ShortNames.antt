-- Messages of DNS over UDP that go on are no longer than a datagram may be.
use Rattle.std.proofs.Common.{◌≡◌, ◌≤◌, ◌+◌, ◌/◌, ◌%◌, ℕ, zero, suc, Bool, true, false, List, [], ◌∷◌, ◌++◌, length, Option, Some, None, refl, arith, length-append, length-drop, map, max, nat_lt, ◌==◌, ◌||◌, if◌then◌else◌, is_some, IfSome, decimal}
use Rattle.std.specs.List.{list_any}
use Rattle.std.specs.Fmt.{digits, digits_onto, digit_glyph}
use Rattle.std.proofs.lemmas.Bool.Decides.{nat_tests}
use Rattle.gate_base.specs.declared.address.Addr.{Addr}
use Rattle.gate_base.specs.declared.side.Side.{Side}
use Rattle.binding_table.specs.Prelude.{Bindings, image_after}
use Rattle.dns_names.specs.Prelude.{spelled_label, spelled, full_reverse, numbers, with_address}
use Rattle.dns_messages.specs.declared.message.Question.{Question}
use Rattle.dns_messages.specs.declared.message.Message.{Message}
use Rattle.dns_messages.specs.Reading.{message_at}
use Rattle.dns_messages.specs.Relation.{QuestionsAt}
use Rattle.dns_messages.specs.Writing.{spelling}
use Rattle.dns_messages.proofs.Exact.{message-is}
use Rattle.dns_gateway.proofs.Cutting.{cut-within}
use Rattle.dns_gateway.specs.Replies.{cut, reply_of}
use Rattle.dns_gateway.specs.Renaming.{name_to, image_of, question_renamed, message_renamed}
use Rattle.ipv4_frames.specs.Ipv4.{Datagram}
use Rattle.gate_model.specs.Prelude.{carried, message_in, named_in, reply_by, names_after}

-- ## Names

digits_short : (k n : ℕ) (acc : List ℕ) → length (digits_onto k 10 false n acc) ≤ k + length acc
digits_short zero n acc = omega arith
digits_short (suc k) n acc = by_last (n / 10 == 0) (digits_short k (n / 10) (digit_glyph false (n % 10) ∷ acc))
  where
    by_last : (last : Bool)
        → length (digits_onto k 10 false (n / 10) (digit_glyph false (n % 10) ∷ acc)) ≤ k + length (digit_glyph false (n % 10) ∷ acc)
        → length
        (if last then digit_glyph false (n % 10) ∷ acc else digits_onto k 10 false (n / 10) (digit_glyph false (n % 10) ∷ acc)) ≤ suc k + length acc
    by_last true h = omega arith
    by_last false h = omega (arith, h)

decimal_short : (n : ℕ) → length (decimal n) ≤ 64
unfolding digits
decimal_short n = digits_short 64 n []

numbers_short : (address : ℕ) → length (spelled (numbers address)) ≤ 260
numbers_short address =
    let d = decimal (address % 256) in
    let c = decimal (address / 256 % 256) in
    let b = decimal (address / 65536 % 256) in
    let a = decimal (address / 16777216) in
    omega (
      arith,
      decimal_short (address % 256),
      decimal_short (address / 256 % 256),
      decimal_short (address / 65536 % 256),
      decimal_short (address / 16777216),
      length-append (spelled_label d) (spelled_label c ++ (spelled_label b ++ (spelled_label a ++ []))),
      length-append (spelled_label c) (spelled_label b ++ (spelled_label a ++ [])),
      length-append (spelled_label b) (spelled_label a ++ []),
      length-append (spelled_label a) [],
    )

spelled_both : (xs ys : List (List ℕ)) → length (spelled (xs ++ ys)) ≡ length (spelled xs) + length (spelled ys)
spelled_both [] ys = omega arith
spelled_both (x ∷ xs) ys =
    omega (arith, length-append (spelled_label x) (spelled (xs ++ ys)), length-append (spelled_label x) (spelled xs), spelled_both xs ys)

address_short : (address : ℕ) (labels : List (List ℕ)) → length (spelled (with_address address labels)) ≤ 260 + length (spelled labels)
address_short address [] = omega arith
address_short address (d ∷ []) = omega arith
address_short address (d ∷ c ∷ []) = omega arith
address_short address (d ∷ c ∷ b ∷ []) = omega arith
address_short address (d ∷ c ∷ b ∷ a ∷ zone) =
    omega (
      arith,
      spelled_both (numbers address) zone,
      numbers_short address,
      length-append (spelled_label d) (spelled (c ∷ b ∷ a ∷ zone)),
      length-append (spelled_label c) (spelled (b ∷ a ∷ zone)),
      length-append (spelled_label b) (spelled (a ∷ zone)),
      length-append (spelled_label a) (spelled zone),
    )

name_short : (image : Option Addr) (labels : List (List ℕ)) → length (spelled (name_to image labels)) ≤ 260 + length (spelled labels)
name_short None labels = omega arith
name_short (Some image) labels = address_short image.0 labels

-- ## Messages that are cut

question_small : (images : List (Option Addr)) (q : Option Question) → IfSome q (λ q. length (spelled q.name) ≤ 254)
    → IfSome (question_renamed images q) (λ q. length (spelled q.name) ≤ 514)
question_small images None h = tt
question_small images (Some q) h = omega (arith, h, name_short (image_of (full_reverse q.name) images 0) q.name)

asked_small : (o : List ℕ) (q : Option Question) (count after : ℕ) → QuestionsAt o 12 q count after → IfSome q (λ q. length (spelled q.name) ≤ 254)
asked_small o None count after h = tt
asked_small o (Some q) count after h = h.1.name.short

message_small : (o : List ℕ) (m : Message) → message_at o ≡ Some m → IfSome m.question (λ q. length (spelled q.name) ≤ 254)
message_small o m e = let is = message-is o m e in asked_small o m.question is.asked is.p is.question

reply_by_tests : (m : Message) (incoming : ℕ) (far out : Bool) → nat_lt 65535 (length (spelling m)) ≡ out → length (spelling (cut m)) ≤ 66000
    → length (if far || out then spelling (cut m) else spelling m) ≤ 66000
reply_by_tests m incoming true out e short = short
reply_by_tests m incoming false true e short = short
reply_by_tests m incoming false false e short = grind (arith, nat_tests)

reply_long : (m : Message) (incoming : ℕ) → length (spelling (cut m)) ≤ 66000 → length (reply_of m incoming) ≤ 66000
reply_long m incoming short =
    reply_by_tests m incoming (nat_lt (max 512 incoming) (length (spelling m))) (nat_lt 65535 (length (spelling m))) refl short

names_long : (images : List (Option Addr)) (octets : List ℕ) (o : Option Message) → message_at octets ≡ o → length octets ≤ 65535
    → length (reply_by images octets o) ≤ 66000
names_long images octets None e few = omega (arith, few)
names_long images octets (Some m) e few = by_images (list_any is_some images)
  where
    by_images : (some : Bool) → length (if some then reply_of (message_renamed images m) (length octets) else octets) ≤ 66000
    by_images false = omega (arith, few)
    by_images true =
        let short = cut-within (message_renamed images m) 514 (question_small images m.question (message_small octets m e)) in
        reply_long (message_renamed images m) (length octets) (omega (arith, short))

pub names_short : (table after : Bindings) (side : Side) (d : Datagram) → length d.payload ≤ 65535 → length (names_after table after side d) ≤ 66000
names_short table after side d few =
    names_long (map (image_after table after side) (named_in (message_in d))) (carried d) (message_in d) refl
    (omega (arith, few, length-drop 8 d.payload))
