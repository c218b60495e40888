-- A message that is cut is short.
use Rattle.std.proofs.Common.{ℕ, ◌+◌, ◌≤◌, List, [], ◌∷◌, ◌++◌, length, Option, Some, None, arith, IfSome, length-append}
use Rattle.std.proofs.lemmas.Option.{IfSome_then}
use Rattle.byteorder.specs.Endian.{big_bytes}
use Rattle.dns_names.specs.Prelude.{IsName, spelled, Start, Added, found, spell_by}
use Rattle.dns_names.specs.Spelling.{spell}
use Rattle.dns_messages.specs.declared.message.Question.{Question}
use Rattle.dns_messages.specs.declared.message.Message.{Message}
use Rattle.dns_messages.specs.Writing.{questions_written, spelling}
use Rattle.dns_gateway.specs.Replies.{cut}

-- a name is no longer than its labels and a root octet

spell_by-short : (o : Option ℕ) (place : ℕ) (l whole : List ℕ) (rest : Added) (n : ℕ) → length rest.octets ≤ n + 1
    → length (Added.octets (spell_by o place l whole rest)) ≤ 1 + length l + n + 1
spell_by-short None place l whole rest n le = omega (arith, length-append l rest.octets)
spell_by-short (Some to) place l whole rest n le = omega arith

spell-short : (starts : List Start) (place : ℕ) (ls : List (List ℕ)) → length (Added.octets (spell starts place ls)) ≤ length (spelled ls) + 1
unfolding spell
spell-short starts place [] = omega arith
spell-short starts place (l ∷ ls) =
    let h = spell_by-short (found starts (spelled (l ∷ ls))) place l (spelled (l ∷ ls)) (spell starts (place + 1 + length l) ls) (length (spelled ls))
    (spell-short starts (place + 1 + length l) ls) in
    omega (arith, h, length-append l (spelled ls))

question-short : (q : Option Question) (starts : List Start) (place n : ℕ) → IfSome q (λ q. length (spelled q.name) ≤ n)
    → length (Added.octets (questions_written q starts place)) ≤ n + 5
question-short None starts place n ok = omega arith
question-short (Some q) starts place n ok =
    let name = spell starts place q.name in
    omega (arith, spell-short starts place q.name, ok, length-append name.octets (big_bytes 2 q.kind ++ big_bytes 2 q.class))

pub cut-within : (m : Message) (n : ℕ) → IfSome m.question (λ q. length (spelled q.name) ≤ n) → length (spelling (cut m)) ≤ n + 17
unfolding spelling
cut-within m n ok =
    let q = questions_written m.question [] 12 in
    omega (arith, question-short m.question [] 12 n ok, length-append q.octets [])

pub cut-short : (m : Message) → IfSome m.question (λ q. IsName q.name) → length (spelling (cut m)) ≤ 512
cut-short m ok =
    let short : IfSome m.question (λ (q : Question). length (spelled q.name) ≤ 254) =
    IfSome_then m.question {P = λ (q : Question). IsName q.name} {Q = λ (q : Question). length (spelled q.name) ≤ 254} ok
    (λ q name. name.short) in
    omega (arith, cut-within m 254 short)
