-- A message without records: its one name is written as it stands.
use Rattle.std.proofs.Common.{◌≡◌, ℕ, ◌+◌, ◌<◌, ◌^◌, List, [], ◌∷◌, ◌++◌, length, refl, ap, ◌∙◌, sym, append_assoc, arith, Some, None, IfSome, append-nil}
use Rattle.byteorder.specs.Endian.{big_bytes}
use Rattle.dns_names.specs.Prelude.{spelled, Added}
use Rattle.dns_names.specs.Spelling.{spell}
use Rattle.dns_messages.specs.declared.message.Message.{Message}
use Rattle.dns_messages.specs.declared.message.Question.{Question}
use Rattle.dns_messages.specs.Inside.Suits.{HasNoRecords, QuestionFits, MessageFits}
use Rattle.dns_messages.specs.Writing.{spelling}

-- Where no label start is known before it, each label of a name is written, and the root octet behind them.
spell-first : (place : ℕ) (ls : List (List ℕ)) → Added.octets (spell [] place ls) ≡ spelled ls ++ 0 ∷ []
unfolding spell
spell-first place [] = refl
spell-first place (l ∷ ls) =
    ap (λ (o : List ℕ). length l ∷ (l ++ o)) (spell-first (place + 1 + length l) ls)
    ∙ ap (λ (o : List ℕ). length l ∷ o) (sym (append_assoc l (spelled ls) (0 ∷ [])))

-- the header, with so many questions and no records
abbrev header : Message → ℕ → List ℕ
header m count = big_bytes 2 m.id ++ (big_bytes 2 m.flags ++ (0 ∷ count ∷ 0 ∷ 0 ∷ 0 ∷ 0 ∷ 0 ∷ 0 ∷ []))

pub spelling-none : (m : Message) → HasNoRecords m → m.question ≡ None → spelling m ≡ header m 0
unfolding spelling
spelling-none m bare e = rw (e, bare.0, bare.1, bare.2) refl

pub spelling-some : (m : Message) (q : Question) → HasNoRecords m → m.question ≡ Some q → spelling m ≡ (header m 1 ++ spelled q.name) ++ 0
    ∷ (big_bytes 2 q.kind ++ big_bytes 2 q.class)
unfolding spelling
spelling-some m q bare e =
    let words = big_bytes 2 q.kind ++ big_bytes 2 q.class in
    let name = Added.octets (spell [] 12 q.name) in
    let whole : name ++ words ≡ spelled q.name ++ 0 ∷ words = ap (λ (o : List ℕ). o ++ words) (spell-first 12 q.name)
    ∙ append_assoc (spelled q.name) (0 ∷ []) words in
    rw (e, bare.0, bare.1, bare.2) (ap (λ (o : List ℕ). header m 1 ++ o) (append-nil (name ++ words) ∙ whole))

pub bare-fits : (m : Message) → HasNoRecords m → m.id < 2 ^ 16 → m.flags < 2 ^ 16 → IfSome m.question QuestionFits → MessageFits m
bare-fits m bare id flags question = record {
  id = id;
  flags = flags;
  question = question;
  answers_count = rw bare.0 (omega arith);
  authority_count = rw bare.1 (omega arith);
  additional_count = rw bare.2 (omega arith);
  answers = rw bare.0 tt;
  authority = rw bare.1 tt;
  additional = rw bare.2 tt;
}
