-- Writing one thing behind another.
use Rattle.std.proofs.Common.{◌≡◌, ℕ, ◌+◌, ◌≤◌, ◌<◌, ◌^◌, drop, get_or, List, [], ◌∷◌, ◌++◌, length, sym, ap, subst, ◌∙◌, append_assoc, arith, Result, Ok, Err}
use Rattle.std.proofs.lemmas.List.{length-append, drop_more}
use Rattle.byteorder.specs.Endian.{big_bytes}
use Rattle.dns_names.specs.Prelude.{Start, Text, Added, add, nothing}
use Rattle.dns_messages.specs.declared.message.Resource.{Resource}
use Rattle.dns_messages.specs.declared.message.Message.{Message}
use Rattle.dns_messages.specs.declared.stop.WriteStop.{WriteStop}
use Rattle.dns_messages.specs.declared.stop.WriteStop.TheVariants.{TooLong, OutOfMemory}
use Rattle.dns_messages.specs.Writing.{Writer, name, put, sized, content_written, resource_written, resources_written, header_written, questions_written, message_written, spelling, ◌⨟◌}
use Rattle.dns_messages.specs.Inside.Writers.{written, wrote, Stops, Writes}
use Rattle.dns_messages.proofs.Again.{spell-some}

wrote-then : (text : Text) (v w : Writer) → wrote (wrote text v) w ≡ wrote text (v ⨟ w)
wrote-then text v w =
    let x = written text v in
    let len : length (text.octets ++ x.octets) ≡ length text.octets + length x.octets = length-append text.octets x.octets in
    let y = w (text.starts ++ x.starts) (length text.octets + length x.octets) in
    ap (λ (k : ℕ). add (wrote text v) (w (text.starts ++ x.starts) k)) len
    ∙ ap (λ (o : List ℕ). record { octets = o; starts = (text.starts ++ x.starts) ++ y.starts }) (append_assoc text.octets x.octets y.octets)
    ∙ ap (λ (s : List Start). record { octets = text.octets ++ (x.octets ++ y.octets); starts = s }) (append_assoc text.starts x.starts y.starts)

-- ---- records one behind the other

-- So far some records were written, and the rest makes the whole.
pub record Left (t0 t : Text) (rest all : List Resource) : Type 0 where
  pub text : wrote t (resources_written rest) ≡ wrote t0 (resources_written all)

pub Left-stops : (s : WriteStop) (t0 t : Text) (r : Resource) (rest all : List Resource) → Left t0 t (r ∷ rest) all → Stops s t (resource_written r)
    → Stops s t0 (resources_written all)
Left-stops OutOfMemory t0 t r rest all p w = tt
Left-stops TooLong t0 t r rest all p w =
    let x = written t (resource_written r) in
    let y = resources_written rest (t.starts ++ x.starts) (length t.octets + length x.octets) in
    omega (
      arith,
      ap (λ (v : Text). length v.octets) p.text,
      length-append t.octets (x.octets ++ y.octets),
      length-append x.octets y.octets,
      length-append t0.octets (Added.octets (written t0 (resources_written all))),
      w,
    )

pub resources-item : (rs : List Resource) (i : ℕ) (r : Resource) → i < length rs → r ≡ get_or rs i r → drop i rs ≡ r ∷ drop (i + 1) rs
resources-item rs i r lt e = drop_more rs i r lt ∙ ap (λ (x : Resource). x ∷ drop (i + 1) rs) (sym e)

-- ---- steps behind each other, from what each call gave

then_wrote : (t u : Text) (v w : Writer) → u ≡ wrote t v → wrote u w ≡ wrote t (v ⨟ w)
then_wrote t u v w e = ap (λ (x : Text). wrote x w) e ∙ wrote-then t v w

four_wrote : (t0 t1 t2 t3 t4 : Text) (a b c d : Writer) → t1 ≡ wrote t0 a → t2 ≡ wrote t1 b → t3 ≡ wrote t2 c → t4 ≡ wrote t3 d
    → t4 ≡ wrote t0 (a ⨟ b ⨟ c ⨟ d)
four_wrote t0 t1 t2 t3 t4 a b c d ea eb ec ed =
    ed ∙ then_wrote t2 t3 c d ec ∙ then_wrote t1 t2 b (c ⨟ d) eb ∙ then_wrote t0 t1 a (b ⨟ c ⨟ d) ea

pub six_wrote : (t0 t1 t2 t3 t4 t5 t6 : Text) (a b c d e f : Writer) → t1 ≡ wrote t0 a → t2 ≡ wrote t1 b → t3 ≡ wrote t2 c → t4 ≡ wrote t3 d
    → t5 ≡ wrote t4 e → t6 ≡ wrote t5 f → t6 ≡ wrote t0 (a ⨟ b ⨟ c ⨟ d ⨟ e ⨟ f)
six_wrote t0 t1 t2 t3 t4 t5 t6 a b c d e f ea eb ec ed ee ef =
    four_wrote t2 t3 t4 t5 t6 c d e f ec ed ee ef ∙ then_wrote t1 t2 b (c ⨟ d ⨟ e ⨟ f) eb ∙ then_wrote t0 t1 a (b ⨟ c ⨟ d ⨟ e ⨟ f) ea

-- it is too long already with a part
stops : (s : WriteStop) (t u : Text) (v w : Writer) → u ≡ wrote t v → Stops s u w → Stops s t (v ⨟ w)
stops OutOfMemory t u v w eq st = tt
stops TooLong t u v w eq st =
    let x = written t v in
    let y = w (t.starts ++ x.starts) (length t.octets + length x.octets) in
    let len : length (t.octets ++ x.octets) ≡ length t.octets + length x.octets = length-append t.octets x.octets in
    let before : length u.octets ≡ length t.octets + length x.octets = ap (λ (z : Text). length z.octets) eq ∙ len in
    let same : length (Added.octets (written u w)) ≡ length y.octets = ap (λ (z : Text). length (Added.octets (written z w))) eq
    ∙ ap (λ (k : ℕ). length (Added.octets (w (t.starts ++ x.starts) k))) len in
    omega (arith, length-append x.octets y.octets)

then_writes : {X : Type 0} (r : Result X WriteStop) (t u new : Text) (v w : Writer) → u ≡ wrote t v → Writes r u new w → Writes r t new (v ⨟ w)
then_writes (Ok x) t u new v w e done = done ∙ then_wrote t u v w e
then_writes (Err s) t u new v w e done = stops s t u v w e done

-- the last step of five may have stopped
pub five_writes : {X : Type 0} (r : Result X WriteStop) (t0 t1 t2 t3 t4 t5 : Text) (a b c d e : Writer) → t1 ≡ wrote t0 a → t2 ≡ wrote t1 b
    → t3 ≡ wrote t2 c → t4 ≡ wrote t3 d → Writes r t4 t5 e → Writes r t0 t5 (a ⨟ b ⨟ c ⨟ d ⨟ e)
five_writes r t0 t1 t2 t3 t4 t5 a b c d e ea eb ec ed w =
    then_writes r t0 t1 t5 a (b ⨟ c ⨟ d ⨟ e) ea
    (then_writes r t1 t2 t5 b (c ⨟ d ⨟ e) eb (then_writes r t2 t3 t5 c (d ⨟ e) ec (then_writes r t3 t4 t5 d e ed w)))

-- ---- a whole message

pub spelling-wrote : (t u : Text) (m : Message) → t ≡ nothing → u ≡ wrote t (message_written m) → u.octets ≡ spelling m
unfolding spelling
spelling-wrote t u m e w = ap (λ (x : Text). x.octets) (w ∙ ap (λ (x : Text). wrote x (message_written m)) e)

pub spelling-long : (s : WriteStop) (t : Text) (m : Message) → t ≡ nothing → Stops s t (message_written m) → s ≡ TooLong
    → 2 ^ 16 ≤ length (spelling m)
unfolding spelling
spelling-long TooLong t m e w same =
    let h = subst (λ (x : Text). Stops TooLong x (message_written m)) e w in
    omega (arith, h)
spelling-long OutOfMemory t m e w same = absurd cc

abbrev failed : {X : Type 0} → WriteStop → Result X WriteStop
failed s = Err s

pub same_stop : {X : Type 0} (r : Result X WriteStop) (x y s : WriteStop) → r ≡ Err x → x ≡ y → r ≡ Err s → y ≡ s
same_stop {X} r x y s e f g =
    let h : failed {X = X} x ≡ failed {X = X} s = sym e ∙ g in
    let k : x ≡ s = cc in
    sym f ∙ k

-- ---- how long it is at least

abbrev IsAtLeast : ℕ → Writer → Type 0
IsAtLeast n w = (starts : List Start) (place : ℕ) → n ≤ length (Added.octets (w starts place))

then_least : (n k : ℕ) (v w : Writer) → IsAtLeast n v → IsAtLeast k w → IsAtLeast (n + k) (v ⨟ w)
then_least n k v w a b starts place =
    let x = v starts place in
    let y = w (starts ++ x.starts) (place + length x.octets) in
    omega (arith, a starts place, b (starts ++ x.starts) (place + length x.octets), length-append x.octets y.octets)

-- a record has an octet
resource-least : (r : Resource) → IsAtLeast (1 + 0) (resource_written r)
resource-least r =
    then_least 1 0 (name r.name)
    (put (big_bytes 2 r.kind) ⨟ put (big_bytes 2 r.class) ⨟ put (big_bytes 4 r.lifetime) ⨟ sized (content_written r.content))
    (λ starts place. spell-some starts place r.name) (λ starts place. omega arith)

resources-least : (rs : List Resource) → IsAtLeast (length rs) (resources_written rs)
resources-least [] starts place = omega arith
resources-least (r ∷ rs) starts place = let h = then_least (1 + 0) (length rs) (resource_written r) (resources_written rs) (resource-least r)
    (resources-least rs) starts place in omega (arith, h)

pub message-least : (m : Message) → length m.answers + length m.authority + length m.additional ≤ length (spelling m)
unfolding spelling
message-least m =
    let records = then_least (length m.answers) (length m.authority + length m.additional) (resources_written m.answers)
    (resources_written m.authority ⨟ resources_written m.additional) (resources-least m.answers)
    (then_least (length m.authority) (length m.additional) (resources_written m.authority) (resources_written m.additional)
    (resources-least m.authority) (resources-least m.additional)) in
    let body = then_least 0 (length m.answers + (length m.authority + length m.additional)) (questions_written m.question)
    (resources_written m.answers ⨟ resources_written m.authority ⨟ resources_written m.additional) (λ starts place. omega arith) records in
    let all = then_least 0 (0 + (length m.answers + (length m.authority + length m.additional))) (header_written m)
    (questions_written m.question ⨟ resources_written m.answers ⨟ resources_written m.authority ⨟ resources_written m.additional)
    (λ starts place. omega arith) body [] 0 in
    omega (arith, all)
