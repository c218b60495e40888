-- What was written is read again.
use Rattle.std.proofs.Common.{◌≡◌, ℕ, ◌+◌, ◌-◌, ◌≤◌, ◌<◌, ◌^◌, true, false, ltb, eqb, List, [], ◌∷◌, ◌++◌, length}
use Rattle.std.proofs.Common.{Option, Some, None, refl, sym, ap, subst, append_assoc, arith, inl, inr, add-zero}
use Rattle.std.proofs.Common.{◌==◌, if◌then◌else◌, IfSome, take_at, append-nil, length-append, length-drop}
use Rattle.byteorder.specs.Endian.{big_number, big_bytes}
use Rattle.std.specs.List.{AllByRecursion}
use Rattle.std.specs.Option.{option_len}
use Rattle.std.proofs.lemmas.Bool.{le-ltb, cases_Bool, eq-eqb}
use Rattle.dns_names.specs.Prelude.{IsName, spelled, name_at, Start, Added, spell_by, found}
use Rattle.dns_names.specs.Spelling.{spell}
use Rattle.dns_names.proofs.Writing.{Holds, Holds-front, Holds-back, AreKnown, AreKnown-later, AreKnown-append, spell-reads}
use Rattle.dns_names.proofs.Walks.{name_at-finds}
use Rattle.dns_messages.specs.declared.form.Form.{Form}
use Rattle.dns_messages.specs.declared.form.Form.TheVariants as form
use Rattle.dns_messages.specs.declared.message.Content.{Content}
use Rattle.dns_messages.specs.declared.message.Content.TheVariants.{Address, One, Soa, Two, Mx, Octets}
use Rattle.dns_messages.specs.declared.message.Question.{Question}
use Rattle.dns_messages.specs.declared.message.Resource.{Resource}
use Rattle.dns_messages.specs.declared.message.Message.{Message}
use Rattle.dns_messages.specs.Forms.{form_of, form_at}
use Rattle.dns_messages.specs.Suits.{Suits, ResourceSuits, MessageSuits}
use Rattle.dns_messages.specs.Inside.Suits.{ContentFits, ResourceFits, QuestionFits, MessageFits}
use Rattle.dns_messages.specs.Reading.{number_at, octets_at, content_by, resource_at, resources_at, question_at, questions_at, message_at}
use Rattle.dns_messages.specs.Writing.{put, join, behind_length, content_written, resource_written}
use Rattle.dns_messages.specs.Writing.{resources_written, questions_written, message_written, spelling}
use Rattle.dns_messages.proofs.Exact.{ends}

-- the label starts are known once more was written
abbrev pub Knows : List ℕ → List Start → ℕ → Added → Type 0
Knows m starts place x = AreKnown m (place + length x.octets) (starts ++ x.starts)

-- ---- the fields

put-knows : (m : List ℕ) (starts : List Start) (place : ℕ) (octets : List ℕ) → AreKnown m place starts
    → Knows m starts place (put octets starts place)
put-knows m starts place octets known = rw append-nil (AreKnown-later m place _ starts (omega arith) known)

join-knows : (m : List ℕ) (starts : List Start) (place : ℕ) (x y : Added) → Knows m (starts ++ x.starts) (place + length x.octets) y
    → Knows m starts place (join x y)
join-knows m starts place x y known =
    let place_is : place + length x.octets + length y.octets ≡ place + length (x.octets ++ y.octets) =
    omega (arith, length-append x.octets y.octets) in
    subst (λ (k : ℕ). AreKnown m k (starts ++ (x.starts ++ y.starts))) place_is
    (subst (λ (s : List Start). AreKnown m (place + length x.octets + length y.octets) s) (append_assoc starts x.starts y.starts) known)

pub record IsWide (w limit : ℕ) : Type 0 where
  pub len : (n : ℕ) → length (big_bytes w n) ≡ w
  pub again : (n : ℕ) (rest : List ℕ) → n < limit → big_number w (big_bytes w n ++ rest) ≡ n

pub wide16 : IsWide 2 (2 ^ 16)
wide16 = record { len = λ n. refl; again = λ n rest lt. omega arith }

pub wide32 : IsWide 4 (2 ^ 32)
wide32 = record { len = λ n. refl; again = λ n rest lt. omega arith }

octets-within : (m : List ℕ) (place : ℕ) (octets : List ℕ) → Holds m place octets → place + length octets ≤ length m
octets-within m place octets h = omega (arith, ap length h.is, length-drop place m, length-append octets h.rest, h.within)

pub number-again : (w limit : ℕ) → IsWide w limit → (m : List ℕ) (place n : ℕ) → n < limit → Holds m place (big_bytes w n)
    → number_at w m place ≡ Some (n, place + length (big_bytes w n))
number-again w limit wide m place n lt h =
    let len = wide.len n in
    let inside = octets-within m place (big_bytes w n) h in
    let test : ltb (length m) (place + w) ≡ false = le-ltb _ _ (omega arith) in
    rw (test, h.is, wide.again n h.rest lt, len) refl

pub octets-again : (m : List ℕ) (place : ℕ) (octets : List ℕ) → Holds m place octets
    → octets_at m place (length octets) ≡ Some (octets, place + length octets)
octets-again m place octets h =
    let test : ltb (length m) (place + length octets) ≡ false = le-ltb _ _ (octets-within m place octets h) in
    rw (test, h.is, take_at octets h.rest (length octets) refl) refl

pub record NameAgain (m : List ℕ) (starts : List Start) (place : ℕ) (ls : List (List ℕ)) : Type 0 where
  pub reads : name_at m place ≡ Some (ls, place + length (Added.octets (spell starts place ls)))
  pub knows : Knows m starts place (spell starts place ls)

pub name-again : (m : List ℕ) (starts : List Start) (place : ℕ) (ls : List (List ℕ)) → IsName ls → AreKnown m place starts
    → Holds m place (Added.octets (spell starts place ls)) → NameAgain m starts place ls
name-again m starts place ls ok known h =
    let back = spell-reads m starts place place ls known (omega arith) ok.labels h in
    record {
      reads = name_at-finds m place ls _ (record { stands = back.stands place (omega arith); short = ok.short });
      knows = AreKnown-append m _ starts (Added.starts (spell starts place ls)) (AreKnown-later m place _ starts (omega arith) known) back.known;
    }

-- ---- data

-- the form that a content has
abbrev pub form_for : Content → Form
form_for (Address a) = form.Address
form_for (One n) = form.One
form_for (Soa n m octets) = form.Soa
form_for (Two n m) = form.Two
form_for (Mx p n) = form.Mx
form_for (Octets octets) = form.Octets

abbrev Sized : Content → Type 0
Sized (Address a) = Unit {0}
Sized (One n) = Unit {0}
Sized (Soa n m octets) = length octets ≡ 20
Sized (Two n m) = Unit {0}
Sized (Mx p n) = Unit {0}
Sized (Octets octets) = Unit {0}

pub record ContentAgain (m : List ℕ) (starts : List Start) (place : ℕ) (x : Content) : Type 0 where
  pub reads : content_by (form_for x) m place (place + length (Added.octets (content_written x starts place))) ≡ Some x
  pub knows : Knows m starts place (content_written x starts place)

content-again : (m : List ℕ) (starts : List Start) (place : ℕ) (x : Content) → ContentFits x → Sized x → AreKnown m place starts
    → Holds m place (Added.octets (content_written x starts place)) → ContentAgain m starts place x
unfolding content_by
content-again m starts place (Address a) fits size known h =
    let n = number-again 4 (2 ^ 32) wide32 m place a.0 fits h in
    record {
      reads = rw (n, ends (place + length (big_bytes 4 a.0)) (place + length (big_bytes 4 a.0)) (Address a) refl) refl;
      knows = put-knows m starts place (big_bytes 4 a.0) known;
    }
content-again m starts place (One n) fits size known h =
    let a = name-again m starts place n fits known h in
    record { reads = rw (a.reads, ends _ _ (One n) refl) refl; knows = a.knows }
content-again m starts place (Two n k) fits size known h =
    let x = spell starts place n in
    let y = spell (starts ++ x.starts) (place + length x.octets) k in
    let a = name-again m starts place n fits.0 known (Holds-front m place x.octets y.octets h) in
    let b = name-again m (starts ++ x.starts) (place + length x.octets) k fits.1 a.knows (Holds-back m place x.octets y.octets h) in
    let end : place + length x.octets + length y.octets ≡ place + length (x.octets ++ y.octets) = omega (arith, length-append x.octets y.octets) in
    record { reads = rw (a.reads, b.reads, ends _ _ (Two n k) end) refl; knows = join-knows m starts place x y b.knows }
content-again m starts place (Soa n k octets) fits size known h =
    let x = spell starts place n in
    let y = spell (starts ++ x.starts) (place + length x.octets) k in
    let rest = Holds-back m place x.octets (y.octets ++ octets) h in
    let a = name-again m starts place n fits.0 known (Holds-front m place x.octets (y.octets ++ octets) h) in
    let b = name-again m (starts ++ x.starts) (place + length x.octets) k fits.1 a.knows (Holds-front m _ y.octets octets rest) in
    let o = octets-again m (place + length x.octets + length y.octets) octets (Holds-back m _ y.octets octets rest) in
    let o20 : octets_at m (place + length x.octets + length y.octets) 20 ≡ Some (octets, place + length x.octets + length y.octets + length octets) =
    subst (λ (c : ℕ). octets_at m (place + length x.octets + length y.octets) c
    ≡ Some (octets, place + length x.octets + length y.octets + length octets)) size o in
    let end : place + length x.octets + length y.octets + length octets ≡ place + length (x.octets ++ (y.octets ++ octets)) =
    omega (arith, length-append x.octets (y.octets ++ octets), length-append y.octets octets) in
    record {
      reads = rw (a.reads, b.reads, o20, ends _ _ (Soa n k octets) end) refl;
      knows = join-knows m starts place x (join y (put octets [] 0))
          (join-knows m (starts ++ x.starts) (place + length x.octets) y (put octets [] 0) (put-knows m _ _ octets b.knows));
    }
content-again m starts place (Mx p n) fits size known h =
    let x = big_bytes 2 p in
    let y = spell (starts ++ []) (place + length x) n in
    let k = put-knows m starts place x known in
    let a = number-again 2 (2 ^ 16) wide16 m place p fits.0 (Holds-front m place x y.octets h) in
    let b = name-again m (starts ++ []) (place + length x) n fits.1 k (Holds-back m place x y.octets h) in
    let end : place + length x + length y.octets ≡ place + length (x ++ y.octets) = omega (arith, length-append x y.octets) in
    record { reads = rw (a, b.reads, ends _ _ (Mx p n) end) refl; knows = join-knows m starts place (put x [] 0) y b.knows }
content-again m starts place (Octets octets) fits size known h =
    let o = octets-again m place octets h in
    let count : place + length octets - place ≡ length octets = omega arith in
    record { reads = rw (count, o, ends _ _ (Octets octets) refl) refl; knows = put-knows m starts place octets known }

-- ---- records

spell_by-some : (o : Option ℕ) (place : ℕ) (l whole : List ℕ) (rest : Added) → 1 ≤ length (Added.octets (spell_by o place l whole rest))
spell_by-some None place l whole rest = omega arith
spell_by-some (Some to) place l whole rest = omega arith

pub spell-some : (starts : List Start) (place : ℕ) (ls : List (List ℕ)) → 1 ≤ length (Added.octets (spell starts place ls))
unfolding spell
spell-some starts place [] = omega arith
spell-some starts place (l ∷ ls) = spell_by-some (found starts (spelled (l ∷ ls))) place l (spelled (l ∷ ls)) (spell starts (place + 1 + length l) ls)

form-by : (f g : Form) (count : ℕ) → f ≡ g → 1 ≤ count → (if count == 0 then form.Octets else f) ≡ g
form-by f g count e le =
    let some : eqb count 0 ≡ false = grind arith in
    rw some e

form-is : (k c : ℕ) (starts : List Start) (place : ℕ) (x : Content) → Suits (form_of k c) x
    → form_at k c (length (Added.octets (content_written x starts place))) ≡ form_for x
form-is k c starts place (Address a) ok = form-by (form_of k c) form.Address 4 ok (omega arith)
form-is k c starts place (One n) ok = form-by (form_of k c) form.One _ ok (spell-some starts place n)
form-is k c starts place (Two n m) ok =
    let x = spell starts place n in
    let y = spell (starts ++ x.starts) (place + length x.octets) m in
    form-by (form_of k c) form.Two _ ok (omega (arith, spell-some starts place n, length-append x.octets y.octets))
form-is k c starts place (Soa n m octets) ok =
    let x = spell starts place n in
    let y = spell (starts ++ x.starts) (place + length x.octets) m in
    form-by (form_of k c) form.Soa _ ok.0 (omega (arith, spell-some starts place n, length-append x.octets (y.octets ++ octets)))
form-is k c starts place (Mx p n) ok = form-by (form_of k c) form.Mx _ ok
    (omega (arith, length-append (big_bytes 2 p) (Added.octets (spell (starts ++ []) (place + 2) n))))
form-is k c starts place (Octets octets) (inl e) = rw e refl
form-is k c starts place (Octets octets) (inr e) =
    elim (cases_Bool (length octets == 0)) [
      | inl t ↦ rw t refl
      | inr f ↦ rw f e
    ]

sized-is : (f : Form) (x : Content) → Suits f x → Sized x
sized-is f (Address a) ok = tt
sized-is f (One n) ok = tt
sized-is f (Two n m) ok = tt
sized-is f (Soa n m octets) ok = ok.1
sized-is f (Mx p n) ok = tt
sized-is f (Octets octets) ok = tt

pub record ResourceAgain (m : List ℕ) (starts : List Start) (place : ℕ) (e : Resource) : Type 0 where
  pub reads : resource_at m place ≡ Some (e, place + length (Added.octets (resource_written e starts place)))
  pub knows : Knows m starts place (resource_written e starts place)

-- The data of the record has less than 65,536 octets where the record has.
pub resource-again : (m : List ℕ) (starts : List Start) (place : ℕ) (e : Resource) → ResourceFits e → ResourceSuits e
    → length (Added.octets (resource_written e starts place)) < 2 ^ 16 → AreKnown m place starts
    → Holds m place (Added.octets (resource_written e starts place)) → ResourceAgain m starts place e
unfolding resource_at
resource-again m starts place e ok suits short known h =
    let x0 = spell starts place e.name in
    let s1 = starts ++ x0.starts in
    let p1 = place + length x0.octets in
    let o1 = big_bytes 2 e.kind in
    let o2 = big_bytes 2 e.class in
    let o3 = big_bytes 4 e.lifetime in
    let s2 = s1 ++ [] in
    let s3 = s2 ++ [] in
    let s4 = s3 ++ [] in
    let p2 = p1 + length o1 in
    let p3 = p2 + length o2 in
    let p4 = p3 + length o3 in
    let inner = content_written e.content s4 (p4 + 2) in
    let n = length inner.octets in
    let o4 = big_bytes 2 n in
    let x4 = behind_length inner in
    let x3 = join (put o3 s3 p3) x4 in
    let x2 = join (put o2 s2 p2) x3 in
    let x1 = join (put o1 s1 p1) x2 in
    let lengths : length (Added.octets (resource_written e starts place)) ≡ length x0.octets + (2 + (2 + (4 + (2 + n)))) =
    omega (
      arith,
      length-append x0.octets x1.octets,
      length-append o1 x2.octets,
      length-append o2 x3.octets,
      length-append o3 x4.octets,
      length-append o4 inner.octets,
    ) in
    let h1 = Holds-back m place x0.octets x1.octets h in
    let h2 = Holds-back m p1 o1 x2.octets h1 in
    let h3 = Holds-back m p2 o2 x3.octets h2 in
    let h4 = Holds-back m p3 o3 x4.octets h3 in
    let h5 = Holds-back m p4 o4 inner.octets h4 in
    let a = name-again m starts place e.name ok.name known (Holds-front m place x0.octets x1.octets h) in
    let kind = number-again 2 (2 ^ 16) wide16 m p1 e.kind ok.kind (Holds-front m p1 o1 x2.octets h1) in
    let k2 = put-knows m s1 p1 o1 a.knows in
    let class = number-again 2 (2 ^ 16) wide16 m p2 e.class ok.class (Holds-front m p2 o2 x3.octets h2) in
    let k3 = put-knows m s2 p2 o2 k2 in
    let lifetime = number-again 4 (2 ^ 32) wide32 m p3 e.lifetime ok.lifetime (Holds-front m p3 o3 x4.octets h3) in
    let k4 = put-knows m s3 p3 o3 k3 in
    let count = number-again 2 (2 ^ 16) wide16 m p4 n (omega arith) (Holds-front m p4 o4 inner.octets h4) in
    let k5 : AreKnown m (p4 + 2) s4 = AreKnown-later m p4 (p4 + 2) s4 (omega arith) k4 in
    let data_at = octets-again m (p4 + 2) inner.octets h5 in
    let content = content-again m s4 (p4 + 2) e.content ok.content (sized-is (form_of e.kind e.class) e.content suits) k5 h5 in
    let form_there = form-is e.kind e.class s4 (p4 + 2) e.content suits in
    let end : p4 + 2 + n ≡ place + length (Added.octets (resource_written e starts place)) = omega arith in
    let after : p4 + 2 + n ≡ p4 + length (o4 ++ inner.octets) = omega (arith, length-append o4 inner.octets) in
    let k6 : Knows m s4 p4 x4 = subst (λ (k : ℕ). AreKnown m k (s4 ++ inner.starts)) after content.knows in
    record {
      reads = rw (a.reads, kind, class, lifetime, count, data_at, form_there, content.reads, end) refl;
      knows = join-knows m starts place x0 x1
          (join-knows m s1 p1 (put o1 s1 p1) x2 (join-knows m s2 p2 (put o2 s2 p2) x3 (join-knows m s3 p3 (put o3 s3 p3) x4 k6)));
    }

pub record ResourcesAgain (m : List ℕ) (starts : List Start) (place : ℕ) (es : List Resource) : Type 0 where
  pub reads : resources_at (length es) m place ≡ Some (es, place + length (Added.octets (resources_written es starts place)))
  pub knows : Knows m starts place (resources_written es starts place)

pub resources-again : (m : List ℕ) (starts : List Start) (place : ℕ) (es : List Resource) → AllByRecursion ResourceFits es
    → AllByRecursion ResourceSuits es → length (Added.octets (resources_written es starts place)) < 2 ^ 16 → AreKnown m place starts
    → Holds m place (Added.octets (resources_written es starts place)) → ResourcesAgain m starts place es
unfolding resources_at
resources-again m starts place [] ok suits short known h = record { reads = rw add-zero refl; knows = put-knows m starts place [] known }
resources-again m starts place (e ∷ es) ok suits short known h =
    let x = resource_written e starts place in
    let y = resources_written es (starts ++ x.starts) (place + length x.octets) in
    let len = length-append x.octets y.octets in
    let a = resource-again m starts place e ok.0 suits.0 (omega arith) known (Holds-front m place x.octets y.octets h) in
    let b = resources-again m (starts ++ x.starts) (place + length x.octets) es ok.1 suits.1 (omega arith) a.knows
    (Holds-back m place x.octets y.octets h) in
    let end : place + length x.octets + length y.octets ≡ place + length (x.octets ++ y.octets) = omega arith in
    record { reads = rw (a.reads, b.reads, end) refl; knows = join-knows m starts place x y b.knows }

-- ---- the question and the message

pub record QuestionsAgain (m : List ℕ) (starts : List Start) (place : ℕ) (q : Option Question) : Type 0 where
  pub reads : questions_at (option_len q) m place ≡ Some (q, place + length (Added.octets (questions_written q starts place)))
  pub knows : Knows m starts place (questions_written q starts place)

questions-again : (m : List ℕ) (starts : List Start) (place : ℕ) (q : Option Question) → IfSome q QuestionFits → AreKnown m place starts
    → Holds m place (Added.octets (questions_written q starts place)) → QuestionsAgain m starts place q
unfolding questions_at question_at
questions-again m starts place None ok known h = record { reads = rw add-zero refl; knows = put-knows m starts place [] known }
questions-again m starts place (Some q) ok known h =
    let x0 = spell starts place q.name in
    let s1 = starts ++ x0.starts in
    let p1 = place + length x0.octets in
    let o1 = big_bytes 2 q.kind in
    let o2 = big_bytes 2 q.class in
    let s2 = s1 ++ [] in
    let p2 = p1 + length o1 in
    let x2 = put o2 s2 p2 in
    let x1 = join (put o1 s1 p1) x2 in
    let h1 = Holds-back m place x0.octets x1.octets h in
    let h2 = Holds-back m p1 o1 o2 h1 in
    let a = name-again m starts place q.name ok.name known (Holds-front m place x0.octets x1.octets h) in
    let kind = number-again 2 (2 ^ 16) wide16 m p1 q.kind ok.kind (Holds-front m p1 o1 o2 h1) in
    let k2 = put-knows m s1 p1 o1 a.knows in
    let class = number-again 2 (2 ^ 16) wide16 m p2 q.class ok.class h2 in
    let k3 = put-knows m s2 p2 o2 k2 in
    let end : p2 + length o2 ≡ place + length (x0.octets ++ x1.octets) = omega (arith, length-append x0.octets x1.octets) in
    record {
      reads = rw (a.reads, kind, class, end) refl;
      knows = join-knows m starts place x0 x1 (join-knows m s1 p1 (put o1 s1 p1) x2 k3);
    }

whole-again : (m : List ℕ) (w : Message) → MessageFits w → MessageSuits w → length (Added.octets (message_written w [] 0)) < 2 ^ 16
    → length m ≡ length (Added.octets (message_written w [] 0)) → Holds m 0 (Added.octets (message_written w [] 0)) → message_at m ≡ Some w
unfolding message_at
whole-again m w ok suits short same h =
    let o0 = big_bytes 2 w.id in
    let o1 = big_bytes 2 w.flags in
    let o2 = big_bytes 2 (option_len w.question) in
    let o3 = big_bytes 2 (length w.answers) in
    let o4 = big_bytes 2 (length w.authority) in
    let o5 = big_bytes 2 (length w.additional) in
    let p1 = 0 + length o0 in
    let p2 = p1 + length o1 in
    let p3 = p2 + length o2 in
    let p4 = p3 + length o3 in
    let p5 = p4 + length o4 in
    let p6 = p5 + length o5 in
    let x6 = questions_written w.question [] p6 in
    let s7 = [] ++ x6.starts in
    let p7 = p6 + length x6.octets in
    let x7 = resources_written w.answers s7 p7 in
    let s8 = s7 ++ x7.starts in
    let p8 = p7 + length x7.octets in
    let x8 = resources_written w.authority s8 p8 in
    let s9 = s8 ++ x8.starts in
    let p9 = p8 + length x8.octets in
    let x9 = resources_written w.additional s9 p9 in
    let r8 = x8.octets ++ x9.octets in
    let r7 = x7.octets ++ r8 in
    let r6 = x6.octets ++ r7 in
    let r5 = o5 ++ r6 in
    let r4 = o4 ++ r5 in
    let r3 = o3 ++ r4 in
    let r2 = o2 ++ r3 in
    let r1 = o1 ++ r2 in
    let l6 = length-append x6.octets r7 in
    let l7 = length-append x7.octets r8 in
    let l8 = length-append x8.octets x9.octets in
    let h1 = Holds-back m 0 o0 r1 h in
    let h2 = Holds-back m p1 o1 r2 h1 in
    let h3 = Holds-back m p2 o2 r3 h2 in
    let h4 = Holds-back m p3 o3 r4 h3 in
    let h5 = Holds-back m p4 o4 r5 h4 in
    let h6 = Holds-back m p5 o5 r6 h5 in
    let h7 = Holds-back m p6 x6.octets r7 h6 in
    let h8 = Holds-back m p7 x7.octets r8 h7 in
    let h9 = Holds-back m p8 x8.octets x9.octets h8 in
    let n0 = number-again 2 (2 ^ 16) wide16 m 0 w.id ok.id (Holds-front m 0 o0 r1 h) in
    let n1 = number-again 2 (2 ^ 16) wide16 m p1 w.flags ok.flags (Holds-front m p1 o1 r2 h1) in
    let n2 = number-again 2 (2 ^ 16) wide16 m p2 (option_len w.question) (count_small w.question) (Holds-front m p2 o2 r3 h2) in
    let n3 = number-again 2 (2 ^ 16) wide16 m p3 (length w.answers) ok.answers_count (Holds-front m p3 o3 r4 h3) in
    let n4 = number-again 2 (2 ^ 16) wide16 m p4 (length w.authority) ok.authority_count (Holds-front m p4 o4 r5 h4) in
    let n5 = number-again 2 (2 ^ 16) wide16 m p5 (length w.additional) ok.additional_count (Holds-front m p5 o5 r6 h5) in
    let q = questions-again m [] p6 w.question ok.question tt (Holds-front m p6 x6.octets r7 h6) in
    let a = resources-again m s7 p7 w.answers ok.answers suits.answers (omega arith) q.knows (Holds-front m p7 x7.octets r8 h7) in
    let b = resources-again m s8 p8 w.authority ok.authority suits.authority (omega arith) a.knows (Holds-front m p8 x8.octets x9.octets h8) in
    let c = resources-again m s9 p9 w.additional ok.additional suits.additional (omega arith) b.knows h9 in
    let end : eqb (p9 + length x9.octets) (length m) ≡ true = eq-eqb _ _ (omega arith) in
    rw (n0, n1, n2, n3, n4, n5, q.reads, a.reads, b.reads, c.reads, end) refl
  where
    count_small : (q : Option Question) → option_len q < 2 ^ 16
    count_small None = omega arith
    count_small (Some q) = omega arith

-- What was written reads back as the message.
pub message-again : (w : Message) → MessageFits w → MessageSuits w → length (spelling w) < 2 ^ 16 → message_at (spelling w) ≡ Some w
unfolding spelling
message-again w ok suits short = whole-again (Added.octets (message_written w [] 0)) w ok suits short refl
    (record { rest = []; is = sym (append-nil (Added.octets (message_written w [] 0))); within = omega arith })
