-- Laws of whatever is written piece by piece.
use Rattle.std.proofs.Common.{◌≡◌, ℕ, suc, ◌+◌, ◌≤◌, true, false, List, [], ◌∷◌, ◌++◌, length, Option, Some, None, refl, sym, ap, subst, ◌∙◌, append_assoc, arith, inl, inr, nat_lt, bytes_eq, append-nil, length-append}
use Rattle.std.specs.List.{AllByRecursion}
use Rattle.std.proofs.lemmas.Bool.{cases_Bool}
use Rattle.std.proofs.lemmas.Slice.Eq.{bytes_eq-Decides}
use Rattle.dns_names.specs.Prelude.{spelled, Start, found, Added, with_start, spell_by, Text, put_name, nothing}
use Rattle.dns_names.specs.Spelling.{spell}
use Rattle.dns_names.specs.Texts.{Item, Octets, Name, IsItem, put_item, put_items, written, NamesReadBack, FoundIsLowest}
use Rattle.dns_names.proofs.Walking.{chosen}
use Rattle.dns_names.proofs.Writing.{Holds, Holds-front, AreKnown, AreKnown-later, put_name-reads}

-- ---- a name reads back

-- octets with more behind them
record Begins (octets whole : List ℕ) : Type 0 where
  more : List ℕ
  is : whole ≡ octets ++ more

put_item-begins : (t : Text) (item : Item) → Begins t.octets (put_item t item).octets
put_item-begins t (Octets octets) = record { more = octets; is = refl }
put_item-begins t (Name labels) = record { more = Added.octets (spell t.starts (length t.octets) labels); is = refl }

put_items-begins : (t : Text) (items : List Item) → Begins t.octets (put_items t items).octets
put_items-begins t [] = record { more = []; is = sym (append-nil t.octets) }
put_items-begins t (item ∷ items) =
    let one = put_item-begins t item in
    let all = put_items-begins (put_item t item) items in
    record { more = one.more ++ all.more; is = all.is ∙ ap (λ (x : List ℕ). x ++ all.more) one.is ∙ append_assoc t.octets one.more all.more }

held : (m : List ℕ) (octets whole : List ℕ) → Begins octets whole → Holds m 0 whole → Holds m 0 octets
held m octets whole b h = Holds-front m 0 octets b.more (subst (λ (x : List ℕ). Holds m 0 x) b.is h)

put_item-known : (m : List ℕ) (t : Text) (item : Item) → IsItem item → AreKnown m (length t.octets) t.starts → Holds m 0 (put_item t item).octets
    → AreKnown m (length (put_item t item).octets) (put_item t item).starts
put_item-known m t (Octets octets) ok known h = AreKnown-later m _ _ t.starts (omega (arith, length-append t.octets octets)) known
put_item-known m t (Name labels) ok known h = (put_name-reads m t labels ok known h).1

put_items-known : (m : List ℕ) (t : Text) (items : List Item) → AllByRecursion IsItem items → AreKnown m (length t.octets) t.starts
    → Holds m 0 (put_items t items).octets → AreKnown m (length (put_items t items).octets) (put_items t items).starts
put_items-known m t [] ok known h = known
put_items-known m t (item ∷ items) ok known h =
    let next = put_item t item in
    put_items-known m next items ok.1 (put_item-known m t item ok.0 known (held m next.octets _ (put_items-begins next items) h)) h

pub names-read_back : NamesReadBack
names-read_back before labels rest items name =
    let text = written before in
    let after = put_name text labels in
    let m = after.octets ++ rest in
    let whole : Holds m 0 after.octets = record { rest = rest; is = refl; within = omega arith } in
    let known = put_items-known m nothing before items tt
    (held m text.octets after.octets (record { more = Added.octets (spell text.starts (length text.octets) labels); is = refl }) whole) in
    (put_name-reads m text labels name known whole).0

-- ---- the first is the lowest

-- starts between two places, each behind the one before it
abbrev Ascends : ℕ → List Start → ℕ → Type 0
Ascends low [] high = low ≤ high
Ascends low (s ∷ starts) high = (low ≤ s.place) × Ascends (s.place + 1) starts high

Ascends-wider : (low lower high higher : ℕ) (starts : List Start) → lower ≤ low → high ≤ higher → Ascends low starts high
    → Ascends lower starts higher
Ascends-wider low lower high higher [] l h a = omega arith
Ascends-wider low lower high higher (s ∷ starts) l h a =
    (omega (arith, a.0), Ascends-wider (s.place + 1) (s.place + 1) high higher starts (omega arith) h a.1)

Ascends-append : (low mid high : ℕ) (xs ys : List Start) → Ascends low xs mid → Ascends mid ys high → Ascends low (xs ++ ys) high
Ascends-append low mid high [] ys a b = Ascends-wider mid low high high ys a (omega arith) b
Ascends-append low mid high (x ∷ xs) ys a b = (a.0, Ascends-append (x.place + 1) mid high xs ys a.1 b)

with_start-ascends : (place high : ℕ) (octets : List ℕ) (starts : List Start) → Ascends (place + 1) starts high
    → Ascends place (with_start place octets starts) high
with_start-ascends place high octets starts a =
    elim (cases_Bool (nat_lt place 16384)) [
      | inl t ↦ rw t (omega arith, a)
      | inr f ↦ rw f (Ascends-wider (place + 1) place high high starts (omega arith) (omega arith) a)
    ]

spell_by-ascends : (o : Option ℕ) (place : ℕ) (label octets : List ℕ) (rest : Added)
    → Ascends (place + 1 + length label) rest.starts (place + 1 + length label + length rest.octets) → let all = spell_by o place label octets rest in
    Ascends place all.starts (place + length all.octets)
spell_by-ascends (Some to) place label octets rest a = omega arith
spell_by-ascends None place label octets rest a =
    let end : place + 1 + length label + length rest.octets ≤ place + suc (length (label ++ rest.octets)) =
    omega (arith, length-append label rest.octets) in
    with_start-ascends place _ octets rest.starts (Ascends-wider (place + 1 + length label) (place + 1) _ _ rest.starts (omega arith) end a)

spell-ascends : (starts : List Start) (place : ℕ) (ls : List (List ℕ)) → let all = spell starts place ls in
    Ascends place all.starts (place + length all.octets)
unfolding spell
spell-ascends starts place [] = omega arith
spell-ascends starts place (l ∷ ls) =
    spell_by-ascends (found starts (spelled (l ∷ ls))) place l (spelled (l ∷ ls)) (spell starts (place + 1 + length l) ls)
    (spell-ascends starts (place + 1 + length l) ls)

put_item-ascends : (t : Text) (item : Item) → Ascends 0 t.starts (length t.octets)
    → Ascends 0 (put_item t item).starts (length (put_item t item).octets)
put_item-ascends t (Octets octets) a = Ascends-wider 0 0 _ _ t.starts (omega arith) (omega (arith, length-append t.octets octets)) a
put_item-ascends t (Name labels) a =
    let more = spell t.starts (length t.octets) labels in
    let end : length t.octets + length more.octets ≤ length (t.octets ++ more.octets) = omega (arith, length-append t.octets more.octets) in
    Ascends-append 0 (length t.octets) _ t.starts more.starts a
    (Ascends-wider (length t.octets) (length t.octets) _ _ more.starts (omega arith) end (spell-ascends t.starts (length t.octets) labels))

put_items-ascends : (t : Text) (items : List Item) → Ascends 0 t.starts (length t.octets)
    → Ascends 0 (put_items t items).starts (length (put_items t items).octets)
put_items-ascends t [] a = a
put_items-ascends t (item ∷ items) a = put_items-ascends (put_item t item) items (put_item-ascends t item a)

all_from : (octets : List ℕ) (place low high : ℕ) (starts : List Start) → place ≤ low → Ascends low starts high
    → AllByRecursion (λ s. s.octets ≡ octets → place ≤ s.place) starts
all_from octets place low high [] le a = tt
all_from octets place low high (s ∷ starts) le a = (λ e. omega (arith, a.0), all_from octets place (s.place + 1) high starts (omega (arith, a.0)) a.1)

lowest : (octets : List ℕ) (place low high : ℕ) (starts : List Start) → Ascends low starts high → found starts octets ≡ Some place
    → AllByRecursion (λ s. s.octets ≡ octets → place ≤ s.place) starts
lowest octets place low high [] a e = tt
lowest octets place low high (s ∷ starts) a e =
    elim (chosen (bytes_eq s.octets octets) (Some s.place) (found starts octets) (Some place) e) [
      | inl t ↦
          let same : s.place ≡ place = (let h : Some s.place ≡ Some place = t.1 in cc) in
          (λ _. omega arith, all_from octets place (s.place + 1) high starts (omega arith) a.1)
      | inr f ↦ (
        λ is. absurd
            (let q : bytes_eq s.octets octets ≡ true = (bytes_eq-Decides s.octets octets).1 is in let n : bytes_eq s.octets octets ≡ false = f.0 in
            cc),
        lowest octets place (s.place + 1) high starts a.1 f.1,
      )
    ]

pub found-is_lowest : FoundIsLowest
found-is_lowest items octets place e = lowest octets place 0 _ (Text.starts (written items)) (put_items-ascends nothing items (omega arith)) e
