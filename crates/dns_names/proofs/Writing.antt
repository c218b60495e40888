-- What is spelled is read back.
use Rattle.std.proofs.Common.{◌≡◌, ℕ, suc, ◌+◌, ◌-◌, ◌*◌, ◌/◌, ◌%◌, ◌≤◌, ◌<◌, true, false, ltb, eqb, List, [], ◌∷◌, ◌++◌, length, take, drop, Option}
use Rattle.std.proofs.Common.{Some, None, refl, sym, ap, subst, ◌∙◌, append_assoc, arith, inl, inr, zero-add, nat_lt, bytes_eq, take_at, drop_at}
use Rattle.std.proofs.Common.{drop-drop, length-append, length-drop}
use Rattle.std.specs.List.{AllByRecursion}
use Rattle.std.proofs.lemmas.Bool.{ltb-true, le-ltb, lt-ltb, cases_Bool}
use Rattle.std.proofs.lemmas.Slice.Eq.{bytes_eq-Decides}
use Rattle.dns_names.specs.Prelude.{Root, Label, Pointer, Stands, AtRoot, AtLabel, AtPointer, NameAt, spelled, IsLabel, IsName, Start, found, pointer, Added, with_start, spell_by, Text, put_name}
use Rattle.dns_names.specs.Names.{piece_at}
use Rattle.dns_names.specs.Spelling.{spell}
use Rattle.dns_names.proofs.Walking.{chosen}

-- octets that stand in a message from a place on
pub record Holds (m : List ℕ) (place : ℕ) (octets : List ℕ) : Type 0 where
  pub rest : List ℕ
  pub is : drop place m ≡ octets ++ rest
  pub within : place ≤ length m

-- at a label start the labels stand that it is kept for
pub record IsKnown (m : List ℕ) (limit : ℕ) (s : Start) : Type 0 where
  pub labels : List (List ℕ)
  pub octets_are : s.octets ≡ spelled labels
  pub after : ℕ
  pub stands : Stands m s.place s.place labels after
  pub below : s.place < limit
  pub near : s.place < 16384

abbrev pub AreKnown : List ℕ → ℕ → List Start → Type 0
AreKnown m limit starts = AllByRecursion (IsKnown m limit) starts

pub Holds-front : (m : List ℕ) (place : ℕ) (a b : List ℕ) → Holds m place (a ++ b) → Holds m place a
Holds-front m place a b h = record { rest = b ++ h.rest; is = h.is ∙ append_assoc a b h.rest; within = h.within }

pub Holds-back : (m : List ℕ) (place : ℕ) (a b : List ℕ) → Holds m place (a ++ b) → Holds m (place + length a) b
Holds-back m place a b h = record {
  rest = h.rest;
  is = sym (drop-drop (length a) place m) ∙ ap (drop (length a)) (h.is ∙ append_assoc a b h.rest) ∙ drop_at a (b ++ h.rest) (length a) refl;
  within = omega (arith, ap length h.is, length-drop place m, length-append (a ++ b) h.rest, length-append a b, h.within);
}

-- ---- the spelling of labels has one reading

label_cancel : (a b x y : List ℕ) → length a ≡ length b → a ++ x ≡ b ++ y → (a ≡ b) × (x ≡ y)
label_cancel a b x y n e = (
  sym (take_at a x (length a) refl) ∙ ap (take (length a)) e ∙ take_at b y (length a) (sym n),
  sym (drop_at a x (length a) refl)
      ∙ ap (drop (length a)) e ∙ drop_at b y (length a) (sym n),
)

spelled-same : (ls ks : List (List ℕ)) → spelled ls ≡ spelled ks → ls ≡ ks
spelled-same [] [] e = refl
spelled-same [] (k ∷ ks) e = absurd cc
spelled-same (l ∷ ls) [] e = absurd cc
spelled-same (l ∷ ls) (k ∷ ks) e =
    let n : length l ≡ length k = cc in
    let t : l ++ spelled ls ≡ k ++ spelled ks = cc in
    let q = label_cancel l k (spelled ls) (spelled ks) n t in
    let r = spelled-same ls ks q.1 in
    ap (λ (x : List ℕ). x ∷ ls) q.0 ∙ ap (λ (x : List (List ℕ)). k ∷ x) r

-- ---- pieces that were written

piece-root : (m : List ℕ) (place : ℕ) → Holds m place (0 ∷ []) → piece_at m place ≡ Root
unfolding piece_at
piece-root m place h = rw h.is refl

piece-label : (m : List ℕ) (place : ℕ) (l : List ℕ) → IsLabel l → Holds m place (length l ∷ l) → piece_at m place ≡ Label l
unfolding piece_at
piece-label m place l ok h =
    let some : eqb (length l) 0 ≡ false = grind arith in
    let short : ltb (length l) 64 ≡ true = lt-ltb _ _ (omega (arith, ok.1)) in
    let long : ltb (length (l ++ h.rest)) (length l) ≡ false = le-ltb _ _ (omega (arith, length-append l h.rest)) in
    rw (h.is, some, short, long, take_at l h.rest (length l) refl) refl

piece-pointer : (m : List ℕ) (place to : ℕ) → Holds m place (pointer to) → piece_at m place ≡ Pointer to
unfolding piece_at
piece-pointer m place to h =
    let some : eqb (192 + to / 256) 0 ≡ false = grind arith in
    let low : ltb (192 + to / 256) 64 ≡ false = le-ltb _ _ (omega arith) in
    let high : ltb (192 + to / 256) 192 ≡ false = le-ltb _ _ (omega arith) in
    let back : (192 + to / 256 - 192) * 256 + to % 256 ≡ to = omega arith in
    rw (h.is, some, low, high, back) refl

-- ---- what is found stands

pub record IsFound (m : List ℕ) (limit : ℕ) (ls : List (List ℕ)) (to : ℕ) : Type 0 where
  pub after : ℕ
  pub stands : Stands m to to ls after
  pub below : to < limit
  pub near : to < 16384

none : Option ℕ
none = None

found-stands : (m : List ℕ) (limit : ℕ) (starts : List Start) (ls : List (List ℕ)) (to : ℕ) → AreKnown m limit starts
    → found starts (spelled ls) ≡ Some to → IsFound m limit ls to
found-stands m limit [] ls to known e = absurd cc
found-stands m limit (s ∷ starts) ls to known e =
    elim (chosen (bytes_eq s.octets (spelled ls)) (Some s.place) (found starts (spelled ls)) (Some to) e) [
      | inl t ↦
          let octets : s.octets ≡ spelled ls = (bytes_eq-Decides s.octets (spelled ls)).0 t.0 in
          let labels : known.0.labels ≡ ls = spelled-same known.0.labels ls (sym known.0.octets_are ∙ octets) in
          let place : s.place ≡ to = cc in
          subst (λ (k : ℕ). IsFound m limit ls k) place (record {
            after = known.0.after;
            stands = subst (λ (x : List (List ℕ)). Stands m s.place s.place x known.0.after) labels known.0.stands;
            below = known.0.below;
            near = known.0.near;
          })
      | inr f ↦ found-stands m limit starts ls to known.1 f.1
    ]

-- ---- a name that was spelled

-- the labels stand at a place, in each name that starts at or behind limit, and the label starts are known
pub record Reads_back (m : List ℕ) (limit place : ℕ) (labels : List (List ℕ)) (added : Added) : Type 0 where
  pub stands : (start : ℕ) → limit ≤ start → Stands m start place labels (place + length added.octets)
  pub known : AreKnown m (place + length added.octets) added.starts

pub AreKnown-later : (m : List ℕ) (limit more : ℕ) (starts : List Start) → limit ≤ more → AreKnown m limit starts → AreKnown m more starts
AreKnown-later m limit more [] le known = tt
AreKnown-later m limit more (s ∷ starts) le known = (
  record {
    labels = known.0.labels;
    octets_are = known.0.octets_are;
    after = known.0.after;
    stands = known.0.stands;
    below = omega (arith, known.0.below);
    near = known.0.near;
  },
  AreKnown-later m limit more starts le known.1,
)

pub AreKnown-append : (m : List ℕ) (limit : ℕ) (xs ys : List Start) → AreKnown m limit xs → AreKnown m limit ys → AreKnown m limit (xs ++ ys)
AreKnown-append m limit [] ys p q = q
AreKnown-append m limit (x ∷ xs) ys p q = (p.0, AreKnown-append m limit xs ys p.1 q)

AreKnown-with_start : (m : List ℕ) (limit place : ℕ) (octets : List ℕ) (starts : List Start)
    → (place < 16384 → IsKnown m limit (record { place = place; octets = octets })) → AreKnown m limit starts
    → AreKnown m limit (with_start place octets starts)
AreKnown-with_start m limit place octets starts one rest =
    elim (cases_Bool (nat_lt place 16384)) [
      | inl t ↦ rw t (one (ltb-true _ _ t), rest)
      | inr f ↦ rw f rest
    ]

spell-pointer : (m : List ℕ) (limit place to : ℕ) (ls : List (List ℕ)) → IsFound m limit ls to → Holds m place (pointer to)
    → Reads_back m limit place ls (record { octets = pointer to; starts = [] })
spell-pointer m limit place to ls known h = record {
  stands = λ start le. AtPointer start place to ls known.after (piece-pointer m place to h) (omega (arith, known.below)) known.stands;
  known = tt;
}

spell-label : (m : List ℕ) (limit place : ℕ) (l : List ℕ) (ls : List (List ℕ)) (rest : Added) → limit ≤ place → IsLabel l
    → Holds m place (length l ∷ (l ++ rest.octets)) → Reads_back m limit (place + 1 + length l) ls rest
    → Reads_back m limit place (l ∷ ls) (record { octets = length l ∷ (l ++ rest.octets); starts = with_start place (spelled (l ∷ ls)) rest.starts })
spell-label m limit place l ls rest le ok h back =
    let front : Holds m place (length l ∷ l) = Holds-front m place (length l ∷ l) rest.octets h in
    let piece = piece-label m place l ok front in
    let end : place + 1 + length l + length rest.octets ≡ place + suc (length (l ++ rest.octets)) = omega (arith, length-append l rest.octets) in
    let stands : (start : ℕ) → limit ≤ start → Stands m start place (l ∷ ls) (place + suc (length (l ++ rest.octets))) =
    λ start le. subst (λ (k : ℕ). Stands m start place (l ∷ ls) k) end (AtLabel start place l ls _ piece (back.stands start le)) in
    record {
      stands = stands;
      known = AreKnown-with_start m _ place (spelled (l ∷ ls)) rest.starts
          (λ near. record { labels = l ∷ ls; octets_are = refl; after = _; stands = stands place le; below = omega arith; near = near })
          (AreKnown-later m _ _ rest.starts (omega arith) back.known);
    }

Holds-rest : (m : List ℕ) (place : ℕ) (l more : List ℕ) → Holds m place (length l ∷ (l ++ more)) → Holds m (place + 1 + length l) more
Holds-rest m place l more h =
    let e : place + length (length l ∷ l) ≡ place + 1 + length l = omega arith in
    subst (λ (k : ℕ). Holds m k more) e (Holds-back m place (length l ∷ l) more h)

spell_by-reads : (m : List ℕ) (limit place : ℕ) (l : List ℕ) (ls : List (List ℕ)) (rest : Added) (o : Option ℕ) → limit ≤ place → IsLabel l
    → ((to : ℕ) → o ≡ Some to → IsFound m limit (l ∷ ls) to)
    → (Holds m (place + 1 + length l) rest.octets → Reads_back m limit (place + 1 + length l) ls rest)
    → Holds m place (Added.octets (spell_by o place l (spelled (l ∷ ls)) rest))
    → Reads_back m limit place (l ∷ ls) (spell_by o place l (spelled (l ∷ ls)) rest)
spell_by-reads m limit place l ls rest None le ok known more h =
    spell-label m limit place l ls rest le ok h (more (Holds-rest m place l rest.octets h))
spell_by-reads m limit place l ls rest (Some to) le ok known more h = spell-pointer m limit place to (l ∷ ls) (known to refl) h

pub spell-reads : (m : List ℕ) (starts : List Start) (limit place : ℕ) (ls : List (List ℕ)) → AreKnown m limit starts → limit ≤ place
    → AllByRecursion IsLabel ls → Holds m place (Added.octets (spell starts place ls)) → Reads_back m limit place ls (spell starts place ls)
unfolding spell
spell-reads m starts limit place [] known le ok h = record {
  stands = λ start le. AtRoot start place (piece-root m place h);
  known = tt;
}
spell-reads m starts limit place (l ∷ ls) known le ok h =
    spell_by-reads m limit place l ls (spell starts (place + 1 + length l) ls) (found starts (spelled (l ∷ ls))) le ok.0
    (λ to e. found-stands m limit starts (l ∷ ls) to known e)
    (λ held. spell-reads m starts limit (place + 1 + length l) ls known (omega arith) ok.1 held)
    h

-- ---- a name in a text, and what comes after it

pub put_name-reads : (m : List ℕ) (text : Text) (ls : List (List ℕ)) → IsName ls → AreKnown m (length text.octets) text.starts
    → Holds m 0 (Text.octets (put_name text ls))
    → NameAt m (length text.octets) ls (length (Text.octets (put_name text ls)))
    × AreKnown m (length (Text.octets (put_name text ls))) (Text.starts (put_name text ls))
put_name-reads m text ls ok known h =
    let added = spell text.starts (length text.octets) ls in
    let here : Holds m (length text.octets) added.octets = subst (λ (k : ℕ). Holds m k added.octets) (zero-add (length text.octets))
    (Holds-back m 0 text.octets added.octets h) in
    let back = spell-reads m text.starts (length text.octets) (length text.octets) ls known (omega arith) ok.labels here in
    let end : length text.octets + length added.octets ≡ length (text.octets ++ added.octets) =
    omega (arith, length-append text.octets added.octets) in (
      record {
        stands = subst (λ (k : ℕ). Stands m (length text.octets) (length text.octets) ls k) end
            (back.stands (length text.octets) (omega arith));
        short = ok.short;
      },
      AreKnown-append m _ text.starts added.starts (AreKnown-later m _ _ text.starts (omega (arith, length-append text.octets added.octets)) known)
          (subst (λ (k : ℕ). AreKnown m k added.starts) end back.known),
    )
