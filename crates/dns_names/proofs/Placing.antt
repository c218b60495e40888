-- The entries of the suffixes that were written.
use Rattle.std.proofs.Common.{◌≡◌, ℕ, ◌+◌, ◌<◌, ◌≤◌, Bool, true, false, cond, List, [], ◌∷◌, ◌++◌, Option, Some, None, slice_get, unwrap_or, refl, sym, ap, subst, ◌∙◌, arith, inl, inr, nat_lt, bytes_eq}
use Rattle.std.specs.Ordering.{is_eq, match_ordering, nat_cmp}
use Rattle.std.specs.declared.cmp.Ordering.{Ordering}
use Rattle.std.specs.declared.cmp.Ordering.TheVariants.{Less, Equal, Greater}
use Rattle.std.specs.Cmp.Lexicographic.{on_texts, slice_cmp}
use Rattle.std.specs.BTreeMap.{BTreeMap, UpdatesBy, insert_entry}
use Rattle.std.specs.Map.{lookup, IsKeyTest, AreApart, KeepsOthers}
use Rattle.std.specs.List.{AllByRecursion}
use Rattle.std.proofs.lemmas.Bool.{cases_Bool, lt-ltb, le-ltb}
use Rattle.std.specs.Cmp.{eq_by_cmp_equiv}
use Rattle.std.proofs.lemmas.Map.Text.{is_eq-slice_cmp}
use Rattle.std.proofs.lemmas.Slice.Eq.{bytes_eq-Decides}
use Rattle.dns_names.specs.declared.suffix.Suffix.{Suffix}
use Rattle.dns_names.specs.Prelude.{key, Start, starts_in}
use Rattle.dns_names.specs.Inside.Targets.{AreAbove, AreBelow, Enters, IsBelow, Rises}
use Rattle.dns_names.specs.Inside.Writers.{put_start, place_in, IsNear, Remembers}
use Rattle.dns_names.proofs.Kept.{apart}

-- ---- a map after an insertion, at other keys

apart_in_order : (bs cs ks : List ℕ) → bytes_eq bs cs ≡ false → is_eq (slice_cmp nat_cmp bs ks) ≡ true → is_eq (slice_cmp nat_cmp cs ks) ≡ false
apart_in_order bs cs ks n y = is_eq-slice_cmp cs ks ∙ apart bs cs ks n (sym (is_eq-slice_cmp bs ks) ∙ y)

others : {K X : Type 0} (eq : K → K → Bool) (test : K → Bool) (old new : List (K × X)) → KeepsOthers eq test old new → (other : K → Bool)
    → IsKeyTest eq other → AreApart test other → lookup other new ≡ lookup other old
unfolding KeepsOthers
others eq test old new h = h

insert-place : (s : Suffix) (m n : BTreeMap Suffix ℕ) (w : Option ℕ)
    → UpdatesBy (λ x y. slice_cmp nat_cmp (key x) (key y)) (λ k. slice_cmp nat_cmp (key s) (key k)) m n w
    → (k : List ℕ) → place_in n.entries k ≡ cond (bytes_eq (key s) k) w (place_in m.entries k)
insert-place s m n w h k =
    elim (cases_Bool (bytes_eq (key s) k)) [
      | inl t ↦ rw t (subst (λ (o : List ℕ). place_in n.entries o ≡ w) ((bytes_eq-Decides (key s) k).0 t) h.1)
      | inr f ↦
          rw f (others _ _ m.entries n.entries h.3 (λ x. is_eq (slice_cmp nat_cmp k (key x)))
          (λ x y. (eq_by_cmp_equiv (on_texts (λ (o : List ℕ). o))).congr k (key x) (key y)) (λ x. apart_in_order (key s) k (key x) f))
    ]

-- ---- starts in the order of their places

put_start-last : (s : Start) (ts : List Start) → AllByRecursion (IsBelow s.place) ts → put_start s ts ≡ ts ++ s ∷ []
put_start-last s [] all = refl
put_start-last s (t ∷ ts) all =
    let f : nat_lt s.place t.place ≡ false = le-ltb _ _ (omega (arith, all.0)) in
    rw f (ap (λ (x : List Start). t ∷ x) (put_start-last s ts all.1))

put_start-before : (s t : Start) (ts : List Start) → s.place < t.place → put_start s (ts ++ t ∷ []) ≡ put_start s ts ++ t ∷ []
put_start-before s t [] lt = rw (lt-ltb _ _ lt) refl
put_start-before s t (u ∷ ts) lt =
    elim (cases_Bool (nat_lt s.place u.place)) [
      | inl y ↦ rw y refl
      | inr n ↦ rw n (ap (λ (x : List Start). u ∷ x) (put_start-before s t ts lt))
    ]

-- what holds of each start holds of the first, and of the others
put_start-all : (P : Start → Type 0) (s : Start) (ts : List Start) → AllByRecursion P (put_start s ts) → P s × AllByRecursion P ts
put_start-all P s [] all = (all.0, tt)
put_start-all P s (t ∷ ts) all =
    elim (cases_Bool (nat_lt s.place t.place)) [
      | inl y ↦ let h = rw y at all in (h.0, h.1)
      | inr n ↦ let h = rw n at all in let r = put_start-all P s ts h.1 in (r.0, (h.0, r.1))
    ]

-- a new key with the greatest place comes last
starts_in-insert : (es : List (Suffix × ℕ)) (s : Suffix) (place : ℕ) → place_in es (key s) ≡ None → AllByRecursion (IsBelow place) (starts_in es)
    → starts_in (insert_entry (λ x y. slice_cmp nat_cmp (key x) (key y)) es s place)
    ≡ starts_in es ++ record { place = place; octets = s.octets.now } ∷ []
starts_in-insert [] s place absent all = refl
starts_in-insert (e ∷ es) s place absent all =
    by_order (slice_cmp nat_cmp (key s) (key e.0)) refl (λ a b. starts_in-insert es s place a b)
  where
    by_order : (o : Ordering) → slice_cmp nat_cmp (key s) (key e.0) ≡ o
        → (place_in es (key s) ≡ None → AllByRecursion (IsBelow place) (starts_in es)
        → starts_in (insert_entry (λ x y. slice_cmp nat_cmp (key x) (key y)) es s place)
        ≡ starts_in es ++ record { place = place; octets = s.octets.now } ∷ [])
        → starts_in (match_ordering o ((s, place) ∷ e ∷ es) ((e.0, place) ∷ es)
        (e ∷ insert_entry (λ x y. slice_cmp nat_cmp (key x) (key y)) es s place))
        ≡ starts_in (e ∷ es) ++ record { place = place; octets = s.octets.now } ∷ []
    by_order Less is next = put_start-last (record { place = place; octets = s.octets.now }) (starts_in (e ∷ es)) all
    by_order Equal is next = absurd (let q : Some e.1 ≡ None = rw is at absent in cc)
    by_order Greater is next =
        let parts = put_start-all (IsBelow place) (record { place = e.1; octets = e.0.octets.now }) (starts_in es) all in
        rw (next (rw is at absent) parts.1) (put_start-before (record { place = e.1; octets = e.0.octets.now })
        (record { place = place; octets = s.octets.now }) (starts_in es) parts.0)

near_below : (limit : ℕ) (starts : List Start) → AllByRecursion (IsNear limit) starts → AllByRecursion (IsBelow limit) starts
near_below limit [] all = tt
near_below limit (s ∷ starts) all = (all.0.0, near_below limit starts all.1)

-- ---- look-ups

place_in-step : (e : Suffix × ℕ) (es : List (Suffix × ℕ)) (k : List ℕ)
    → place_in (e ∷ es) k ≡ cond (bytes_eq k (key e.0)) (Some e.1) (place_in es k)
place_in-step e es k = ap (λ (b : Bool). cond b (Some e.1) (place_in es k)) (is_eq-slice_cmp k (key e.0))

-- what comes first, if the suffix is there, and else what comes behind it
pub place-some : (xs ys : List (Suffix × ℕ)) (k : List ℕ) (place : ℕ) → place_in xs k ≡ Some place → place_in (xs ++ ys) k ≡ Some place
place-some [] ys k place e = absurd cc
place-some (x ∷ xs) ys k place e =
    elim (cases_Bool (is_eq (slice_cmp nat_cmp k (key x.0)))) [
      | inl t ↦ rw t (rw t at e)
      | inr f ↦ rw f (place-some xs ys k place (rw f at e))
    ]

pub place-none : (xs ys : List (Suffix × ℕ)) (k : List ℕ) → place_in xs k ≡ None → place_in (xs ++ ys) k ≡ place_in ys k
place-none [] ys k e = refl
place-none (x ∷ xs) ys k e =
    elim (cases_Bool (is_eq (slice_cmp nat_cmp k (key x.0)))) [
      | inl t ↦ absurd (let h : Some x.1 ≡ None = rw t at e in cc)
      | inr f ↦ rw f (place-none xs ys k (rw f at e))
    ]

place-first : (xs ys : List (Suffix × ℕ)) (k : List ℕ) → place_in ys k ≡ None → place_in (xs ++ ys) k ≡ place_in xs k
place-first [] ys k e = e
place-first (x ∷ xs) ys k e = ap (λ (o : Option ℕ). cond (is_eq (slice_cmp nat_cmp k (key x.0))) (Some x.1) o) (place-first xs ys k e)

-- among entries with other places behind their first labels it isn't
abbrev IsOff : Suffix → Suffix × ℕ → Type 0
IsOff s e = e.0.behind ≡ s.behind → ⊥

place-off : (s : Suffix) (es : List (Suffix × ℕ)) → AllByRecursion (IsOff s) es → place_in es (key s) ≡ None
place-off s [] all = refl
place-off s (e ∷ es) all =
    elim (cases_Bool (bytes_eq (key s) (key e.0))) [
      | inl t ↦ absurd (all.0 (let same : key s ≡ key e.0 = (bytes_eq-Decides (key s) (key e.0)).0 t in cc))
      | inr f ↦ place_in-step e es (key s) ∙ rw f (place-off s es all.1)
    ]

-- ---- halving

all-front : (P : Suffix × ℕ → Type 0) (xs ys : List (Suffix × ℕ)) → AllByRecursion P (xs ++ ys) → AllByRecursion P xs × AllByRecursion P ys
all-front P [] ys all = (tt, all)
all-front P (x ∷ xs) ys all = let r = all-front P xs ys all.1 in ((all.0, r.0), r.1)

all-more : (P Q : Suffix × ℕ → Type 0) (xs : List (Suffix × ℕ)) → ((x : Suffix × ℕ) → P x → Q x) → AllByRecursion P xs → AllByRecursion Q xs
all-more P Q [] f all = tt
all-more P Q (x ∷ xs) f all = (f x all.0, all-more P Q xs f all.1)

-- an entry that rises between others
record Halves (low : List (Suffix × ℕ)) (middle : Suffix × ℕ) (high : List (Suffix × ℕ)) : Type 0 where
  pub low_rises : Rises low
  pub high_rises : Rises high
  pub below : AreBelow middle.0.behind low
  pub above : AreAbove middle.0.behind high

halves : (low : List (Suffix × ℕ)) (middle : Suffix × ℕ) (high : List (Suffix × ℕ)) → Rises (low ++ middle ∷ high) → Halves low middle high
halves [] middle high r = record { low_rises = tt; high_rises = r.1; below = tt; above = r.0 }
halves (x ∷ low) middle high r =
    let h = halves low middle high r.1 in
    let all = all-front _ low (middle ∷ high) r.0 in
    record { low_rises = (all.0, h.low_rises); high_rises = h.high_rises; below = (all.1.0, h.below); above = h.above }

-- where a suffix is sought in a list that rises and was halved
pub record Halved (s : Suffix) (all low : List (Suffix × ℕ)) (middle : Suffix × ℕ) (high : List (Suffix × ℕ)) : Type 0 where
  pub in_low : s.behind < middle.0.behind → Rises low × (place_in all (key s) ≡ place_in low (key s))
  pub in_high : middle.0.behind < s.behind → Rises high × (place_in all (key s) ≡ place_in high (key s))
  pub in_middle : s.behind ≡ middle.0.behind → place_in all (key s) ≡ place_in (middle ∷ []) (key s)

pub halved : (s : Suffix) (all low rest : List (Suffix × ℕ)) (middle : Suffix × ℕ) (high : List (Suffix × ℕ)) → Rises all → all ≡ low ++ rest
    → rest ≡ middle ∷ high → Halved s all low middle high
halved s all low rest middle high rises cut first =
    let is = cut ∙ ap (λ (es : List (Suffix × ℕ)). low ++ es) first in
    subst (λ (es : List (Suffix × ℕ)). Halved s es low middle high) (sym is)
    (where_sought (subst (λ (es : List (Suffix × ℕ)). Rises es) is rises))
  where
    where_sought : Rises (low ++ middle ∷ high) → Halved s (low ++ middle ∷ high) low middle high
    where_sought r =
        let h = halves low middle high r in
        let high-off = λ (le : s.behind ≤ middle.0.behind).
        all-more _ (IsOff s) high (λ x gt same. omega (arith, le, gt, same)) h.above in
        let low-off = λ (le : middle.0.behind ≤ s.behind).
        all-more _ (IsOff s) low (λ x lt same. omega (arith, le, lt, same)) h.below in
        record {
          in_low = λ lt. (
            h.low_rises,
            place-first low (middle ∷ high) (key s)
                (place-off s (middle ∷ high) ((λ same. omega (arith, lt, same)), high-off (omega (arith, lt)))),
          );
          in_high = λ lt. (
            h.high_rises,
            place-none low (middle ∷ high) (key s) (place-off s low (low-off (omega (arith, lt))))
                ∙ place-none (middle ∷ []) high (key s) (place-off s (middle ∷ []) ((λ same. omega (arith, lt, same)), tt)),
          );
          in_middle = λ same. place-none low (middle ∷ high) (key s) (place-off s low (low-off (omega (arith, same))))
              ∙ place-first (middle ∷ []) high (key s) (place-off s high (high-off (omega (arith, same))));
        }

-- a suffix that comes before the first entry isn't there
pub before-all : (s : Suffix) (es : List (Suffix × ℕ)) (first : Suffix × ℕ) → Rises es → Some first ≡ slice_get es 0
    → s.behind < first.0.behind → place_in es (key s) ≡ None
before-all s [] first rises is below = refl
before-all s (e ∷ es) first rises is below =
    let same : first ≡ e = ap (λ (o : Option (Suffix × ℕ)). unwrap_or o e) is in
    let lt : s.behind < e.0.behind = subst (λ (x : Suffix × ℕ). s.behind < x.0.behind) same below in
    place-off s (e ∷ es) ((λ off. omega (arith, lt, off)), all-more _ (IsOff s) es (λ x above off. omega (arith, lt, above, off)) rises.0)

-- a list goes on to rise
pub rises-push : (es : List (Suffix × ℕ)) (e : Suffix × ℕ) → Rises es → AreBelow e.0.behind es → Rises (es ++ e ∷ [])
rises-push [] e r below = (tt, tt)
rises-push (x ∷ es) e r below = (above es r.0, rises-push es e r.1 below.1)
  where
    above : (ys : List (Suffix × ℕ)) → AreAbove x.0.behind ys → AreAbove x.0.behind (ys ++ e ∷ [])
    above [] all = (below.0, tt)
    above (y ∷ ys) all = (all.0, above ys all.1)

pub below-push : (es : List (Suffix × ℕ)) (e : Suffix × ℕ) (end : ℕ) → AreBelow end es → end ≤ e.0.behind
    → AreBelow (e.0.behind + 1) (es ++ e ∷ [])
below-push [] e end all le = (omega arith, tt)
below-push (x ∷ es) e end all le = (omega (arith, all.0, le), below-push es e end all.1 le)

pub below-later : (es : List (Suffix × ℕ)) (end more : ℕ) → AreBelow end es → end ≤ more → AreBelow more es
below-later es end more all le = all-more _ _ es (λ x lt. omega (arith, lt, le)) all

-- ---- a suffix comes in

pub enters-here : (s : Suffix) (place : ℕ) (es : List (Suffix × ℕ)) → Enters s place es ((s, place) ∷ es)
enters-here s place es = record {
  places = λ none k. place_in-step (s, place) es k ∙ ap (λ (b : Bool). cond b (Some place) (place_in es k)) (turned k (key s));
  starts = λ none all. put_start-last (record { place = place; octets = s.octets.now }) (starts_in es) all;
}
  where
    turned : (a b : List ℕ) → bytes_eq a b ≡ bytes_eq b a
    turned a b =
        elim (cases_Bool (bytes_eq b a)) [
          | inl t ↦ (bytes_eq-Decides a b).1 (sym ((bytes_eq-Decides b a).0 t)) ∙ sym t
          | inr f ↦
              elim (cases_Bool (bytes_eq a b)) [
                | inl t ↦ absurd (let q : bytes_eq b a ≡ true = (bytes_eq-Decides b a).1 (sym ((bytes_eq-Decides a b).0 t)) in cc)
                | inr g ↦ g ∙ sym f
              ]
        ]

enters-more : (s : Suffix) (place : ℕ) (x : Suffix × ℕ) (old new : List (Suffix × ℕ)) → Enters s place old new → Enters s place (x ∷ old) (x ∷ new)
enters-more s place x old new enters = record {
  places = λ none k.
      elim (cases_Bool (is_eq (slice_cmp nat_cmp (key s) (key x.0)))) [
        | inl t ↦ absurd (let h : Some x.1 ≡ None = rw t at none in cc)
        | inr f ↦
            let later = enters.places (rw f at none) k in
            elim (cases_Bool (is_eq (slice_cmp nat_cmp k (key x.0)))) [
              | inl y ↦
                  let off : bytes_eq (key s) k ≡ false =
                  (elim (cases_Bool (bytes_eq (key s) k)) [
                    | inl same ↦ absurd (let q : is_eq (slice_cmp nat_cmp k (key x.0)) ≡ false =
                        subst (λ (o : List ℕ). is_eq (slice_cmp nat_cmp o (key x.0)) ≡ false) ((bytes_eq-Decides (key s) k).0 same) f in cc)
                    | inr n ↦ n
                  ]) in
                  rw (off, y) refl
              | inr n ↦ rw n later
            ]
      ];
  starts = λ none all.
      let parts = put_start-all (IsBelow place) (record { place = x.1; octets = x.0.octets.now }) (starts_in old) all in
      elim (cases_Bool (is_eq (slice_cmp nat_cmp (key s) (key x.0)))) [
        | inl t ↦ absurd (let h : Some x.1 ≡ None = rw t at none in cc)
        | inr f ↦ rw (enters.starts (rw f at none) parts.1) (put_start-before (record { place = x.1; octets = x.0.octets.now })
            (record { place = place; octets = s.octets.now }) (starts_in old) parts.0)
      ];
}

pub enters-behind : (s : Suffix) (place : ℕ) (xs old new : List (Suffix × ℕ)) → Enters s place old new → Enters s place (xs ++ old) (xs ++ new)
enters-behind s place [] old new enters = enters
enters-behind s place (x ∷ xs) old new enters = enters-more s place x (xs ++ old) (xs ++ new) (enters-behind s place xs old new enters)

pub enters-tree : (s : Suffix) (place : ℕ) (m n : BTreeMap Suffix ℕ)
    → n.entries ≡ insert_entry (λ x y. slice_cmp nat_cmp (key x) (key y)) m.entries s place
    → UpdatesBy (λ x y. slice_cmp nat_cmp (key x) (key y)) (λ k. slice_cmp nat_cmp (key s) (key k)) m n (Some place)
    → Enters s place m.entries n.entries
enters-tree s place m n entries updates = record {
  places = λ none k. insert-place s m n (Some place) updates k;
  starts = λ none all. ap starts_in entries ∙ starts_in-insert m.entries s place none all;
}

-- a start that can be pointed to came in
pub remembers : (s : Suffix) (k octets : List ℕ) (place : ℕ) (old new : List (Suffix × ℕ)) → key s ≡ k → s.octets.now ≡ octets
    → place < 16384 → Enters s place old new → Remembers k octets place old new
remembers s k octets place old new key_is octets_are near enters =
    subst (λ (key : List ℕ). Remembers key octets place old new) key_is (subst (λ (all : List ℕ). Remembers (key s) all place old new) octets_are
    (record {
      near = λ _ none other. enters.places none other;
      starts = λ _ none all. enters.starts none (near_below place (starts_in old) all);
      far = λ far. absurd (omega (arith, near, far));
    }))
