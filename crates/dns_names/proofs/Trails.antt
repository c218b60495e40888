-- Trails over labels and pointers, and what is known at their places.
use Rattle.std.proofs.Common.{◌≡◌, ℕ, ◌+◌, ◌-◌, ◌≤◌, ◌<◌, List, [], ◌∷◌, ◌++◌, length, take, drop, reverse, refl, sym, ap, subst, ◌∙◌, arith, inl, inr, append_assoc}
use Rattle.std.specs.List.{AllByRecursion}
use Rattle.std.proofs.lemmas.List.{length-append, length-drop, length-take-le, reverse-append, take_all, take-append-le, drop-append-le, drop_at}
use Rattle.dns_names.specs.Prelude.{Root, Label, Pointer, Nothing, piece_at, Stands, AtRoot, AtLabel, AtPointer, NameAt, spelled, IsLabel, octets_of, known_by, Knows, AreKnown, Trail, Joins, Leads, Here}
use Rattle.dns_names.specs.Inside.Memo.{Says, known_there}
use Rattle.dns_names.specs.declared.known.Known.{Known}
use Rattle.dns_names.proofs.Reading.{at_label, at_pointer, at_nothing, same_name}
use Rattle.dns_names.proofs.Walking.{piece_at-label}

-- a name starts at or before the place where the trail is
pub trail-start : (m : List ℕ) (first : ℕ) (path : List ℕ) (start place : ℕ) (octets : List ℕ) → Trail m first path start place octets → start ≤ place
trail-start m first [] start place octets w = omega (arith, w.0, w.1)
trail-start m first (at ∷ path) start place octets w =
    let low : w.0 ≤ at = trail-start m first path w.0 at w.1 w.2 in
    elim w.3 [
      | inl l ↦ omega (arith, low, l.2, l.3)
      | inr p ↦ omega (arith, p.3, p.4)
    ]

-- how a name that begins where the trail does goes on at its end
pub record Goes (m : List ℕ) (labels : List (List ℕ)) (start place : ℕ) (octets : List ℕ) : Type 0 where
  pub rest : List (List ℕ)
  pub end : ℕ
  pub stands : Stands m start place rest end
  pub is : spelled labels ≡ octets ++ spelled rest

goes-long : (m : List ℕ) (labels : List (List ℕ)) (start place : ℕ) (octets : List ℕ) → (g : Goes m labels start place octets)
    → length (spelled labels) ≡ length octets + length (spelled g.rest)
goes-long m labels start place octets g = ap length g.is ∙ length-append octets (spelled g.rest)

goes-label : (m : List ℕ) (labels : List (List ℕ)) (from at : ℕ) (before : List ℕ) (start place : ℕ) (octets l : List ℕ)
    → Goes m labels from at before → piece_at m at ≡ Label l → start ≡ from → place ≡ at + 1 + length l → octets ≡ before ++ length l ∷ l
    → Goes m labels start place octets
goes-label m labels from at before start place octets l g e s p o =
    let next = at_label m from at g.rest g.end l g.stands e in
    let is : spelled labels ≡ (before ++ length l ∷ l) ++ spelled next.rest =
    g.is ∙ ap (λ (x : List (List ℕ)). before ++ spelled x) next.is ∙ sym (append_assoc before (length l ∷ l) (spelled next.rest)) in
    rw (s, p, o) (record { rest = next.rest; end = g.end; stands = next.stands; is = is })

goes-pointer : (m : List ℕ) (labels : List (List ℕ)) (from at : ℕ) (before : List ℕ) (start place : ℕ) (octets : List ℕ) (to : ℕ)
    → Goes m labels from at before → piece_at m at ≡ Pointer to → start ≡ to → place ≡ to → octets ≡ before → Goes m labels start place octets
goes-pointer m labels from at before start place octets to g e s p o =
    let next = at_pointer m from at g.rest g.end to g.stands e in
    rw (s, p, o) (record { rest = g.rest; end = next.2.0; stands = next.2.1; is = g.is })

pub trail-only : (m : List ℕ) (first : ℕ) (path : List ℕ) (start place : ℕ) (octets : List ℕ) (labels : List (List ℕ)) (after : ℕ)
    → Trail m first path start place octets → Stands m first first labels after → Goes m labels start place octets
trail-only m first [] start place octets labels after w s = rw (w.0, w.1, w.2) (record { rest = labels; end = after; stands = s; is = refl })
trail-only m first (at ∷ path) start place octets labels after w s =
    let g = trail-only m first path w.0 at w.1 labels after w.2 s in
    elim w.3 [
      | inl l ↦ goes-label m labels w.0 at w.1 start place octets l.0 g l.1 l.2 l.3 l.4
      | inr p ↦ goes-pointer m labels w.0 at w.1 start place octets p.0 g p.1 p.3 p.4 p.5
    ]

-- ---- what is known stays known

-- octets that are kept stay where they are
kept-more : (kept more : List ℕ) (from count : ℕ) → from + count ≤ length kept → take count (drop from (kept ++ more)) ≡ take count (drop from kept)
kept-more kept more from count within =
    let low : from ≤ length kept = omega (arith, within) in
    let enough : count ≤ length (drop from kept) = omega (arith, within, length-drop from kept) in
    ap (λ (x : List ℕ). take count x) (drop-append-le from kept more low) ∙ take-append-le count (drop from kept) more enough

pub says-more : (m kept more : List ℕ) (place : ℕ) (k : Known) (labels : List (List ℕ)) → Says m kept place k labels
    → Says m (kept ++ more) place k labels
says-more m kept more place k labels s = record {
  octets_are = kept-more kept more k.from k.count s.within ∙ s.octets_are;
  within = omega (arith, s.within, length-append kept more);
  stands = s.stands;
  only = s.only;
}

pub are-known-more : (m kept more : List ℕ) (known : List Known) → AreKnown m kept known → AreKnown m (kept ++ more) known
are-known-more m kept more known a = record {
  each = λ place lt some. let k = a.each place lt some in (k.0, says-more m kept more place (known_there known place) k.0 k.1);
}

-- ---- where a trail ends

pub says-long : (m kept : List ℕ) (place : ℕ) (k : Known) (labels : List (List ℕ)) → Says m kept place k labels → length (spelled labels) ≡ k.count
says-long m kept place k labels s =
    let enough : k.count ≤ length (drop k.from kept) = omega (arith, s.within, length-drop k.from kept) in
    sym (ap length s.octets_are) ∙ length-take-le k.count (drop k.from kept) enough

-- at the root octet
pub says-root : (m kept : List ℕ) (at : ℕ) (k : Known) → piece_at m at ≡ Root → k.from ≡ 0 → k.start ≡ 0 → k.count ≡ 0 → k.after ≡ at + 1
    → Says m kept at k []
says-root m kept at k e from start count after = record {
  octets_are = rw count refl;
  within = omega (arith, from, count);
  stands = λ s le. rw after (AtRoot s at e);
  only = λ s labels end x. omega (arith, start);
}

-- where a name is known whose start is too high, none stands at the first place
pub none-high : (m kept : List ℕ) (first : ℕ) (path : List ℕ) (start place : ℕ) (octets : List ℕ) (k : Known) → Trail m first path start place octets
    → Knows m kept place k → start < k.start
    → (labels : List (List ℕ)) (after : ℕ) → NameAt m first labels after → ⊥
none-high m kept first path start place octets k w know high labels after n =
    let g = trail-only m first path start place octets labels after w n.stands in
    let low = know.1.only start g.rest g.end g.stands in
    omega (arith, low, high)

-- nor where it is too long
pub none-long : (m kept : List ℕ) (first : ℕ) (path : List ℕ) (start place : ℕ) (octets : List ℕ) (k : Known) → Trail m first path start place octets
    → Knows m kept place k → 254 < length octets + k.count
    → (labels : List (List ℕ)) (after : ℕ) → NameAt m first labels after → ⊥
none-long m kept first path start place octets k w know long labels after n =
    let g = trail-only m first path start place octets labels after w n.stands in
    let low = know.1.only start g.rest g.end g.stands in
    let same = same_name m start place know.0 g.rest k.after g.end (know.1.stands start low) g.stands in
    omega (
      arith,
      n.short,
      long,
      goes-long m labels start place octets g,
      says-long m kept place k know.0 know.1,
      ap (λ (x : List (List ℕ)). length (spelled x)) same.0,
    )

pub none-label : (m : List ℕ) (first : ℕ) (path : List ℕ) (start place : ℕ) (octets l : List ℕ) → Trail m first path start place octets
    → piece_at m place ≡ Label l → 254 < length octets + 1 + length l
    → (labels : List (List ℕ)) (after : ℕ) → NameAt m first labels after → ⊥
none-label m first path start place octets l w e long labels after n =
    let g = trail-only m first path start place octets labels after w n.stands in
    let next = at_label m start place g.rest g.end l g.stands e in
    omega (
      arith,
      n.short,
      long,
      goes-long m labels start place octets g,
      ap (λ (x : List (List ℕ)). length (spelled x)) next.is,
      length-append l (spelled next.rest),
    )

pub none-up : (m : List ℕ) (first : ℕ) (path : List ℕ) (start place : ℕ) (octets : List ℕ) (to : ℕ) → Trail m first path start place octets
    → piece_at m place ≡ Pointer to → start ≤ to
    → (labels : List (List ℕ)) (after : ℕ) → NameAt m first labels after → ⊥
none-up m first path start place octets to w e le labels after n =
    let g = trail-only m first path start place octets labels after w n.stands in
    let next = at_pointer m start place g.rest g.end to g.stands e in omega (arith, next.0, le)

pub none-nothing : (m : List ℕ) (first : ℕ) (path : List ℕ) (start place : ℕ) (octets : List ℕ) → Trail m first path start place octets
    → piece_at m place ≡ Nothing
    → (labels : List (List ℕ)) (after : ℕ) → NameAt m first labels after → ⊥
none-nothing m first path start place octets w e labels after n =
    let g = trail-only m first path start place octets labels after w n.stands in at_nothing m start place g.rest g.end g.stands e

-- ---- one step more

pub reverse-push : (path : List ℕ) (at : ℕ) → reverse (path ++ at ∷ []) ≡ at ∷ reverse path
reverse-push path at = reverse-append path (at ∷ [])

pub trail-label : (m : List ℕ) (first : ℕ) (path : List ℕ) (start at : ℕ) (octets l : List ℕ) → Trail m first (reverse path) start at octets
    → piece_at m at ≡ Label l → Trail m first (reverse (path ++ at ∷ [])) start (at + 1 + length l) (octets ++ length l ∷ l)
trail-label m first path start at octets l w e = rw (reverse-push path at) (start, octets, w, inl (l, e, refl, refl, refl))

pub trail-pointer : (m : List ℕ) (first : ℕ) (path : List ℕ) (start at : ℕ) (octets : List ℕ) (to : ℕ) → Trail m first (reverse path) start at octets
    → piece_at m at ≡ Pointer to → to < start → Trail m first (reverse (path ++ at ∷ [])) to to octets
trail-pointer m first path start at octets to w e lt = rw (reverse-push path at) (start, octets, w, inr (to, e, lt, refl, refl, refl))

-- ---- one step back

-- the trail before its last step
last : (m kept : List ℕ) (first : ℕ) (path : List ℕ) (at : ℕ) (k : Known) (leads : Leads m kept first (path ++ at ∷ []) k)
    → Trail m first (at ∷ reverse path) leads.start leads.place leads.octets
last m kept first path at k leads = subst (λ (p : List ℕ). Trail m first p leads.start leads.place leads.octets) (reverse-push path at) leads.trail

-- a label behind which a name is known: its octets are kept in front of that name's
pub record Behind (m kept : List ℕ) (k : Known) (l : List ℕ) : Type 0 where
  pub fits : k.count + 1 + length l ≤ 254
  pub room : k.count + 1 + length l ≤ length kept

-- what is kept at the end of the octets
ended : (kept base front labels : List ℕ) (count : ℕ) → kept ≡ base ++ (front ++ labels) → length labels ≡ count
    → (length base + length front ≡ length kept - count) × (count ≤ length kept)
ended kept base front labels count is long = (
  omega (arith, ap length is, length-append base (front ++ labels), length-append front labels, long),
  omega (arith, ap length is, length-append base (front ++ labels), length-append front labels, long),
)

says-label : (m kept : List ℕ) (at : ℕ) (l : List ℕ) (k : Known) (labels : List (List ℕ)) (base before : List ℕ) → piece_at m at ≡ Label l
    → Says m kept (at + 1 + length l) k labels → kept ≡ base ++ (before ++ spelled (l ∷ labels))
    → Says m kept at (known_by (Label l) at (length kept) k) (l ∷ labels)
says-label m kept at l k labels base before e s is =
    let whole : List ℕ = spelled (l ∷ labels) in
    let size : length whole ≡ k.count + 1 + length l =
    omega (arith, length-append l (spelled labels), says-long m kept (at + 1 + length l) k labels s) in
    let here = ended kept base before whole (k.count + 1 + length l) is size in
    let from : length (base ++ before) ≡ length kept - (k.count + 1 + length l) = length-append base before ∙ here.0 in
    let octets : kept ≡ (base ++ before) ++ whole = is ∙ sym (append_assoc base before whole) in
    record {
      octets_are = ap (λ (x : List ℕ). take (k.count + 1 + length l) (drop (length kept - (k.count + 1 + length l)) x)) octets
          ∙ ap (λ (x : List ℕ). take (k.count + 1 + length l) x) (drop_at (base ++ before) whole (length kept - (k.count + 1 + length l)) from)
          ∙ take_all (k.count + 1 + length l) whole (omega (arith, size));
      within = omega (arith, here.1);
      stands = λ start le. AtLabel start at l labels k.after e (s.stands start le);
      only = λ start ls after x. let g = at_label m start at ls after l x e in s.only start g.rest after g.stands;
    }

says-pointer : (m kept : List ℕ) (at to end : ℕ) (k : Known) (labels : List (List ℕ)) → piece_at m at ≡ Pointer to → Says m kept to k labels
    → k.start ≤ to → Says m kept at (known_by (Pointer to) at end k) labels
says-pointer m kept at to end k labels e s low = record {
  octets_are = s.octets_are;
  within = s.within;
  stands = λ start le. AtPointer start at to labels k.after e (omega (arith, le)) (s.stands to low);
  only = λ start ls after x. let g = at_pointer m start at ls after to x e in omega (arith, g.0);
}

-- the octets in front of a label of the trail, and its own, stand before those of the labels behind it
spelled-back : (kept base octets before l : List ℕ) (labels : List (List ℕ)) → kept ≡ base ++ (octets ++ spelled labels)
    → octets ≡ before ++ length l ∷ l → kept ≡ base ++ (before ++ spelled (l ∷ labels))
spelled-back kept base octets before l labels is o =
    is ∙ ap (λ (x : List ℕ). base ++ (x ++ spelled labels)) o ∙ ap (λ (x : List ℕ). base ++ x) (append_assoc before (length l ∷ l) (spelled labels))

some-octets : (octets before l : List ℕ) → octets ≡ before ++ length l ∷ l → 1 ≤ length octets
some-octets octets before l o = omega (arith, ap length o, length-append before (length l ∷ l))

pub behind : (m kept : List ℕ) (first : ℕ) (path : List ℕ) (at : ℕ) (k : Known) (l : List ℕ) → Leads m kept first (path ++ at ∷ []) k
    → piece_at m at ≡ Label l → Behind m kept k l
behind m kept first path at k l leads e =
    let w = last m kept first path at k leads in
    elim w.3 [
      | inl s ↦
          let same : s.0 ≡ l = (let q : Label s.0 ≡ Label l = sym s.1 ∙ e in cc) in
          let ends = leads.ends (some-octets leads.octets w.1 s.0 s.4) in
          let size : length leads.octets ≡ length w.1 + 1 + length l =
          omega (arith, ap length s.4, length-append w.1 (length s.0 ∷ s.0), ap length same) in
          let long = says-long m kept leads.place k leads.labels leads.says in
          record {
            fits = omega (arith, leads.short, size);
            room = omega (
              arith,
              ap length ends.1,
              length-append ends.0 (leads.octets ++ spelled leads.labels),
              length-append leads.octets (spelled leads.labels),
              size,
              long,
            );
          }
      | inr s ↦ absurd (let q : Pointer s.0 ≡ Label l = sym s.1 ∙ e in cc)
    ]

pub below-back : (m kept : List ℕ) (first : ℕ) (path : List ℕ) (at : ℕ) (k : Known) (to : ℕ) → Leads m kept first (path ++ at ∷ []) k
    → piece_at m at ≡ Pointer to → to < at
below-back m kept first path at k to leads e =
    let w = last m kept first path at k leads in
    let low = trail-start m first (reverse path) w.0 at w.1 w.2 in
    elim w.3 [
      | inl s ↦ absurd (let q : Label s.0 ≡ Pointer to = sym s.1 ∙ e in cc)
      | inr s ↦ let same : s.0 ≡ to = (let q : Pointer s.0 ≡ Pointer to = sym s.1 ∙ e in cc) in omega (arith, low, s.2, same)
    ]

-- what the step back gives
pub record SteppedBack (m kept : List ℕ) (first : ℕ) (path : List ℕ) (at : ℕ) (k : Known) : Type 0 where
  pub leads : Leads m kept first path k
  pub here : Knows m kept at k

back-label : (m kept : List ℕ) (first : ℕ) (path : List ℕ) (from at : ℕ) (before : List ℕ) (k : Known) (l : List ℕ) (labels : List (List ℕ))
    (base : List ℕ) → Trail m first (reverse path) from at before → piece_at m at ≡ Label l
    → Says m kept (at + 1 + length l) k labels → k.start ≤ from → length before + 1 + length l + k.count ≤ 254
    → kept ≡ base ++ (before ++ spelled (l ∷ labels)) → SteppedBack m kept first path at (known_by (piece_at m at) at (length kept) k)
back-label m kept first path from at before k l labels base w e says low short is =
    let s = says-label m kept at l k labels base before e says is in
    rw e (record {
      leads = record {
        start = from;
        place = at;
        octets = before;
        trail = w;
        labels = l ∷ labels;
        says = s;
        low = low;
        short = omega (arith, short);
        ends = λ _. (base, is);
      };
      here = (l ∷ labels, s);
    })

back-pointer : (m kept : List ℕ) (first : ℕ) (path : List ℕ) (from at : ℕ) (before : List ℕ) (k : Known) (to : ℕ) (labels : List (List ℕ))
    → Trail m first (reverse path) from at before → piece_at m at ≡ Pointer to → to < from
    → Says m kept to k labels → k.start ≤ to → length before + k.count ≤ 254
    → (1 ≤ length before → (base : List ℕ) × (kept ≡ base ++ (before ++ spelled labels)))
    → SteppedBack m kept first path at (known_by (piece_at m at) at (length kept) k)
back-pointer m kept first path from at before k to labels w e lt says low short ends =
    let s = says-pointer m kept at to (length kept) k labels e says low in
    rw e (record {
      leads = record {
        start = from;
        place = at;
        octets = before;
        trail = w;
        labels = labels;
        says = s;
        low = omega (arith, lt);
        short = short;
        ends = ends;
      };
      here = (labels, s);
    })

pub stepped-back : (m kept : List ℕ) (first : ℕ) (path : List ℕ) (at : ℕ) (k : Known) → Leads m kept first (path ++ at ∷ []) k
    → SteppedBack m kept first path at (known_by (piece_at m at) at (length kept) k)
stepped-back m kept first path at k leads =
    let w = last m kept first path at k leads in
    elim w.3 [
      | inl s ↦
          let says : Says m kept (at + 1 + length s.0) k leads.labels = subst (λ (p : ℕ). Says m kept p k leads.labels) s.3 leads.says in
          let ends = leads.ends (some-octets leads.octets w.1 s.0 s.4) in
          let low : k.start ≤ w.0 = omega (arith, leads.low, s.2) in
          let short : length w.1 + 1 + length s.0 + k.count ≤ 254 = omega (arith, leads.short, ap length s.4, length-append w.1 (length s.0 ∷ s.0)) in
          back-label m kept first path w.0 at w.1 k s.0 leads.labels ends.0 w.2 s.1 says low short
          (spelled-back kept ends.0 leads.octets w.1 s.0 leads.labels ends.1 s.4)
      | inr s ↦
          let says : Says m kept s.0 k leads.labels = subst (λ (p : ℕ). Says m kept p k leads.labels) s.4 leads.says in
          let low : k.start ≤ s.0 = omega (arith, leads.low, s.3) in
          let short : length w.1 + k.count ≤ 254 = omega (arith, leads.short, ap length s.5) in
          back-pointer m kept first path w.0 at w.1 k s.0 leads.labels w.2 s.1 s.2 says low short
          (subst (λ (o : List ℕ). 1 ≤ length o → (base : List ℕ) × (kept ≡ base ++ (o ++ spelled leads.labels))) s.5 leads.ends)
    ]

-- ---- the whole name

-- a trail leads to where it joins, once the octets of the whole name are kept
pub joined : (m old kept new : List ℕ) (first : ℕ) (path : List ℕ) (k : Known) (more : List ℕ) → Joins m old kept first path k → new ≡ kept ++ more
    → (1 ≤ length kept - length old → more ≡ octets_of kept k) → Leads m new first path k
joined m old kept new first path k more j is some =
    let says : Says m kept j.place k j.knows.0 = rw j.added (says-more m old j.octets j.place k j.knows.0 j.knows.1) in
    let size : length kept - length old ≡ length j.octets = omega (arith, ap length j.added, length-append old j.octets) in
    record {
      start = j.start;
      place = j.place;
      octets = j.octets;
      trail = j.trail;
      labels = j.knows.0;
      says = rw is (says-more m kept more j.place k j.knows.0 says);
      low = j.low;
      short = j.short;
      ends = λ one. (
        old,
        is ∙ ap (λ (x : List ℕ). kept ++ x) (some (omega (arith, one, size)) ∙ says.octets_are)
            ∙ ap (λ (x : List ℕ). x ++ spelled j.knows.0) j.added ∙ append_assoc old j.octets (spelled j.knows.0),
      );
    }

-- labels that stand anywhere are labels
pub stands-labels : (m : List ℕ) (start place : ℕ) (labels : List (List ℕ)) (after : ℕ) → Stands m start place labels after
    → AllByRecursion IsLabel labels
stands-labels m _ _ _ _ (AtRoot start place e) = tt
stands-labels m _ _ _ _ (AtLabel start place l ls after e s) = (piece_at-label m place l e, stands-labels m start (place + 1 + length l) ls after s)
stands-labels m _ _ _ _ (AtPointer start place to ls after e lt s) = stands-labels m to to ls after s

pub here : (m kept : List ℕ) (first : ℕ) (k : Known) → Leads m kept first [] k → Here m kept first k
here m kept first k leads =
    let start : leads.start ≡ first = leads.trail.0 in
    let says : Says m kept first k leads.labels = subst (λ (p : ℕ). Says m kept p k leads.labels) leads.trail.1 leads.says in
    let stands = says.stands first (omega (arith, leads.low, start)) in
    let short : length (spelled leads.labels) ≤ 254 = omega (arith, says-long m kept first k leads.labels says, leads.short) in
    record {
      labels = leads.labels;
      name = record { stands = stands; short = short };
      octets_are = says.octets_are;
      within = says.within;
      is_name = record { labels = stands-labels m first first leads.labels k.after stands; short = short };
    }
