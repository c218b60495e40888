-- The session of one connection becomes another.
use Rattle.std.proofs.Common.{◌≡◌, ◌≢◌, ◌<◌, ℕ, zero, suc, ◌+◌, List, [], ◌∷◌, ◌++◌, length, set, take, drop, get_or, All, AllPairs, Option, Some, None, option_map, is_some, refl, sym, ◌∙◌, ap, subst, arith, inl, inr, option_and_then, option_to_list, slice_get, IfSome, IsSome, remove}
use Rattle.std.proofs.lemmas.List.{length-append, map-append, take-map, drop-map}
use Rattle.std.proofs.lemmas.List.Edits.{length-remove}
use Rattle.std.proofs.lemmas.List.Quantifiers.{all_pairs_remove}
use Rattle.std.proofs.lemmas.List.Elements.{All-head, All-tail, All-cons, All-nil, All-weaker, All-append, All-take, All-drop}
use Rattle.std.proofs.lemmas.Bool.{cases_eq}
use Rattle.slab.specs.Slab.{Slab, get, slab_len, Updates}
use Rattle.tcp_tracker.specs.Prelude.{is_of, place_of, connection_of, changed, without, with_session, inline, joined, IsKept, slots_of, IsJoined, replaced}
use Rattle.tcp_tracker.specs.declared.connection.ConnKey.{ConnKey}
use Rattle.tcp_tracker.specs.declared.connection.Connection.{Connection}
use Rattle.tcp_tracker.proofs.Joining.{place_joined, connection_joined, slots_removed, place_within, none_past}

pub head_apart : (s : ℕ) (ys : List ℕ) → AllPairs (λ one two. one ≢ two) (s ∷ ys) → All (λ y. s ≢ y) ys
head_apart s ys h = λ k d lt. h 0 (suc k) d (omega arith) (omega arith)

rest_apart : (s : ℕ) (ys : List ℕ) → AllPairs (λ one two. one ≢ two) (s ∷ ys) → AllPairs (λ one two. one ≢ two) ys
rest_apart s ys h = λ i j d less lt. h (suc i) (suc j) d (omega arith) (omega arith)

pub tail_apart : (o : Option ℕ) (ys : List ℕ) → AllPairs (λ one two. one ≢ two) (option_to_list o ++ ys) → AllPairs (λ one two. one ≢ two) ys
tail_apart None ys h = h
tail_apart (Some s) ys h = rest_apart s ys h

-- a connection that has the slot is none of those without it
lacking : (slot : ℕ) (all : List (Connection ℕ)) → All (λ y. slot ≢ y) (slots_of all) → All (λ (c : Connection ℕ). c.session ≢ Some slot) all
lacking slot [] h = All-nil (λ (c : Connection ℕ). c.session ≢ Some slot)
lacking slot (c ∷ all) h = by_session c.session refl h (λ k. lacking slot all k)
  where
    by_session : (o : Option ℕ) → c.session ≡ o → All (λ y. slot ≢ y) (option_to_list o ++ slots_of all)
        → (All (λ y. slot ≢ y) (slots_of all) → All (λ (c : Connection ℕ). c.session ≢ Some slot) all)
        → All (λ (c : Connection ℕ). c.session ≢ Some slot) (c ∷ all)
    by_session None e h more = All-cons (λ (c : Connection ℕ). c.session ≢ Some slot) c all (λ f. absurd (let x : None ≡ Some slot = sym e ∙ f in cc))
        (more h)
    by_session (Some s) e h more =
        let other = All-head (λ (y : ℕ). slot ≢ y) s (slots_of all) h in
        All-cons (λ (c : Connection ℕ). c.session ≢ Some slot) c all (λ f. let x : Some slot ≡ Some s = sym f ∙ e in let y : slot ≡ s = cc in other y)
        (more (All-tail (λ (y : ℕ). slot ≢ y) s (slots_of all) h))

-- the slot of a connection is among the slots
in_slots : (all : List (Connection ℕ)) (i slot : ℕ) (c : Connection ℕ) → slice_get all i ≡ Some c → c.session ≡ Some slot
    → All (λ y. slot ≢ y) (slots_of all) → ⊥
in_slots [] i slot c at e h = cc
in_slots (z ∷ all) zero slot c at e h =
    let same : z ≡ c = cc in
    let is : z.session ≡ Some slot = ap (λ (d : Connection ℕ). d.session) same ∙ e in
    All-head (λ (y : ℕ). slot ≢ y) slot (slots_of all) (subst (λ (o : Option ℕ). All (λ y. slot ≢ y) (option_to_list o ++ slots_of all)) is h) refl
in_slots (z ∷ all) (suc i) slot c at e h = in_slots all i slot c at e (rest z.session h)
  where
    rest : (o : Option ℕ) → All (λ y. slot ≢ y) (option_to_list o ++ slots_of all) → All (λ y. slot ≢ y) (slots_of all)
    rest None h = h
    rest (Some s) h = All-tail (λ (y : ℕ). slot ≢ y) s (slots_of all) h

inline_other : {X : Type 0} (old new : Slab X) (slot : ℕ) (v : Option X) (c : Connection ℕ) → Updates old new slot v → c.session ≢ Some slot
    → inline new c ≡ inline old c
inline_other {X = X} old new slot v c u other =
    ap (λ (o : Option X). record {
      key = c.key;
      left_acknowledges = c.left_acknowledges;
      right_acknowledges = c.right_acknowledges;
      closing = c.closing;
      session = o;
      until = c.until;
    }) (by_session c.session other)
  where
    by_session : (o : Option ℕ) → o ≢ Some slot → option_and_then (get new) o ≡ option_and_then (get old) o
    by_session None n = refl
    by_session (Some s) n = u.others s (λ e. n (ap (λ (x : ℕ). Some x) e))

joined_other : {X : Type 0} (old new : Slab X) (slot : ℕ) (v : Option X) (all : List (Connection ℕ)) → Updates old new slot v
    → All (λ (c : Connection ℕ). c.session ≢ Some slot) all → joined new all ≡ joined old all
joined_other old new slot v [] u h = refl
joined_other {X = X} old new slot v (c ∷ all) u h =
    ap (λ (x : Connection X). x ∷ joined new all) (inline_other old new slot v c u (All-head (λ (d : Connection ℕ). d.session ≢ Some slot) c all h))
    ∙ ap (λ (xs : List (Connection X)). inline old c ∷ xs)
    (joined_other old new slot v all u (All-tail (λ (d : Connection ℕ). d.session ≢ Some slot) c all h))

joined_set : {X : Type 0} (old new : Slab X) (slot : ℕ) (v : Option X) (all : List (Connection ℕ)) (i : ℕ) (c : Connection ℕ)
    → AllPairs (λ one two. one ≢ two) (slots_of all) → slice_get all i ≡ Some c → c.session ≡ Some slot → Updates old new slot v
    → joined new all ≡ set (joined old all) i (inline new c)
joined_set old new slot v [] i c apart at e u = absurd (cc)
joined_set {X = X} old new slot v (z ∷ all) zero c apart at e u =
    let same : z ≡ c = cc in
    let is : z.session ≡ Some slot = ap (λ (d : Connection ℕ). d.session) same ∙ e in
    let head : All (λ y. slot ≢ y) (slots_of all) = head_apart slot (slots_of all)
    (subst (λ (o : Option ℕ). AllPairs (λ one two. one ≢ two) (option_to_list o ++ slots_of all)) is apart) in
    ap (λ (d : Connection ℕ). inline new d ∷ joined new all) same
    ∙ ap (λ (xs : List (Connection X)). inline new c ∷ xs) (joined_other old new slot v all u (lacking slot all head))
joined_set {X = X} old new slot v (z ∷ all) (suc i) c apart at e u =
    ap (λ (x : Connection X). x ∷ joined new all) (inline_other old new slot v z u lacks)
    ∙ ap (λ (xs : List (Connection X)). inline old z ∷ xs) (joined_set old new slot v all i c (tail_apart z.session (slots_of all) apart) at e u)
  where
    lacks : z.session ≢ Some slot
    lacks = λ f. in_slots all i slot c at e
        (head_apart slot (slots_of all) (subst (λ (o : Option ℕ). AllPairs (λ one two. one ≢ two) (option_to_list o ++ slots_of all)) f apart))

pub replaced_is : {X : Type 0} (old new : Slab X) (all : List (Connection ℕ)) (key : ConnKey) (slot : ℕ) (session : X) → IsJoined all old
    → option_and_then (λ (c : Connection ℕ). c.session) (connection_of key all) ≡ Some slot → Updates old new slot (Some session)
    → joined new all ≡ replaced (joined old all) key session
replaced_is {X = X} old new all key slot session h is u =
    by_place (place_of key all) refl is
    ∙ ap (λ (o : Option ℕ). changed (joined old all) o (option_map (with_session (Some session)) (option_map (inline old) (connection_of key all))))
    (sym (place_joined old key all))
    ∙ ap (λ (o : Option (Connection X)). changed (joined old all) (place_of key (joined old all)) (option_map (with_session (Some session)) o))
    (sym (connection_joined old key all))
  where
    with_new : (c : Connection ℕ) → c.session ≡ Some slot → inline new c ≡ with_session (Some session) (inline old c)
    with_new c e = ap (λ (o : Option X).
        record {
          key = c.key;
          left_acknowledges = c.left_acknowledges;
          right_acknowledges = c.right_acknowledges;
          closing = c.closing;
          session = o;
          until = c.until;
        }) (ap (option_and_then (get new)) e ∙ u.changed)

    by_element : (i : ℕ) (o : Option (Connection ℕ)) → slice_get all i ≡ o → option_and_then (λ (c : Connection ℕ). c.session) o ≡ Some slot
        → joined new all ≡ changed (joined old all) (Some i) (option_map (with_session (Some session)) (option_map (inline old) o))
    by_element i None e s = absurd (cc)
    by_element i (Some c) e s = joined_set old new slot (Some session) all i c h.apart e s u
        ∙ ap (λ (x : Connection X). set (joined old all) i x) (with_new c s)

    by_place : (p : Option ℕ) → place_of key all ≡ p → option_and_then (λ (c : Connection ℕ). c.session) (connection_of key all) ≡ Some slot
        → joined new all ≡ changed (joined old all) (place_of key all)
        (option_map (with_session (Some session)) (option_map (inline old) (connection_of key all)))
    by_place None p s = absurd
        (let x : None ≡ Some slot = sym
        (ap (λ (o : Option ℕ). option_and_then (λ (c : Connection ℕ). c.session) (option_and_then (slice_get all) o)) p) ∙ s in cc)
    by_place (Some i) p s =
        let found = ap (option_and_then (slice_get all)) p in
        by_element i (slice_get all i) refl (sym (ap (option_and_then (λ (c : Connection ℕ). c.session)) found) ∙ s)
        ∙ ap (λ (o : Option ℕ). changed (joined old all) o
        (option_map (with_session (Some session)) (option_map (inline old) (option_and_then (slice_get all) o)))) (sym p)

pub replaced_joined : {X : Type 0} (old new : Slab X) (all : List (Connection ℕ)) (slot : ℕ) (session : X) → IsJoined all old
    → Updates old new slot (Some session) → slab_len new ≡ slab_len old → new.capacity ≡ old.capacity → IsJoined all new
replaced_joined old new all slot session h u len capacity = record {
  kept = All-weaker (IsKept old) (IsKept new) (λ c k. by_session c.session k) all h.kept;
  apart = h.apart;
  counted = len ∙ h.counted;
  room = omega (arith, h.room, capacity);
}
  where
    by_slot : (s : ℕ) → IsSome (get old s) → IsSome (get new s)
    by_slot s k = elim (cases_eq s slot) [
      | inl same ↦ ap (λ n. is_some (get new n)) same ∙ ap is_some u.changed
      | inr other ↦ ap is_some (u.others s other) ∙ k
    ]

    by_session : (o : Option ℕ) → IfSome o (λ s. IsSome (get old s)) → IfSome o (λ s. IsSome (get new s))
    by_session None k = tt
    by_session (Some s) k = by_slot s k

-- ## A connection goes

remove_joined : {X : Type 0} (slots : Slab X) (all : List (Connection ℕ)) (i : ℕ) → joined slots (remove all i) ≡ remove (joined slots all) i
remove_joined slots all i = map-append (inline slots) (take i all) (drop (suc i) all)
    ∙ sym (rw (take-map (inline slots) i all, drop-map (inline slots) (suc i) all) refl)

-- no other connection has its slot
others_lack : (all : List (Connection ℕ)) (i slot : ℕ) (c : Connection ℕ) → AllPairs (λ one two. one ≢ two) (slots_of all) → slice_get all i ≡ Some c
    → c.session ≡ Some slot → All (λ (d : Connection ℕ). d.session ≢ Some slot) (remove all i)
others_lack [] i slot c apart at e = absurd (cc)
others_lack (z ∷ all) zero slot c apart at e =
    let same : z ≡ c = cc in
    let is : z.session ≡ Some slot = ap (λ (d : Connection ℕ). d.session) same ∙ e in
    lacking slot all (head_apart slot (slots_of all)
    (subst (λ (o : Option ℕ). AllPairs (λ one two. one ≢ two) (option_to_list o ++ slots_of all)) is apart))
others_lack (z ∷ all) (suc i) slot c apart at e =
    All-cons (λ (d : Connection ℕ). d.session ≢ Some slot) z (remove all i)
    (λ f. in_slots all i slot c at e
    (head_apart slot (slots_of all) (subst (λ (o : Option ℕ). AllPairs (λ one two. one ≢ two) (option_to_list o ++ slots_of all)) f apart)))
    (others_lack all i slot c (tail_apart z.session (slots_of all) apart) at e)

-- its slot goes from the list of slots
record IsCut (all : List (Connection ℕ)) (i : ℕ) : Type 0 where
  place : ℕ
  within : place < length (slots_of all)
  cut : slots_of (remove all i) ≡ remove (slots_of all) place

slots_cut : (all : List (Connection ℕ)) (i slot : ℕ) (c : Connection ℕ) → slice_get all i ≡ Some c → c.session ≡ Some slot → IsCut all i
slots_cut [] i slot c at e = absurd (cc)
slots_cut (z ∷ all) zero slot c at e =
    let same : z ≡ c = cc in
    let is : option_to_list z.session ≡ slot ∷ [] = ap (λ (d : Connection ℕ). option_to_list d.session) same
    ∙ ap (λ (o : Option ℕ). option_to_list o) e in
    record {
      place = 0;
      within = omega (arith, length-append (option_to_list z.session) (slots_of all), ap length is);
      cut = ap (λ (xs : List ℕ). remove (xs ++ slots_of all) 0) (sym is);
    }
slots_cut (z ∷ all) (suc i) slot c at e = let k = by_session z.session (slots_cut all i slot c at e) in
    record { place = k.0; within = k.1; cut = k.2 }
  where
    by_session : (o : Option ℕ) → IsCut all i → (place : ℕ) × (place < length (option_to_list o ++ slots_of all))
        × (option_to_list o ++ slots_of (remove all i) ≡ remove (option_to_list o ++ slots_of all) place)
    by_session None k = (k.place, k.within, k.cut)
    by_session (Some s) k = (suc k.place, let w = k.within in omega arith, ap (λ (xs : List ℕ). s ∷ xs) k.cut)

pub gone_joined : {X : Type 0} (old new : Slab X) (all : List (Connection ℕ)) (i slot : ℕ) (c : Connection ℕ) → IsJoined all old
    → slice_get all i ≡ Some c → c.session ≡ Some slot → Updates old new slot None → slab_len new + 1 ≡ slab_len old → new.capacity ≡ old.capacity
    → IsJoined (remove all i) new
gone_joined old new all i slot c h at e u len capacity =
    let k = slots_cut all i slot c at e in
    let lack = others_lack all i slot c h.apart at e in
    let kept = All-append (IsKept old) (take i all) (drop (suc i) all) (All-take (IsKept old) i all h.kept)
    (All-drop (IsKept old) (suc i) all h.kept) in
    record {
      kept = λ n d lt. still (get_or (remove all i) n d) (kept n d lt) (lack n d lt);
      apart = subst (λ (xs : List ℕ). AllPairs (λ one two. one ≢ two) xs) (sym k.cut)
          (all_pairs_remove (λ (one two : ℕ). one ≢ two) (slots_of all) k.place k.within h.apart);
      counted = omega (arith, len, h.counted, ap length k.cut, length-remove (slots_of all) k.place k.within);
      room = omega (arith, h.room, capacity);
    }
  where
    by_session : (o : Option ℕ) → IfSome o (λ s. IsSome (get old s)) → o ≢ Some slot → IfSome o (λ s. IsSome (get new s))
    by_session None k n = tt
    by_session (Some s) k n = ap is_some (u.others s (λ f. n (ap (λ (x : ℕ). Some x) f))) ∙ k

    still : (d : Connection ℕ) → IsKept old d → d.session ≢ Some slot → IsKept new d
    still d k n = by_session d.session k n

-- the table without a connection
pub record IsWithout {X : Type 0} (old new : Slab X) (all : List (Connection ℕ)) (key : ConnKey) : Type 0 where
  pub whole : IsJoined (without all key) new
  pub is : joined new (without all key) ≡ without (joined old all) key

joined_without : {X : Type 0} (slots : Slab X) (all : List (Connection ℕ)) (key : ConnKey) (i : ℕ) → place_of key all ≡ Some i
    → remove (joined slots all) i ≡ without (joined slots all) key
joined_without slots all key i p = ap (λ (o : Option ℕ). changed (joined slots all) o None) (sym (place_joined slots key all ∙ p))

pub removed_with : {X : Type 0} (old new : Slab X) (all : List (Connection ℕ)) (key : ConnKey) (slot : ℕ) → IsJoined all old
    → option_and_then (λ (c : Connection ℕ). c.session) (connection_of key all) ≡ Some slot → Updates old new slot None
    → slab_len new + 1 ≡ slab_len old → new.capacity ≡ old.capacity → IsWithout old new all key
removed_with {X = X} old new all key slot h is u len capacity = by_place (place_of key all) refl is
  where
    at : (i : ℕ) (c : Connection ℕ) → place_of key all ≡ Some i → slice_get all i ≡ Some c → c.session ≡ Some slot → IsWithout old new all key
    at i c p e s =
        let same : without all key ≡ remove all i = ap (λ (o : Option ℕ). changed all o None) p in
        record {
          whole = subst (λ (xs : List (Connection ℕ)). IsJoined xs new) (sym same) (gone_joined old new all i slot c h e s u len capacity);
          is = ap (joined new) same ∙ joined_other old new slot None (remove all i) u (others_lack all i slot c h.apart e s) ∙ remove_joined old all i
              ∙ joined_without old all key i p;
        }

    by_element : (i : ℕ) (o : Option (Connection ℕ)) → place_of key all ≡ Some i → slice_get all i ≡ o
        → option_and_then (λ (c : Connection ℕ). c.session) o ≡ Some slot → IsWithout old new all key
    by_element i None p e s = absurd (let x : None ≡ Some slot = s in cc)
    by_element i (Some c) p e s = at i c p e s

    by_place : (o : Option ℕ) → place_of key all ≡ o → option_and_then (λ (c : Connection ℕ). c.session) (connection_of key all) ≡ Some slot
        → IsWithout old new all key
    by_place None p s = absurd
        (let x : None ≡ Some slot = sym
        (ap (λ (o : Option ℕ). option_and_then (λ (c : Connection ℕ). c.session) (option_and_then (slice_get all) o)) p) ∙ s in cc)
    by_place (Some i) p s = by_element i (slice_get all i) p refl
        (sym (ap (λ (o : Option ℕ). option_and_then (λ (c : Connection ℕ). c.session) (option_and_then (slice_get all) o)) p) ∙ s)

pub removed_plain : {X : Type 0} (slots : Slab X) (all : List (Connection ℕ)) (key : ConnKey) → IsJoined all slots
    → option_and_then (λ (c : Connection ℕ). c.session) (connection_of key all) ≡ None → IsWithout slots slots all key
removed_plain {X = X} slots all key h is = by_place (place_of key all) refl is
  where
    at : (i : ℕ) (c : Connection ℕ) → place_of key all ≡ Some i → slice_get all i ≡ Some c → c.session ≡ None → IsWithout slots slots all key
    at i c p e s =
        let same : without all key ≡ remove all i = ap (λ (o : Option ℕ). changed all o None) p in
        let stay = slots_removed all i c e (ap (λ (o : Option ℕ). option_to_list o) s) in
        record {
          whole = subst (λ (xs : List (Connection ℕ)). IsJoined xs slots) (sym same) (record {
            kept = All-append (IsKept slots) (take i all) (drop (suc i) all) (All-take (IsKept slots) i all h.kept)
                (All-drop (IsKept slots) (suc i) all h.kept);
            apart = subst (λ (xs : List ℕ). AllPairs (λ one two. one ≢ two) xs) (sym stay) h.apart;
            counted = h.counted ∙ ap length (sym stay);
            room = h.room;
          });
          is = ap (joined slots) same ∙ remove_joined slots all i ∙ joined_without slots all key i p;
        }

    by_element : (i : ℕ) (o : Option (Connection ℕ)) → place_of key all ≡ Some i → slice_get all i ≡ o
        → option_and_then (λ (c : Connection ℕ). c.session) o ≡ None → IsWithout slots slots all key
    by_element i None p e s = absurd (omega (arith, place_within (is_of key) all i p, none_past all i e))
    by_element i (Some c) p e s = at i c p e s

    by_place : (o : Option ℕ) → place_of key all ≡ o → option_and_then (λ (c : Connection ℕ). c.session) (connection_of key all) ≡ None
        → IsWithout slots slots all key
    by_place None p s =
        let same : without all key ≡ all = ap (λ (o : Option ℕ). changed all o None) p in
        record {
          whole = subst (λ (xs : List (Connection ℕ)). IsJoined xs slots) (sym same) h;
          is = ap (joined slots) same ∙ ap (λ (o : Option ℕ). changed (joined slots all) o None) (sym (place_joined slots key all ∙ p));
        }
    by_place (Some i) p s = by_element i (slice_get all i) p refl
        (sym (ap (λ (o : Option ℕ). option_and_then (λ (c : Connection ℕ). c.session) (option_and_then (slice_get all) o)) p) ∙ s)
