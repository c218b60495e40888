-- What changes of a table keep.
use Rattle.std.proofs.Common.{max, ◌⊎◌, ◌==◌, ◌≡◌, ℕ, suc, not, ◌+◌, ◌<◌, ◌≤◌, Bool, true, false, ◌&&◌, ◌||◌, List, [], ◌∷◌, ◌++◌, length, length-append, map, get_or, Some, None, option_map, All, IsTrue, refl, sym, ◌∙◌, ap, subst, arith, inl, inr, AllPairs, filter, find}
use Rattle.std.proofs.Math.Seq.{get_or-append_seam}
use Rattle.std.proofs.lemmas.List.{get_or_append_left, get_or-append-add, append-nil, get_or-map, length-map}
use Rattle.std.proofs.lemmas.List.Folds.{list_any_none}
use Rattle.std.proofs.lemmas.List.Elements.{All-head, All-tail, All-weaker, All-append, All-filter, All-map, All-push, filter-append}
use Rattle.std.proofs.lemmas.List.Kept.{AllPairs-filter}
use Rattle.std.proofs.lemmas.List.Quantifiers.{all_pairs_push}
use Rattle.std.proofs.lemmas.Bool.{cases_Bool, leb-true}
use Rattle.gate_base.specs.Prelude.{other, same_side}
use Rattle.gate_base.specs.declared.address.Addr.{Addr}
use Rattle.gate_base.specs.declared.event.Moment.{Moment}
use Rattle.gate_base.specs.declared.side.Side.{Side}
use Rattle.gate_base.proofs.Sides.{same_side-true, other_other}
use Rattle.realm_pools.specs.Addresses.{Range, is_in, is_free, is_taken}
use Rattle.binding_table.specs.Prelude.{AreTaken, CanHold, aliases_of, aliases_with, changed, filed, lasts, plain_table, Bindings, is_of_host}
use Rattle.binding_table.specs.Prelude.{host_of, is_of_alias, is_used, is_live, in_pool, range_of, pool_with, pool_of, with_binding, expired}
use Rattle.binding_table.specs.Prelude.{extend_through, is_through, lasting, IsLawful, IsInPlace, collides}
use Rattle.binding_table.proofs.Filed.{found_filed, others}
use Rattle.expiring_table.specs.Prelude.{row_of}
use Rattle.binding_table.specs.declared.binding.Binding.{Binding}
use Rattle.binding_table.proofs.Pools.{IsLone, same_aliases, other_alias, collides-sym, changed_some, changed_none, used_alias, free_alias, taken_alias}

-- where a binding has its place doesn't depend on the others
pub in_place_too : (table : Bindings) (entries : List Binding) (binding : Binding) → IsInPlace table binding
    → IsInPlace (record table { entries = entries }) binding
in_place_too table entries binding place = record { alias = place.alias; outside = place.outside; host = place.host }

-- ## A binding more

pub alias_within : (table : Bindings) (binding : Binding) (side : Side) → in_pool table (other binding.side) binding.alias ≡ true
    → same_side binding.side (other side) ≡ true → is_in binding.alias (range_of table side) ≡ true
alias_within table binding side within h =
    let same : other binding.side ≡ side = ap other (same_side-true binding.side (other side) h) ∙ other_other side in
    let P : Side → Type 0 = λ s. in_pool table s binding.alias ≡ true in
    subst P same within

pub unused_by_all : (side : Side) (entries : List Binding) (binding : Binding) → same_side binding.side (other side) ≡ true
    → All (λ earlier. collides binding earlier ≡ false) entries → is_used side entries binding.alias.0 ≡ false
unused_by_all side entries binding h apart =
    list_any_none (is_of_alias side binding.alias.0) entries
    (All-weaker (λ earlier. collides binding earlier ≡ false) (λ earlier. is_of_alias side binding.alias.0 earlier ≡ false)
    (λ earlier. other_alias side binding earlier h) entries apart)

-- the alias of a binding that the table can hold is free
pub lone : (table : Bindings) (binding : Binding) (side : Side) → CanHold table binding → same_side binding.side (other side) ≡ true
    → IsLone (range_of table side) side table.entries binding
lone table binding side can h = record {
  within = alias_within table binding side can.place.alias h;
  unused = unused_by_all side table.entries binding h can.once;
}

pub free_for : (table : Bindings) (binding : Binding) (side : Side) → CanHold table binding → same_side binding.side (other side) ≡ true
    → IsTrue (is_free binding.alias (pool_of table side))
free_for table binding side can h =
    let l = lone table binding side can h in
    free_alias (range_of table side) side table.entries binding.alias l.within l.unused

-- where a binding comes behind the others, its alias stands for its host
pub aliases_push : (table : Bindings) (binding : Binding) (side : Side) → CanHold table binding
    → changed side binding (Some binding.host) (aliases_of table side) ≡ aliases_with (range_of table side) side (table.entries ++ binding ∷ [])
aliases_push table binding side can =
    let P : List Binding → Type 0 = λ entries. changed side binding (Some binding.host) (aliases_with (range_of table side) side entries)
    ≡ aliases_with (range_of table side) side (table.entries ++ binding ∷ []) in
    subst P (append-nil table.entries)
    (changed_some (range_of table side) side table.entries [] binding (λ h. rw append-nil (lone table binding side can h)))

both_false : (same hosts aliases : Bool) → (same && (hosts || aliases)) ≡ false → ((same && hosts) ≡ false) × ((same && aliases) ≡ false)
both_false false hosts aliases h = (refl, refl)
both_false true false false h = (refl, refl)
both_false true false true h = cc
both_false true true aliases h = cc

-- a binding that doesn't collide with one has another host
pub other_host : (binding one : Binding) → collides binding one ≡ false → is_of_host binding.side binding.host.0 one ≡ false
other_host binding one apart = (both_false (same_side one.side binding.side) (one.host.0 == binding.host.0) (one.alias.0 == binding.alias.0) apart).0

find_none : (test : Binding → Bool) (entries : List Binding) → All (λ binding. test binding ≡ false) entries → find test entries ≡ None
find_none test [] h = refl
find_none test (binding ∷ rest) h = rw (All-head (λ one. test one ≡ false) binding rest h)
    (find_none test rest (All-tail (λ one. test one ≡ false) binding rest h))

-- a binding that the table can hold has a host of its own
pub unfiled : (entries : List Binding) (binding : Binding) → All (λ earlier. collides binding earlier ≡ false) entries
    → row_of (filed binding).key (map filed entries) ≡ None
unfiled entries binding apart =
    found_filed binding.side binding.host.0 entries
    ∙ ap (option_map filed)
    (find_none (is_of_host binding.side binding.host.0) entries
    (All-weaker (λ earlier. collides binding earlier ≡ false) (λ earlier. is_of_host binding.side binding.host.0 earlier ≡ false)
    (other_host binding) entries apart))

pub lawful_push : (table : Bindings) (binding : Binding) → IsLawful table → CanHold table binding → IsLawful (with_binding table binding)
lawful_push table binding lawful can = record {
  once = all_pairs_push (λ earlier later. collides later earlier ≡ false) table.entries binding lawful.once can.once;
  places = All-weaker (IsInPlace table) (IsInPlace (with_binding table binding)) (in_place_too table (table.entries ++ binding ∷ [])) _
      (All-push (IsInPlace table) table.entries binding lawful.places can.place);
  ranges = lawful.ranges;
  pools = lawful.pools;
}

-- ## Bindings that end

-- a list all of which passes
filter_all : (test : Binding → Bool) (entries : List Binding) → All (λ binding. test binding ≡ true) entries → filter test entries ≡ entries
filter_all test [] h = refl
filter_all test (binding ∷ rest) h = rw (All-head (λ one. test one ≡ true) binding rest h)
    (ap (λ more. binding ∷ more) (filter_all test rest (All-tail (λ one. test one ≡ true) binding rest h)))

abbrev pub AreApart : List Binding → Type 0
AreApart entries = AllPairs (λ earlier later. collides later earlier ≡ false) entries

-- a binding between those before and those behind it, all of which have other hosts
pub record IsBetween (entries : List Binding) (binding : Binding) : Type 0 where
  pub before : List Binding
  pub after : List Binding
  pub all : entries ≡ before ++ binding ∷ after
  pub rest : others binding entries ≡ before ++ after

pub between : (entries : List Binding) (binding : Binding) → AreApart entries → find (is_of_host binding.side binding.host.0) entries ≡ Some binding
    → IsBetween entries binding
between [] binding apart found = cc
between (one ∷ rest) binding apart found = elim (cases_Bool (is_of_host binding.side binding.host.0 one)) [
  | inl passes ↦
      let same : one ≡ binding = (let s = rw passes at found in cc) in
      let P : Binding → Binding → Type 0 = λ earlier later. is_of_host earlier.side earlier.host.0 later ≡ false in
      let differ : All (λ later. not (is_of_host binding.side binding.host.0 later) ≡ true) rest = λ k d within.
      ap not (subst (λ (earlier : Binding). P earlier (get_or rest k d)) same
      (other_host one (get_or rest k d) (collides-sym one (get_or rest k d) ∙ apart 0 (suc k) d (omega arith) (omega arith)))) in
      record { before = []; after = rest; all = ap (λ first. first ∷ rest) same; rest = rw passes (filter_all _ rest differ) }
  | inr fails ↦
      let later = between rest binding (λ i j d less within. apart (suc i) (suc j) d (omega arith) (omega arith)) (rw fails at found) in
      record {
        before = one ∷ later.before;
        after = later.after;
        all = ap (λ more. one ∷ more) later.all;
        rest = rw fails (ap (λ more. one ∷ more) later.rest);
      }
]

-- the others don't collide with it
others_apart : (before after : List Binding) (binding : Binding) → AreApart (before ++ binding ∷ after)
    → All (λ earlier. collides binding earlier ≡ false) (before ++ after)
others_apart before after binding apart =
    let P : Binding → Type 0 = λ earlier. collides binding earlier ≡ false in
    let entries = before ++ binding ∷ after in
    let long = length-append before (binding ∷ after) in
    let n = length before in
    let front : All P before = λ k d less.
    let Q : Binding → Type 0 = λ one. collides one (get_or before k d) ≡ false in
    let R : Binding → Type 0 = λ one. collides (get_or entries n d) one ≡ false in
    subst Q (get_or-append_seam before binding after d)
    (subst R (get_or_append_left before (binding ∷ after) d k less) (apart k n d less (omega (arith, long)))) in
    let back : All P after = λ k d less.
    let Q : Binding → Type 0 = λ one. collides (get_or after k d) one ≡ false in
    let R : Binding → Type 0 = λ one. collides one (get_or entries n d) ≡ false in
    collides-sym binding (get_or after k d) ∙ subst Q (get_or-append_seam before binding after d)
    (subst R (get_or-append-add before (binding ∷ after) (suc k) d) (apart n (n + suc k) d (omega arith) (omega (arith, long)))) in
    All-append P before after front back

-- the alias of a binding is that of no other one
pub lone_between : (table : Bindings) (side : Side) (binding : Binding) (before after : List Binding) → AreTaken table
    → table.entries ≡ before ++ binding ∷ after → same_side binding.side (other side) ≡ true
    → IsLone (range_of table side) side (before ++ after) binding
lone_between table side binding before after are all h =
    let P : Binding → Type 0 = λ one. in_pool table (other one.side) one.alias ≡ true in
    let here : get_or table.entries (length before) binding ≡ binding = ap (λ (list : List Binding). get_or list (length before) binding) all
    ∙ get_or-append_seam before binding after binding in
    let long = ap length all ∙ length-append before (binding ∷ after) in
    record {
      within = alias_within table binding side (subst P here (are.aliases (length before) binding (omega (arith, long)))) h;
      unused = unused_by_all side (before ++ after) binding h (others_apart before after binding (subst AreApart all are.once));
    }

-- where a binding goes, its alias stands for none
pub aliases_gone : (table : Bindings) (side : Side) (binding : Binding) → AreTaken table → IsBetween table.entries binding
    → changed side binding None (aliases_with (range_of table side) side table.entries) ≡ aliases_with (range_of table side) side
    (others binding table.entries)
aliases_gone table side binding are b =
    ap (λ (list : List Binding). changed side binding None (aliases_with (range_of table side) side list)) b.all
    ∙ changed_none (range_of table side) side b.before b.after binding (lone_between table side binding b.before b.after are b.all)
    ∙ ap (λ (list : List Binding). aliases_with (range_of table side) side list) (sym b.rest)

-- the alias of a binding is taken
pub taken_between : (table : Bindings) (side : Side) (binding : Binding) → AreTaken table → IsBetween table.entries binding
    → same_side binding.side (other side) ≡ true → IsTrue (is_taken binding.alias (pool_with (range_of table side) side table.entries))
taken_between table side binding are b h =
    taken_alias (range_of table side) side table.entries binding.alias (lone_between table side binding b.before b.after are b.all h).within
    (ap (λ (list : List Binding). is_used side list binding.alias.0) b.all ∙ used_alias side b.before b.after binding h)

pub taken_filter : (test : Binding → Bool) (left right : Range) (entries : List Binding) → AreTaken (plain_table left right entries)
    → AreTaken (plain_table left right (filter test entries))
taken_filter test left right entries are = record {
  once = AllPairs-filter (λ earlier later. collides later earlier ≡ false) test entries are.once;
  aliases = All-filter test (λ binding. in_pool (plain_table left right entries) (other binding.side) binding.alias ≡ true) entries are.aliases;
}

-- those that live stay where one goes that doesn't
pub live_others : (now : Moment) (entries : List Binding) (binding : Binding) → is_live now binding ≡ false → IsBetween entries binding
    → filter (is_live now) (others binding entries) ≡ filter (is_live now) entries
live_others now entries binding ended b =
    ap (filter (is_live now)) b.rest ∙ filter-append (is_live now) b.before b.after
    ∙ sym (ap (filter (is_live now)) b.all ∙ filter-append (is_live now) b.before (binding ∷ b.after) ∙ rw ended refl)

pub others_fewer : (entries : List Binding) (binding : Binding) → IsBetween entries binding → length (others binding entries) < length entries
others_fewer entries binding b =
    omega (arith, ap length b.rest, ap length b.all, length-append b.before b.after, length-append b.before (binding ∷ b.after))

pub lawful_expired : (table : Bindings) (now : Moment) → IsLawful table → IsLawful (expired table now)
lawful_expired table now lawful = record {
  once = AllPairs-filter (λ earlier later. collides later earlier ≡ false) (is_live now) table.entries lawful.once;
  places = All-weaker (IsInPlace table) (IsInPlace (expired table now)) (in_place_too table (filter (is_live now) table.entries)) _
      (All-filter (is_live now) (IsInPlace table) table.entries lawful.places);
  ranges = lawful.ranges;
  pools = lawful.pools;
}

-- ## Bindings that last

-- an extended binding is of the same host and alias
pub record IsSamePair (one two : Binding) : Type 0 where
  pub side : one.side ≡ two.side
  pub host : one.host ≡ two.host
  pub alias : one.alias ≡ two.alias

pub lasting_pair : (until : Moment) (binding : Binding) → IsSamePair (lasting until binding) binding
lasting_pair until binding =
    elim (cases_Bool binding.fixed) [
      | inl f ↦ rw f (record { side = refl; host = refl; alias = refl })
      | inr f ↦ rw f
          (record { side = refl; host = refl; alias = refl })
    ]

pub lasting_same : (until : Moment) (binding : Binding) → lasts until binding ≡ true → lasting until binding ≡ binding
lasting_same until binding stays = elim (cases_Bool binding.fixed) [
  | inl f ↦ rw f refl
  | inr f ↦
      let no_later : until.0 ≤ binding.until.0 = leb-true until.0 binding.until.0 (rw f at stays) in
      let same : max binding.until.0 until.0 ≡ binding.until.0 = omega arith in
      rw (f, same) refl
]

pub same_pair : (from_pool : Bool) (side : Side) (address : Addr) (until : Moment) (binding : Binding)
    → IsSamePair (extend_through from_pool side address until binding) binding
same_pair from_pool side address until binding = elim (cases_Bool (is_through from_pool side address binding)) [
  | inl h ↦ rw h (lasting_pair until binding)
  | inr h ↦ rw h (record { side = refl; host = refl; alias = refl })
]

abbrev colliding : Side → Side → Addr → Addr → Addr → Addr → Bool
colliding s t g h a b = same_side s t && (g.0 == h.0 || a.0 == b.0)

same_colliding : (s t s' t' : Side) (g h g' h' a b a' b' : Addr) → s ≡ s' → t ≡ t' → g ≡ g' → h ≡ h' → a ≡ a' → b ≡ b'
    → colliding s t g h a b ≡ colliding s' t' g' h' a' b'
same_colliding s t s' t' g h g' h' a b a' b' p q r u v w = cc

collides_same : (one one' two two' : Binding) → IsSamePair one one' → IsSamePair two two' → collides one two ≡ collides one' two'
collides_same one one' two two' p q =
    same_colliding two.side one.side two'.side one'.side two.host one.host two'.host one'.host two.alias one.alias two'.alias one'.alias q.side p.side
    q.host p.host q.alias p.alias

abbrev pub aliasing : Side → Side → Addr → ℕ → Bool
aliasing s t a k = same_side s t && a.0 == k

pub same_aliasing : (s s' t : Side) (a a' : Addr) (k : ℕ) → s ≡ s' → a ≡ a' → aliasing s t a k ≡ aliasing s' t a' k
same_aliasing s s' t a a' k p q = cc

same_or : (a b c d : Bool) → a ≡ b → c ≡ d → (a || c) ≡ (b || d)
same_or a b c d p q = cc

pub used_map : (f : Binding → Binding) → ((binding : Binding) → IsSamePair (f binding) binding) → (side : Side) (entries : List Binding) (k : ℕ)
    → is_used side (map f entries) k ≡ is_used side entries k
used_map f same side [] k = refl
used_map f same side (binding ∷ rest) k =
    let p = same binding in
    same_or (is_of_alias side k (f binding)) (is_of_alias side k binding) (is_used side (map f rest) k) (is_used side rest k)
    (same_aliasing (f binding).side binding.side (other side) (f binding).alias binding.alias k p.side p.alias) (used_map f same side rest k)

-- ## What is found among changed bindings

pub found_map : (view : Binding → Addr) (test : Binding → Bool) (f : Binding → Binding) → ((binding : Binding) → test (f binding) ≡ test binding)
    → ((binding : Binding) → view (f binding) ≡ view binding) → (entries : List Binding) → option_map view (find test (map f entries))
    ≡ option_map view (find test entries)
found_map view test f tests views [] = refl
found_map view test f tests views (binding ∷ rest) = elim (cases_Bool (test binding)) [
  | inl passes ↦ rw (tests binding ∙ passes, passes) (ap (λ (one : Addr). Some one) (views binding))
  | inr fails ↦ rw (tests binding ∙ fails, fails) (found_map view test f tests views rest)
]

pub host_map : (f : Binding → Binding) → ((binding : Binding) → IsSamePair (f binding) binding)
    → (side : Side) (address : Addr) (entries : List Binding) → host_of side address (map f entries) ≡ host_of side address entries
host_map f same side address = found_map (λ binding. binding.host) (is_of_alias side address.0) f
    (λ binding. same_aliasing (f binding).side binding.side (other side) (f binding).alias binding.alias address.0 (same binding).side
    (same binding).alias) (λ binding. (same binding).host)

pub aliases_map : (f : Binding → Binding) → ((binding : Binding) → IsSamePair (f binding) binding)
    → (range : Range) (side : Side) (entries : List Binding) → aliases_with range side entries ≡ aliases_with range side (map f entries)
aliases_map f same range side entries = same_aliases range side entries (map f entries) (λ k. sym (used_map f same side entries k))
    (λ k. sym (host_map f same side (record { 0 = k }) entries))

place_same : (table : Bindings) (one two : Binding) → IsSamePair one two → IsInPlace table two → IsInPlace table one
place_same table one two p place = record {
  alias = rw (p.side, p.alias) place.alias;
  outside = rw (p.side, p.host) place.outside;
  host = rw p.host place.host;
}

pub lawful_map : (f : Binding → Binding) → ((binding : Binding) → IsSamePair (f binding) binding) → (table : Bindings) → IsLawful table
    → IsLawful (record table { entries = map f table.entries })
lawful_map f same table lawful = record {
  once = λ i j d before within.
      let less : j < length table.entries = omega (arith, length-map table.entries f) in
      let one = get_or-map f table.entries i d d (omega arith) in
      let two = get_or-map f table.entries j d d less in
      rw (one, two) (collides_same _ _ _ _ (same (get_or table.entries j d)) (same (get_or table.entries i d)) ∙ lawful.once i j d before less);
  places = All-weaker (IsInPlace table) (IsInPlace (record table { entries = map f table.entries })) (in_place_too table (map f table.entries)) _
      (All-map (IsInPlace table) f table.entries
      (All-weaker (IsInPlace table) (λ binding. IsInPlace table (f binding))
      (λ binding place. place_same table (f binding) binding (same binding) place) table.entries lawful.places));
  ranges = lawful.ranges;
  pools = lawful.pools;
}

-- an extended binding ends no earlier
pub ends_extended : (least : ℕ) (from_pool : Bool) (side : Side) (address : Addr) (until : Moment) (binding : Binding) → (binding.fixed ≡ true)
    ⊎ (least ≤ binding.until.0) → ((extend_through from_pool side address until binding).fixed ≡ true)
    ⊎ (least ≤ (extend_through from_pool side address until binding).until.0)
ends_extended least from_pool side address until binding end = elim (cases_Bool (is_through from_pool side address binding)) [
  | inl h ↦ elim (cases_Bool binding.fixed) [
    | inl f ↦ rw (h, f)
        (inl refl)
    | inr f ↦ elim end [ inl fixed ↦ cc | inr later ↦ rw (h, f) (inr (omega arith)) ]
  ]
  | inr h ↦ rw h end
]
