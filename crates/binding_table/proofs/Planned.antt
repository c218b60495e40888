-- A plan gives the images that the uses will give.
use Rattle.std.proofs.Common.{take_all, drop-cons, add-one, ◌≡◌, ◌≢◌, ℕ, ◌+◌, ◌-◌, ◌<◌, ◌≤◌, ◌⊎◌, Bool, true, false, not, ◌||◌, ◌==◌, nat_lt, nat_le}
use Rattle.std.proofs.Common.{cond, if◌then◌else◌, List, [], ◌∷◌, ◌++◌, length, map, get_or, set, take, drop, position, All, Option, Some, None}
use Rattle.std.proofs.Common.{option_map, refl, sym, ◌∙◌, ap, subst, arith, inl, inr}
use Rattle.std.specs.List.{find, count_by, position_or_len}
use Rattle.std.specs.Option.{option_or}
use Rattle.std.proofs.lemmas.List.{get_or_default, get_or_push, get_or_append_left, get_or-set_same, get_or-set_other, length_push, length-take-le, take_more, append-nil, same_lists, length-map, length-drop, get_or-drop, get_or-map}
use Rattle.std.proofs.lemmas.List.FromFn.{get_or-map-range_with_len, length-map-range_with_len}
use Rattle.std.proofs.lemmas.List.Folds.{list_any_at, list_any-append, list_any_none}
use Rattle.std.proofs.lemmas.List.Quantifiers.{position-Some}
use Rattle.std.proofs.lemmas.List.Sums.{fold_more, fails_before_first, sum_by-le}
use Rattle.std.proofs.lemmas.Bool.{and_right, cases_Bool, cases_lt, cases_eq, and_parts, and_from, and_left, or_parts, or_cases, not_from_false, eqb-true, eq-eqb, leb-true, le-leb, ltb-false, false≢true}
use Rattle.gate_base.specs.Prelude.{is_unicast_number, other, same_side}
use Rattle.gate_base.specs.declared.address.Addr.{Addr}
use Rattle.gate_base.specs.declared.event.Moment.{Moment}
use Rattle.gate_base.specs.declared.side.Side.{Side}
use Rattle.gate_base.specs.declared.side.Side.TheVariants.{Left, Right}
use Rattle.gate_base.proofs.Sides.{other_other, same_side-itself}
use Rattle.gate_base.proofs.Options.{or_none}
use Rattle.gate_settings.specs.Prelude.{is_in_same}
use Rattle.gate_settings.specs.declared.settings.Block.{Block}
use Rattle.realm_pools.specs.Addresses.{Range, Addresses, is_in, least_free, free_from}
use Rattle.realm_pools.proofs.Free.{from_low}
use Rattle.binding_table.specs.Prelude.{Aliases, given_image, next_alias, planned_by, is_settled, Bindings, is_same, is_of_host, is_of_alias, is_used}
use Rattle.binding_table.specs.Prelude.{in_pool, range_of, pool_with, pool_of, alias_of, host_of, known_or, new_or_empty, seen_by, with_binding}
use Rattle.binding_table.specs.Prelude.{extended, extend_through, images_after, Use, AreUsesOf, used, used_by, after_uses, unless_same, image_after}
use Rattle.binding_table.specs.Prelude.{needs_binding, is_address, is_among, is_fresh, fresh_after}
use Rattle.binding_table.specs.declared.binding.Binding.{Binding}
use Rattle.binding_table.specs.declared.binding.Crossing.{Crossing}
use Rattle.binding_table.specs.declared.binding.Crossing.TheVariants.{Same, Bound, New, Unbound, Empty}
use Rattle.binding_table.specs.Bindings.{cross}
use Rattle.binding_table.proofs.Pools.{IsLone, numbers, used_elsewhere, used_alias, free_parts, free_alias}
use Rattle.binding_table.proofs.Kept.{used_map, IsSamePair, same_pair, same_aliasing, found_map, host_map, aliases_map}
use Rattle.binding_table.proofs.Room.{free_in, free_less}
use Rattle.binding_table.proofs.Bind.{HasNoBinding, least_parts, unbound_cross, fresh_is}
use Rattle.binding_table.proofs.Fresh.{fresh_cons}

-- ## What a crossing is made of

abbrev pub crossed : Bool → Bool → Option Addr → Addresses → Option Addr → Crossing
crossed same pool host free alias = if same then Same else if pool then known_or Unbound host else known_or (new_or_empty (least_free free)) alias

pub cross_is : (table : Bindings) (side : Side) (address : Addr)
    → cross table side address ≡ crossed (is_same table address) (in_pool table side address) (host_of side address table.entries)
    (pool_of table (other side)) (alias_of side address table.entries)
unfolding cross
cross_is table side address = refl

same_crossed : (s s' p p' : Bool) (h h' : Option Addr) (f f' : Addresses) (a a' : Option Addr) → s ≡ s' → p ≡ p' → h ≡ h' → f ≡ f' → a ≡ a'
    → crossed s p h f a ≡ crossed s' p' h' f' a'
same_crossed s s' p p' h h' f f' a a' q r t u v = cc

-- the image that a crossing gives
abbrev pub image_of : Crossing → Option Addr
image_of (Bound image) = Some image
image_of _ = None

not_settled : (found : Option Addr) → is_settled (new_or_empty found) ≡ false
not_settled None = refl
not_settled (Some alias) = refl

crossed_stays : (same pool : Bool) (host : Option Addr) (free free' : Addresses) (alias alias' : Option Addr)
    → ((one : Addr) → alias ≡ Some one → alias' ≡ Some one) → is_settled (crossed same pool host free alias) ≡ true
    → crossed same pool host free' alias' ≡ crossed same pool host free alias
crossed_stays true pool host free free' alias alias' kept settled = refl
crossed_stays false true host free free' alias alias' kept settled = refl
crossed_stays false false host free free' None alias' kept settled = cc (not_settled (least_free free))
crossed_stays false false host free free' (Some one) alias' kept settled = rw (kept one refl) refl

-- ## A later table

-- the later table has the same blocks and pools, and no other hosts behind the realm's pool
pub record Follows (table : Bindings) (side : Side) (later : Bindings) : Type 0 where
  pub same : later.same ≡ table.same
  pub left : later.left ≡ table.left
  pub right : later.right ≡ table.right
  pub hosts : (address : Addr) → host_of side address later.entries ≡ host_of side address table.entries
  pub kept : (address one : Addr) → alias_of side address table.entries ≡ Some one → alias_of side address later.entries ≡ Some one

range_follows : (table later : Bindings) (side : Side) → Follows table side later → (pool : Side) → range_of later pool ≡ range_of table pool
range_follows table later side follows Left = follows.left
range_follows table later side follows Right = follows.right

same_follows : (table later : Bindings) (side : Side) (address : Addr) → Follows table side later → is_same later address ≡ is_same table address
same_follows table later side address follows = ap (λ (blocks : List Block). not (is_unicast_number address.0) || is_in_same address blocks)
    follows.same

pool_follows : (table later : Bindings) (side : Side) (address : Addr) → Follows table side later
    → in_pool later side address ≡ in_pool table side address
pool_follows table later side address follows = ap (λ (range : Range). is_in address range) (range_follows table later side follows side)

pub cross_follows : (table later : Bindings) (side : Side) (address : Addr) → Follows table side later
    → cross later side address ≡ crossed (is_same table address) (in_pool table side address) (host_of side address table.entries)
    (pool_of later (other side)) (alias_of side address later.entries)
cross_follows table later side address follows =
    cross_is later side address ∙ same_crossed _ _ _ _ _ _ (pool_of later (other side)) (pool_of later (other side))
    (alias_of side address later.entries) (alias_of side address later.entries) (same_follows table later side address follows)
    (pool_follows table later side address follows) (follows.hosts address) refl refl

-- a settled crossing stays
pub settled_stays : (table later : Bindings) (side : Side) (address : Addr) → Follows table side later → is_settled (cross table side address) ≡ true
    → cross later side address ≡ cross table side address
settled_stays table later side address follows settled =
    cross_follows table later side address follows
    ∙ crossed_stays (is_same table address) (in_pool table side address) (host_of side address table.entries) (pool_of table (other side))
    (pool_of later (other side)) (alias_of side address table.entries) (alias_of side address later.entries) (follows.kept address)
    (rw cross_is at settled)
    ∙ sym (cross_is table side address)

-- ## What is found among changed bindings

found_push : (view : Binding → Addr) (test : Binding → Bool) (entries : List Binding) (binding : Binding)
    → option_map view (find test (entries ++ binding ∷ [])) ≡ option_or (option_map view (find test entries))
    (if test binding then Some (view binding) else None)
found_push view test [] binding = elim (cases_Bool (test binding)) [ inl passes ↦ rw passes refl | inr fails ↦ rw fails refl ]
found_push view test (one ∷ rest) binding = elim (cases_Bool (test one)) [
  | inl passes ↦ rw passes refl
  | inr fails ↦ rw fails (found_push view test rest binding)
]

pub alias_map : (f : Binding → Binding) → ((binding : Binding) → IsSamePair (f binding) binding)
    → (side : Side) (address : Addr) (entries : List Binding) → alias_of side address (map f entries) ≡ alias_of side address entries
alias_map f same side address = found_map (λ binding. binding.alias) (is_of_host side address.0) f
    (λ binding. same_aliasing (f binding).side binding.side side (f binding).host binding.host address.0 (same binding).side (same binding).host)
    (λ binding. (same binding).alias)

pub extended_follows : (table : Bindings) (side : Side) (address : Addr) (until : Moment) → Follows table side (extended table side address until)
extended_follows table side address until =
    let f = extend_through (in_pool table side address) side address until in
    let pair = same_pair (in_pool table side address) side address until in
    record {
      same = refl;
      left = refl;
      right = refl;
      hosts = λ one. host_map f pair side one table.entries;
      kept = λ one alias h. alias_map f pair side one table.entries ∙ h;
    }

-- ## The least free address of a later table

pub flags_free : (flags : List Bool) → position not flags ≡ None → count_by not flags ≡ 0
flags_free flags none =
    let fails : All (λ taken. not taken ≡ false) flags = λ k d within. elim (cases_Bool (nat_lt (position_or_len not flags) (length flags))) [
      | inl holds ↦ cc (rw holds at none)
      | inr ends ↦ fails_before_first not flags k d (omega (arith, ltb-false))
    ] in
    let small : All (λ taken. cond (not taken) 1 0 ≤ 0) flags = λ k d within. rw (fails k d within) (omega arith) in
    let few = sum_by-le (λ taken. cond (not taken) 1 0) 0 flags small in
    omega (arith, few)

-- where an address is free there is a least one
some_least : (range : Range) (side : Side) (entries : List Binding) (found : Option Addr) → least_free (pool_with range side entries) ≡ found
    → 0 < free_in range side entries → (alias : Addr) × (least_free (pool_with range side entries) ≡ Some alias)
some_least range side entries (Some alias) e some = (alias, e)
some_least range side entries None e some = absurd (omega (arith, flags_free (pool_with range side entries).taken (none_first _ e)))
  where
    none_first : (found : Option ℕ) → option_map (λ (more : ℕ). let address : Addr = record { 0 = range.first + (0 + more) } in address) found ≡ None
        → found ≡ None
    none_first None h = refl
    none_first (Some one) h = cc

-- all addresses below this one were given
abbrev pub bound_of : Option Addr → ℕ
bound_of None = 0
bound_of (Some given) = given.0 + 1

-- of a pool, all addresses below a bound are used later, and those from there on as they were
pub record IsUsedBelow (range : Range) (side : Side) (entries later : List Binding) (bound : ℕ) : Type 0 where
  pub within : bound ≤ range.last + 1
  pub below : (number : ℕ) → range.first ≤ number → number < bound → is_used side later number ≡ true
  pub above : (number : ℕ) → bound ≤ number → is_used side later number ≡ is_used side entries number

flag_of : (range : Range) (side : Side) (entries : List Binding) (k : ℕ) (d : Bool) → k < range.last + 1 - range.first
    → get_or (map (is_used side entries) (numbers range)) k d ≡ is_used side entries (range.first + k)
flag_of range side entries k d within = get_or-map-range_with_len (is_used side entries) range.first (range.last + 1 - range.first) k
    (range.first + k) d within refl

-- the least free address later is the first free one from the bound on
least_later : (range : Range) (side : Side) (entries later : List Binding) (bound : ℕ) → IsUsedBelow range side entries later bound
    → least_free (pool_with range side later) ≡ free_from (bound - range.first) (pool_with range side entries)
least_later range side entries later bound used =
    let n : ℕ = range.last + 1 - range.first in
    let place : ℕ = bound - range.first in
    let flags = map (is_used side entries) (numbers range) in
    let after = map (is_used side later) (numbers range) in
    let long = length-map-range_with_len (is_used side entries) range.first n in
    let wide = length-map-range_with_len (is_used side later) range.first n in
    let limit = used.within in
    let taken : (k : ℕ) → k < place → get_or after k false ≡ true = λ k less.
    let inside : k < n = omega arith in
    flag_of range side later k false inside ∙ used.below (range.first + k) (omega arith) (omega arith) in
    let same : drop place after ≡ drop place flags = same_lists _ _ (omega (arith, length-drop place after, length-drop place flags, long, wide))
    (λ k d within.
    let inside : place + k < n = omega (arith, length-drop place after, wide) in
    get_or-drop place after k d ∙ flag_of range side later (place + k) d inside ∙ used.above (range.first + (place + k)) (omega arith)
    ∙ sym (get_or-drop place flags k d ∙ flag_of range side entries (place + k) d inside)) in
    sym (from_low range after place (omega (arith, wide)) taken)
    ∙ ap (λ (rest : List Bool). option_map (λ (more : ℕ). let address : Addr = record { 0 = range.first + (place + more) } in address)
    (position not rest)) same

next_is : (range : Range) (side : Side) (entries later : List Binding) (given : Option Addr) → IsUsedBelow range side entries later (bound_of given)
    → least_free (pool_with range side later) ≡ next_alias (pool_with range side entries) given
next_is range side entries later (Some given) used = least_later range side entries later (given.0 + 1) used
next_is range side entries later None used =
    let zero_place : 0 - range.first ≡ 0 = omega arith in
    least_later range side entries later 0 used ∙ ap (λ (place : ℕ). free_from place (pool_with range side entries)) zero_place

-- once the least free address is taken too, all up to it are used
used_more : (range : Range) (side : Side) (entries later : List Binding) (bound : ℕ) (binding : Binding) → range.first ≤ range.last
    → same_side binding.side (other side) ≡ true → IsUsedBelow range side entries later bound
    → least_free (pool_with range side later) ≡ Some binding.alias → IsUsedBelow range side entries (later ++ binding ∷ []) (binding.alias.0 + 1)
used_more range side entries later bound binding ordered h used least =
    let parts = least_parts range side later binding.alias ordered least in
    let free = free_parts range side later binding.alias parts.free in
    let ends = and_parts (nat_le range.first binding.alias.0) (nat_le binding.alias.0 range.last) free.0 in
    let low = leb-true _ _ ends.0 in
    let high = leb-true _ _ ends.1 in
    let beyond : bound ≤ binding.alias.0 =
    elim (cases_lt binding.alias.0 bound) [
      | inl less ↦ absurd (false≢true (sym free.1 ∙ used.below binding.alias.0 low less))
      | inr more ↦ more
    ] in
    record {
      within = omega arith;
      below = λ number from to. elim (cases_eq number binding.alias.0) [
        | inl same ↦ ap (λ (n : ℕ). is_used side (later ++ binding ∷ []) n) same ∙ used_alias side later [] binding h
        | inr differs ↦ used_elsewhere side later [] binding number differs ∙ ap (λ list. is_used side list number) (append-nil later)
            ∙ elim (cases_Bool (is_used side later number)) [
              | inl holds ↦ holds
              | inr unused ↦
                  let one : Addr = record { 0 = number } in
                  let inside : is_in one range ≡ true = and_from _ _ (le-leb _ _ from) (le-leb _ _ (omega arith)) in
                  let lower = parts.least one (free_alias range side later one inside unused) (omega arith) in
                  absurd (omega (arith, lower))
            ]
      ];
      above = λ number from.
          let differs : number ≢ binding.alias.0 = omega arith in
          used_elsewhere side later [] binding number differs ∙ ap (λ list. is_used side list number) (append-nil later)
          ∙ used.above number (omega arith);
    }

-- the image of an address behind earlier ones and their images, and the alias that was given last
abbrev pub planned : Bindings → Side → List Addr → List (Option Addr) → Option Addr → Addr → Option Addr × Option Addr
planned table side earlier images given address = planned_by (pool_of table (other side)) earlier images given address (cross table side address)

-- ## A plan so far

-- the later table is what the uses so far made of the table; `given` is the alias that was bound last, and the addresses that are left find enough
-- free ones
pub record IsPlanned (table later : Bindings) (side : Side) (earlier rest : List Addr) (given : Option Addr) : Type 0 where
  pub follows : Follows table side later
  pub absent : (address : Addr) → is_among earlier address ≡ false → alias_of side address later.entries ≡ alias_of side address table.entries
  pub settled : (address : Addr) → is_among earlier address ≡ true → is_settled (cross later side address) ≡ true
  pub used : IsUsedBelow (range_of table (other side)) (other side) table.entries later.entries (bound_of given)
  pub room : length (fresh_after table side earlier rest) ≤ free_in (range_of table (other side)) (other side) later.entries

pub planned_start : (table : Bindings) (side : Side) (addresses : List Addr) → length (fresh_after table side [] addresses)
    ≤ free_in (range_of table (other side)) (other side) table.entries → IsPlanned table table side [] addresses None
planned_start table side addresses room = record {
  follows = record { same = refl; left = refl; right = refl; hosts = λ address. refl; kept = λ address one h. h };
  absent = λ address h. refl;
  settled = λ address h. cc;
  used = record { within = omega arith; below = λ number from to. absurd (omega arith); above = λ number from. refl };
  room = room;
}

among_cases : (earlier : List Addr) (address one : Addr) → is_among (earlier ++ one ∷ []) address ≡ true → (is_among earlier address ≡ true)
    ⊎ (one ≡ address)
among_cases earlier address one h = elim (or_cases (is_among earlier address) _ (sym (list_any-append (is_address address) earlier (one ∷ [])) ∙ h)) [
  | inl before ↦ inl before
  | inr last ↦ elim (or_cases (one.0 == address.0) false last) [
    | inl same ↦ let e : one.0 ≡ address.0 = eqb-true one.0 address.0 same in inr (ap (λ (n : ℕ). let a : Addr = record { 0 = n } in a) e)
    | inr never ↦ cc
  ]
]

not_among : (earlier : List Addr) (address one : Addr) → is_among (earlier ++ one ∷ []) address ≡ false → (is_among earlier address ≡ false)
    × ((one.0 == address.0) ≡ false)
not_among earlier address one h =
    let parts = or_parts (is_among earlier address) _ (sym (list_any-append (is_address address) earlier (one ∷ [])) ∙ h) in
    (parts.0, (or_parts (one.0 == address.0) false parts.1).0)

-- an address that is settled adds nothing
planned_settled : (table later : Bindings) (side : Side) (earlier rest : List Addr) (given : Option Addr) (address : Addr)
    → IsPlanned table later side earlier (address ∷ rest) given → is_settled (cross later side address) ≡ true
    → IsPlanned table later side (earlier ++ address ∷ []) rest given
planned_settled table later side earlier rest given address p settled = record {
  follows = p.follows;
  absent = λ one h. p.absent one (not_among earlier one address h).0;
  settled = λ one h. elim (among_cases earlier one address h) [
    | inl before ↦ p.settled one before
    | inr same ↦ let P : Addr → Type 0 = λ a. is_settled (cross later side a) ≡ true in subst P same settled
  ];
  used = p.used;
  room = omega (arith, p.room, fresh_cons table side earlier address rest);
}

follows_twice : (table later last : Bindings) (side : Side) → Follows table side later → Follows later side last → Follows table side last
follows_twice table later last side f g = record {
  same = g.same ∙ f.same;
  left = g.left ∙ f.left;
  right = g.right ∙ f.right;
  hosts = λ address. g.hosts address ∙ f.hosts address;
  kept = λ address one h. g.kept address one (f.kept address one h);
}

-- nor does an extended binding
planned_extended : (table later : Bindings) (side : Side) (earlier rest : List Addr) (given : Option Addr) (address : Addr) (until : Moment)
    → IsPlanned table later side earlier rest given → IsPlanned table (extended later side address until) side earlier rest given
planned_extended table later side earlier rest given address until p =
    let f = extend_through (in_pool later side address) side address until in
    let pair = same_pair (in_pool later side address) side address until in
    let after = extended_follows later side address until in
    let range = range_of table (other side) in
    let uses = λ (number : ℕ). used_map f pair (other side) later.entries number in
    record {
      follows = follows_twice table later (extended later side address until) side p.follows after;
      absent = λ one h. alias_map f pair side one later.entries ∙ p.absent one h;
      settled = λ one h. ap is_settled (settled_stays later (extended later side address until) side one after (p.settled one h)) ∙ p.settled one h;
      used = record {
        within = p.used.within;
        below = λ number from to. uses number ∙ p.used.below number from to;
        above = λ number from. uses number ∙ p.used.above number from;
      };
      room = rw (ap (λ (pool : Addresses). count_by not pool.taken)
          (sym (ap (λ (aliases : Aliases). aliases.pool) (aliases_map f pair range (other side) later.entries)))) p.room;
    }

-- ## The next address

not_other_side : (side : Side) → same_side side (other side) ≡ false
not_other_side Left = refl
not_other_side Right = refl

pub alias_push : (side : Side) (address : Addr) (entries : List Binding) (binding : Binding) → alias_of side address (entries ++ binding ∷ [])
    ≡ option_or (alias_of side address entries) (if is_of_host side address.0 binding then Some binding.alias else None)
alias_push side address = found_push (λ binding. binding.alias) (is_of_host side address.0)

push_follows : (table : Bindings) (binding : Binding) → Follows table binding.side (with_binding table binding)
push_follows table binding = record {
  same = refl;
  left = refl;
  right = refl;
  hosts = λ one. found_push (λ binding. binding.host) (is_of_alias binding.side one.0) table.entries binding
      ∙ rw (and_left (same_side binding.side (other binding.side)) (binding.alias.0 == one.0) (not_other_side binding.side))
      (or_none (host_of binding.side one table.entries));
  kept = λ one alias h. alias_push binding.side one table.entries binding ∙ rw h refl;
}

pub used_by_follows : (table : Bindings) (side : Side) (address : Addr) (until : Moment) (crossing : Crossing)
    → Follows table side (used_by table side address until crossing)
used_by_follows table side address until (Bound image) = extended_follows table side address until
used_by_follows table side address until (New alias) = push_follows table
    (record { side = side; host = address; alias = alias; until = until; fixed = false })
used_by_follows table side address until Same = record { same = refl; left = refl; right = refl; hosts = λ one. refl; kept = λ one alias h. h }
used_by_follows table side address until Unbound = record { same = refl; left = refl; right = refl; hosts = λ one. refl; kept = λ one alias h. h }
used_by_follows table side address until Empty = record { same = refl; left = refl; right = refl; hosts = λ one. refl; kept = λ one alias h. h }

pub used_follows : (table : Bindings) (one : Use) → Follows table one.side (used table one)
used_follows table one = used_by_follows table one.side one.address one.until (cross table one.side one.address)

settle_by : (table later : Bindings) (side : Side) (earlier rest : List Addr) (given : Option Addr) (address : Addr) (until : Moment)
    (crossing : Crossing) → cross later side address ≡ crossing → is_settled crossing ≡ true
    → IsPlanned table later side earlier (address ∷ rest) given → IsPlanned table (used_by later side address until crossing) side
    (earlier ++ address ∷ []) rest given
settle_by table later side earlier rest given address until Same e h p = planned_settled table later side earlier rest given address p
    (ap is_settled e)
settle_by table later side earlier rest given address until (Bound image) e h p =
    let last = extended later side address until in
    let stays = settled_stays later last side address (extended_follows later side address until) (ap is_settled e) in
    planned_settled table last side earlier rest given address (planned_extended table later side earlier (address ∷ rest) given address until p)
    (ap is_settled (stays ∙ e))
settle_by table later side earlier rest given address until (New alias) e h p = cc
settle_by table later side earlier rest given address until Unbound e h p = cc
settle_by table later side earlier rest given address until Empty e h p = cc

-- a new host is bound to the least free address
planned_new : (table later : Bindings) (side : Side) (earlier rest : List Addr) (given : Option Addr) (address alias : Addr) (until : Moment)
    → (range_of table (other side)).first ≤ (range_of table (other side)).last → IsPlanned table later side earlier (address ∷ rest) given
    → is_fresh table side earlier address ≡ true → HasNoBinding later side address
    → least_free (pool_with (range_of table (other side)) (other side) later.entries) ≡ Some alias
    → (IsPlanned table (used_by later side address until (New alias)) side (earlier ++ address ∷ []) rest (Some alias))
    × (cross (used_by later side address until (New alias)) side address ≡ Bound alias)
planned_new table later side earlier rest given address alias until ordered p fresh lacks least =
    let binding : Binding = record { side = side; host = address; alias = alias; until = until; fixed = false } in
    let last = with_binding later binding in
    let range = range_of table (other side) in
    let after = push_follows later binding in
    let h : same_side side (other (other side)) ≡ true = rw (other_other side) (same_side-itself side) in
    let free = free_parts range (other side) later.entries alias (least_parts range (other side) later.entries alias ordered least).free in
    let here : alias_of side address last.entries ≡ Some alias = alias_push side address later.entries binding
    ∙ rw (lacks.alias, and_from _ _ (same_side-itself side) (eq-eqb address.0 address.0 refl)) refl in
    let known : cross last side address ≡ Bound alias = cross_follows later last side address after ∙ rw (lacks.differs, lacks.outside, here) refl in
    let lone : IsLone range (other side) (later.entries ++ []) binding = rw append-nil (record { within = free.0; unused = free.1 }) in
    let less = free_less range (other side) later.entries [] binding h lone in
    let whole = ap (λ entries. free_in range (other side) entries) (append-nil later.entries) in
    let count = fresh_cons table side earlier address rest in
    let one = ap {B = ℕ} (λ b. cond b 1 0) fresh in (
      record {
        follows = follows_twice table later last side p.follows after;
        absent = λ other_one among.
            let parts = not_among earlier other_one address among in
            alias_push side other_one later.entries binding ∙ rw (and_right (same_side side side) (address.0 == other_one.0) parts.1)
            (or_none (alias_of side other_one later.entries)) ∙ p.absent other_one parts.0;
        settled = λ other_one among. elim (among_cases earlier other_one address among) [
          | inl before ↦ ap is_settled (settled_stays later last side other_one after (p.settled other_one before)) ∙ p.settled other_one before
          | inr same ↦ let P : Addr → Type 0 = λ a. is_settled (cross last side a) ≡ true in subst P same (ap is_settled known)
        ];
        used = used_more range (other side) table.entries later.entries (bound_of given) binding ordered h p.used least;
        room = omega (arith, p.room, less, whole, count, one);
      },
      known,
    )

-- the images so far are those of the later table
abbrev pub AreImages : Bindings → Side → List Addr → List (Option Addr) → Type 0
AreImages later side earlier images = (place : ℕ) (d : Addr) → place < length earlier
    → get_or images place None ≡ image_of (cross later side (get_or earlier place d))

-- what a step gives: the plan goes on, and the image is that of the table after the use
abbrev IsStep : Bindings → Bindings → Side → List Addr → List Addr → Addr → Moment → Option Addr × Option Addr → Type 0
IsStep table later side earlier rest address until step =
    let last = used later (record { side = side; address = address; until = until }) in
    (IsPlanned table last side (earlier ++ address ∷ []) rest step.1) × (step.0 ≡ image_of (cross last side address))

step_settled : (table later : Bindings) (side : Side) (earlier rest : List Addr) (given image : Option Addr) (address : Addr) (until : Moment)
    → IsPlanned table later side earlier (address ∷ rest) given → is_settled (cross later side address) ≡ true
    → image ≡ image_of (cross later side address) → IsStep table later side earlier rest address until (image, given)
step_settled table later side earlier rest given image address until p settled h =
    let one : Use = record { side = side; address = address; until = until } in (
      settle_by table later side earlier rest given address until (cross later side address) refl settled p,
      h ∙ ap image_of (sym (settled_stays later (used later one) side address (used_follows later one) settled)),
    )

pub none_among : (earlier : List Addr) (address : Addr) → position (is_address address) earlier ≡ None → is_among earlier address ≡ false
none_among earlier address none = list_any_none (is_address address) earlier
    (λ k d within. elim (cases_Bool (nat_lt (position_or_len (is_address address) earlier) (length earlier))) [
      | inl holds ↦ cc (rw holds at none)
      | inr ends ↦ fails_before_first (is_address address) earlier k d (omega (arith, ltb-false))
    ])

step_fresh : (table later : Bindings) (side : Side) (earlier rest : List Addr) (images : List (Option Addr)) (given : Option Addr) (address : Addr)
    (until : Moment) (found : Option ℕ) → (range_of table (other side)).first ≤ (range_of table (other side)).last
    → IsPlanned table later side earlier (address ∷ rest) given → AreImages later side earlier images
    → needs_binding (cross table side address) ≡ true → position (is_address address) earlier ≡ found
    → IsStep table later side earlier rest address until (given_image (pool_of table (other side)) images given found)
step_fresh table later side earlier rest images given address until (Some place) ordered p are needs e =
    let at = position-Some (is_address address) earlier place address e in
    let same : get_or earlier place address ≡ address = let number = eqb-true (get_or earlier place address).0 address.0 at.1 in
    ap (λ (n : ℕ). let a : Addr = record { 0 = n } in a) number in
    let among = list_any_at (is_address address) earlier place address at.0 at.1 in
    step_settled table later side earlier rest given (get_or images place None) address until p (p.settled address among)
    (are place address at.0 ∙ ap (λ (a : Addr). image_of (cross later side a)) same)
step_fresh table later side earlier rest images given address until None ordered p are needs e =
    let among = none_among earlier address e in
    let lacks_first = fresh_is table side address needs in
    let lacks : HasNoBinding later side address = record {
      differs = same_follows table later side address p.follows ∙ lacks_first.differs;
      outside = pool_follows table later side address p.follows ∙ lacks_first.outside;
      alias = p.absent address among ∙ lacks_first.alias;
    } in
    let fresh : is_fresh table side earlier address ≡ true = and_from _ _ needs (not_from_false _ among) in
    let range = range_of table (other side) in
    let count = fresh_cons table side earlier address rest in
    let one = ap {B = ℕ} (λ b. cond b 1 0) fresh in
    let some : 0 < free_in range (other side) later.entries = omega (arith, p.room, count, one) in
    let (alias, least) = some_least range (other side) later.entries (least_free (pool_with range (other side) later.entries)) refl some in
    let next : next_alias (pool_of table (other side)) given ≡ Some alias = sym (next_is range (other side) table.entries later.entries given p.used)
    ∙ least in
    let new : cross later side address ≡ New alias = unbound_cross later side address lacks
    ∙ ap new_or_empty (ap (λ (r : Range). least_free (pool_with r (other side) later.entries))
    (range_follows table later side p.follows (other side)) ∙ least) in
    let (plan, known) = planned_new table later side earlier rest given address alias until ordered p fresh lacks least in
    let G : Option Addr → Crossing → Type 0 = λ given_now crossing.
    (IsPlanned table (used_by later side address until crossing) side (earlier ++ address ∷ []) rest given_now)
    × (given_now ≡ image_of (cross (used_by later side address until crossing) side address)) in
    subst (λ (x : Option Addr). G x (cross later side address)) (sym next)
    (subst (λ (x : Crossing). G (Some alias) x) (sym new) (plan, sym (ap image_of known)))

step_by : (table later : Bindings) (side : Side) (earlier rest : List Addr) (images : List (Option Addr)) (given : Option Addr) (address : Addr)
    (until : Moment) (crossing : Crossing) → cross table side address ≡ crossing
    → (range_of table (other side)).first ≤ (range_of table (other side)).last → IsPlanned table later side earlier (address ∷ rest) given
    → AreImages later side earlier images → crossing ≢ Unbound → IsStep table later side earlier rest address until
    (planned_by (pool_of table (other side)) earlier images given address crossing)
step_by table later side earlier rest images given address until Same e ordered p are bound =
    let stays = settled_stays table later side address p.follows (ap is_settled e) ∙ e in
    step_settled table later side earlier rest given None address until p (ap is_settled stays) (sym (ap image_of stays))
step_by table later side earlier rest images given address until (Bound image) e ordered p are bound =
    let stays = settled_stays table later side address p.follows (ap is_settled e) ∙ e in
    step_settled table later side earlier rest given (Some image) address until p (ap is_settled stays) (sym (ap image_of stays))
step_by table later side earlier rest images given address until (New alias) e ordered p are bound =
    step_fresh table later side earlier rest images given address until _ ordered p are (ap needs_binding e) refl
step_by table later side earlier rest images given address until Unbound e ordered p are bound = absurd (bound refl)
step_by table later side earlier rest images given address until Empty e ordered p are bound =
    step_fresh table later side earlier rest images given address until _ ordered p are (ap needs_binding e) refl

-- a step goes on with the plan, and its image stays with the earlier ones
pub planned_step : (table later : Bindings) (side : Side) (earlier rest : List Addr) (images : List (Option Addr)) (given : Option Addr)
    (address : Addr) (until : Moment) → (range_of table (other side)).first ≤ (range_of table (other side)).last
    → IsPlanned table later side earlier (address ∷ rest) given → AreImages later side earlier images → cross table side address ≢ Unbound
    → IsStep table later side earlier rest address until (planned table side earlier images given address)
planned_step table later side earlier rest images given address until ordered p are bound =
    step_by table later side earlier rest images given address until (cross table side address) refl ordered p are bound

-- ## The whole plan

unless_host : (first second alias : Option Addr) (address : Addr) → unless_same (known_or (new_or_empty first) alias) second ≡ second
unless_host None second None address = refl
unless_host (Some one) second None address = refl
unless_host first second (Some known) address = refl

seen_host : (free alias : Option Addr) (address : Addr) → seen_by address (known_or (new_or_empty free) alias)
    ≡ image_of (known_or (new_or_empty free) alias)
seen_host None None address = refl
seen_host (Some one) None address = refl
seen_host free (Some known) address = refl

unless_is : (same pool : Bool) (host : Option Addr) (free free' : Addresses) (alias alias' : Option Addr) (address : Addr)
    → unless_same (crossed same pool host free alias) (seen_by address (crossed same pool host free' alias'))
    ≡ image_of (crossed same pool host free' alias')
unless_is true pool host free free' alias alias' address = refl
unless_is false true None free free' alias alias' address = refl
unless_is false true (Some known) free free' alias alias' address = refl
unless_is false false host free free' alias alias' address = unless_host (least_free free) _ alias address
    ∙ seen_host (least_free free') alias' address

image_is : (table later : Bindings) (side : Side) (address : Addr) → Follows table side later
    → image_after table later side address ≡ image_of (cross later side address)
image_is table later side address follows =
    let c = cross_follows table later side address follows in
    ap (λ (x : Crossing). unless_same x (seen_by address (cross later side address))) (cross_is table side address)
    ∙ ap (λ (x : Crossing). unless_same
    (crossed (is_same table address) (in_pool table side address) (host_of side address table.entries) (pool_of table (other side))
    (alias_of side address table.entries)) (seen_by address x)) c
    ∙ unless_is (is_same table address) (in_pool table side address) (host_of side address table.entries) (pool_of table (other side))
    (pool_of later (other side)) (alias_of side address table.entries) (alias_of side address later.entries) address
    ∙ sym (ap image_of c)

images_step : (later last : Bindings) (side : Side) (earlier : List Addr) (address : Addr) (images : List (Option Addr)) (image : Option Addr)
    → Follows later side last → ((one : Addr) → is_among earlier one ≡ true → is_settled (cross later side one) ≡ true)
    → AreImages later side earlier images → length earlier < length images → image ≡ image_of (cross last side address)
    → AreImages last side (earlier ++ address ∷ []) (set images (length earlier) image)
images_step later last side earlier address images image follows settled are room here place d within =
    elim (cases_eq place (length earlier)) [
      | inl same ↦
          let at : get_or (earlier ++ address ∷ []) place d ≡ address = get_or_push earlier address d place (sym same) in
          ap (λ (k : ℕ). get_or (set images (length earlier) image) k None) same ∙ get_or-set_same images (length earlier) image None room ∙ here
          ∙ ap (λ (a : Addr). image_of (cross last side a)) (sym at)
      | inr differs ↦
          let less : place < length earlier = omega (arith, length_push earlier address) in
          let one : Addr = get_or earlier place d in
          let among = list_any_at (is_address one) earlier place d less (eq-eqb one.0 one.0 refl) in
          get_or-set_other images (length earlier) place image None differs ∙ are place d less
          ∙ ap image_of (sym (settled_stays later last side one follows (settled one among)))
          ∙ ap (λ (a : Addr). image_of (cross last side a)) (sym (get_or_append_left earlier (address ∷ []) d place less))
    ]

abbrev pub address_of : Use → Addr
address_of one = one.address

-- a plan up to a place, whatever the moments of the uses
pub record IsAt (table : Bindings) (side : Side) (addresses : List Addr) (place : ℕ) (images : List (Option Addr)) (given : Option Addr)
    (uses : List Use) : Type 0 where
  pub plan : IsPlanned table (after_uses table (take place uses)) side (take place addresses) (drop place addresses) given
  pub images_are : AreImages (after_uses table (take place uses)) side (take place addresses) images

pub at_start : (table : Bindings) (side : Side) (addresses : List Addr) (images : List (Option Addr)) (uses : List Use)
    → length (fresh_after table side [] addresses) ≤ free_in (range_of table (other side)) (other side) table.entries
    → IsAt table side addresses 0 images None uses
at_start table side addresses images uses room = record {
  plan = planned_start table side addresses room;
  images_are = λ place d within. absurd (omega arith);
}

abbrev nobody : Use
nobody = record { side = Left; address = record { 0 = 0 }; until = record { 0 = 0 } }

-- the use at a place, by its moment
use_at : (side : Side) (uses : List Use) (addresses : List Addr) (place : ℕ) (d : Addr) → AreUsesOf side addresses uses → place < length addresses →
    get_or uses place nobody
    ≡ (let one : Use = record { side = side; address = get_or addresses place d; until = (get_or uses place nobody).until } in one)
use_at side uses addresses place d e within =
    let less : place < length uses = omega (arith, ap length e.each, length-map uses address_of) in
    let until : Moment = (get_or uses place nobody).until in
    let address : (get_or uses place nobody).address ≡ get_or addresses place d = sym (get_or-map address_of uses place nobody d less)
    ∙ ap (λ list. get_or list place d) e.each in
    ap (λ (s : Side). let one : Use = record { side = s; address = (get_or uses place nobody).address; until = until } in one)
    (e.sides place nobody less)
    ∙ ap (λ (a : Addr). let one : Use = record { side = side; address = a; until = until } in one) address

pub at_step : (table : Bindings) (side : Side) (addresses : List Addr) (place : ℕ) (images : List (Option Addr)) (given : Option Addr)
    (uses : List Use) (d : Addr) → (range_of table (other side)).first ≤ (range_of table (other side)).last → AreUsesOf side addresses uses
    → place < length addresses → length images ≡ length addresses → cross table side (get_or addresses place d) ≢ Unbound
    → IsAt table side addresses place images given uses
    → IsAt table side addresses (place + 1) (set images place (planned table side (take place addresses) images given (get_or addresses place d)).0)
    (planned table side (take place addresses) images given (get_or addresses place d)).1 uses
at_step table side addresses place images given uses d ordered e within long bound at =
    let address : Addr = get_or addresses place d in
    let earlier = take place addresses in
    let rest = drop (place + 1) addresses in
    let later = after_uses table (take place uses) in
    let until : Moment = (get_or uses place nobody).until in
    let one : Use = record { side = side; address = address; until = until } in
    let last = used later one in
    let less : place < length uses = omega (arith, ap length e.each, length-map uses address_of) in
    let from : drop place addresses ≡ address ∷ rest = rw add-one (drop-cons addresses place d within) in
    let to : take (place + 1) addresses ≡ earlier ++ address ∷ [] = take_more addresses place d within in
    let same : get_or uses place nobody ≡ one = use_at side uses addresses place d e within in
    let after : after_uses table (take (place + 1) uses) ≡ last = fold_more used table uses place nobody less ∙ ap (used later) same in
    let P : List Addr → Type 0 = λ list. IsPlanned table later side earlier list given in
    let plan = subst P from at.plan in
    let step = planned_step table later side earlier rest images given address until ordered plan at.images_are bound in
    let count : length earlier ≡ place = length-take-le place addresses (omega arith) in
    let image = (planned table side earlier images given address).0 in
    let are = images_step later last side earlier address images image (used_follows later one) plan.settled at.images_are (omega (arith, count))
    step.1 in
    let wide = rw count at are in
    record {
      plan = rw (after, to) step.0;
      images_are = rw (after, to) wide;
    }

pub at_end : (table : Bindings) (side : Side) (addresses : List Addr) (images : List (Option Addr)) (given : Option Addr) (uses : List Use)
    → AreUsesOf side addresses uses → length images ≡ length addresses → IsAt table side addresses (length addresses) images given uses
    → images ≡ images_after table uses
at_end table side addresses images given uses e long at =
    let after = after_uses table uses in
    let count : length uses ≡ length addresses = sym (length-map uses address_of) ∙ ap length e.each in
    let whole : take (length addresses) uses ≡ uses = take_all (length addresses) uses (omega arith) in
    let all : take (length addresses) addresses ≡ addresses = take_all (length addresses) addresses (omega arith) in
    let f : Use → Option Addr = λ one. image_after table after one.side one.address in
    let follows = (rw whole at at.plan).follows in
    let are = rw (whole, all) at at.images_are in
    same_lists images (map f uses) (long ∙ sym count ∙ sym (length-map uses f)) (λ k d within.
    let less : k < length uses = omega arith in
    let inside : k < length addresses = omega arith in
    let zero_address : Addr = record { 0 = 0 } in
    get_or_default images k d None within ∙ are k zero_address inside
    ∙ sym (image_is table after side (get_or addresses k zero_address) follows)
    ∙ sym (get_or-map f uses k nobody d less ∙ ap f (use_at side uses addresses k zero_address e inside)))
