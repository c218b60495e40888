-- What both addresses of a datagram that passes are called, and when a pool is empty.
use Rattle.std.proofs.Common.{◌≡◌, ◌≢◌, inl, inr, ℕ, ◌+◌, Bool, true, false, not, ◌||◌, nat_lt, if◌then◌else◌, List, [], ◌∷◌, ◌++◌, length, Option, Some, None, option_map, is_some, count_by, position, drop, refl, sym, ap, subst, ◌∙◌, arith, unwrap_or}
use Rattle.std.specs.List.{filter, position_or_len}
use Rattle.std.proofs.lemmas.Bool.{cases_Bool, cases_lt, false≢true, le-ltb, eq-eqb, or_cases, and_parts}
use Rattle.std.proofs.lemmas.List.Sums.{length-filter}
use Rattle.gate_base.specs.Prelude.{is_unicast_number, other}
use Rattle.gate_base.specs.declared.address.Addr.{Addr}
use Rattle.gate_base.specs.declared.event.Moment.{Moment}
use Rattle.gate_base.specs.declared.side.Side.{Side}
use Rattle.gate_base.proofs.Sides.{same_side-itself}
use Rattle.gate_base.proofs.Options.{none_mapped}
use Rattle.gate_settings.specs.Prelude.{is_in_same}
use Rattle.realm_pools.specs.Addresses.{least_free}
use Rattle.binding_table.specs.declared.binding.Binding.{Binding}
use Rattle.binding_table.specs.declared.binding.Crossing.{Crossing}
use Rattle.binding_table.specs.declared.binding.Crossing.TheVariants.{Same, Bound, New, Unbound, Empty}
use Rattle.binding_table.specs.Prelude.{Bindings, is_same, in_pool, is_of_host, alias_of, host_of, pool_of, free, seen, seen_by, known_or, new_or_empty, with_binding, extended, IsNew, is_settled, Use, used, used_by, after_uses, needed, needs_binding}
use Rattle.binding_table.specs.Bindings.{cross}
use Rattle.binding_table.proofs.Bind.{HasNoBinding, unbound_of}
use Rattle.binding_table.proofs.Planned.{settled_stays, extended_follows, used_follows, flags_free}
use Rattle.gate_model.specs.Prelude.{is_reachable, uses_until, called}
use Rattle.gate_model.proofs.BoundTables.{new_is_least}
use Rattle.gate_model.proofs.ListsKept.{known_unbound}
use Rattle.event_payloads.specs.Prelude.{image_by, is_empty}

-- ## After a use

alias_last : (side : Side) (host : Addr) (entries : List Binding) (binding : Binding) → is_of_host side host.0 binding ≡ true
    → alias_of side host entries ≡ None → alias_of side host (entries ++ binding ∷ []) ≡ Some binding.alias
alias_last side host [] binding is none = rw is refl
alias_last side host (one ∷ rest) binding is none = elim (cases_Bool (is_of_host side host.0 one)) [
  | inl here ↦ absurd (cc (rw here at none))
  | inr later ↦ rw later (alias_last side host rest binding is (rw later at none))
]

new_known : (t : Bindings) (side : Side) (host : Addr) (binding : Binding) → is_of_host side host.0 binding ≡ true → HasNoBinding t side host
    → cross (with_binding t binding) side host ≡ Bound binding.alias
unfolding cross
new_known t side host binding is h = rw (h.differs, h.outside, alias_last side host t.entries binding is h.alias) refl

is_of_itself : (side : Side) (host : ℕ) (binding : Binding) → binding.side ≡ side → binding.host.0 ≡ host → is_of_host side host binding ≡ true
is_of_itself side host binding s h = rw (s, h, same_side-itself side) (eq-eqb host host refl)

-- what is seen is the image of a settled crossing
seen_image : (t : Bindings) (side : Side) (address : Addr) (crossing : Crossing) → cross t side address ≡ crossing → is_settled crossing ≡ true
    → seen t side address ≡ Some (image_by crossing address)
seen_image t side address Same e s = rw e refl
seen_image t side address (Bound image) e s = rw e refl
seen_image t side address (New alias) e s = absurd (false≢true s)
seen_image t side address Unbound e s = absurd (false≢true s)
seen_image t side address Empty e s = absurd (false≢true s)

-- a crossing after the use of its address
pub record IsCalled (t : Bindings) (side : Side) (address image : Addr) : Type 0 where
  pub settled : is_settled (cross t side address) ≡ true
  pub seen : seen t side address ≡ Some image

pub of_crossing : (t : Bindings) (side : Side) (address : Addr) (crossing : Crossing) → cross t side address ≡ crossing → is_settled crossing ≡ true
    → IsCalled t side address (image_by crossing address)
of_crossing t side address crossing e s = record { settled = ap is_settled e ∙ s; seen = seen_image t side address crossing e s }

pub used_called : (t : Bindings) (side : Side) (address : Addr) (until : Moment) (crossing : Crossing) → cross t side address ≡ crossing
    → crossing ≢ Unbound → is_empty crossing ≡ false → IsCalled (used_by t side address until crossing) side address (image_by crossing address)
used_called t side address until Same e u m = of_crossing t side address Same e refl
used_called t side address until (Bound image) e u m =
    let stays = settled_stays t (extended t side address until) side address (extended_follows t side address until) (ap is_settled e) in
    of_crossing (extended t side address until) side address (Bound image) (stays ∙ e) refl
used_called t side address until (New alias) e u m =
    let binding : Binding = record { side = side; host = address; alias = alias; until = until; fixed = false } in
    let unbound = unbound_of t side address (subst IsNew (sym e) tt) in
    of_crossing (with_binding t binding) side address (Bound alias)
    (new_known t side address binding (is_of_itself side address.0 binding refl refl) unbound) refl
used_called t side address until Unbound e u m = absurd (u refl)
used_called t side address until Empty e u m = absurd (false≢true (sym m))

-- and after another use
pub still_called : (t : Bindings) (address image : Addr) (one : Use) → IsCalled t one.side address image
    → IsCalled (used t one) one.side address image
still_called t address image one h =
    let same = settled_stays t (used t one) one.side address (used_follows t one) h.settled in
    record { settled = ap is_settled same ∙ h.settled; seen = ap (seen_by address) same ∙ h.seen }

-- and after uses of addresses of the realm
pub still_after : (t : Bindings) (side : Side) (address image : Addr) (until : ℕ) (addresses : List Addr) → IsCalled t side address image
    → IsCalled (after_uses t (uses_until side until addresses)) side address image
still_after t side address image until [] h = h
still_after t side address image until (other_one ∷ rest) h =
    let one : Use = record { side = side; address = other_one; until = record { 0 = until } } in
    still_after (used t one) side address image until rest (still_called t address image one h)

pub called_is : {t : Bindings} {side : Side} {address image : Addr} → IsCalled t side address image → called t side address ≡ image
called_is {address = address} h = ap (λ (o : Option Addr). unwrap_or o address) h.seen

-- ## What the tests say

same_or_not : (unicast : Bool) {same : Bool} → same ≡ true → (not unicast || same) ≡ true
same_or_not true h = h
same_or_not false h = refl

same_settled : (t : Bindings) (side : Side) (address : Addr) → is_in_same address t.same ≡ true → is_settled (cross t side address) ≡ true
unfolding cross
same_settled t side address h = rw (same_or_not (is_unicast_number address.0) h) refl

seen_settled : (address : Addr) (crossing : Crossing) → is_some (seen_by address crossing) ≡ true → is_settled crossing ≡ true
seen_settled address Same h = refl
seen_settled address (Bound image) h = refl
seen_settled address (New alias) h = absurd (false≢true h)
seen_settled address Unbound h = absurd (false≢true h)
seen_settled address Empty h = absurd (false≢true h)

-- an address that can be reached has a settled crossing
pub reached_settled : (t : Bindings) (side : Side) (address : Addr) → is_reachable t side address ≡ true → is_settled (cross t side address) ≡ true
reached_settled t side address h = elim (or_cases (is_in_same address t.same) _ h) as (λ x. is_settled (cross t side address) ≡ true) [
  | inl same ↦ same_settled t side address same
  | inr pool ↦ seen_settled address (cross t side address) (and_parts (in_pool t side address) (is_some (seen t side address)) pool).1
]

-- ## An empty pool

least_none : (same pool : Bool) (host alias least : Option Addr)
    → (if same then Same else if pool then known_or Unbound host else known_or (new_or_empty least) alias) ≡ Empty → least ≡ None
least_none true pool host alias least e = absurd cc
least_none false true None alias least e = absurd cc
least_none false true (Some a) alias least e = absurd cc
least_none false false host (Some a) least e = absurd cc
least_none false false host None (Some a) e = absurd cc
least_none false false host None None e = refl

empty_least : (t : Bindings) (side : Side) (address : Addr) → cross t side address ≡ Empty → least_free (pool_of t (other side)) ≡ None
unfolding cross
empty_least t side address e =
    least_none (is_same t address) (in_pool t side address) (host_of side address t.entries) (alias_of side address t.entries)
    (least_free (pool_of t (other side))) e

no_least : (first : ℕ) (taken : List Bool)
    → option_map (λ more. let a : Addr = record { 0 = first + (0 + more) } in a) (position not (drop 0 taken)) ≡ None → position not taken ≡ None
no_least first taken e = none_mapped _ (position not taken) e

all_taken : (flags : List Bool) → length (filter not flags) ≡ 0 → position_or_len not flags ≡ length flags
all_taken [] h = refl
all_taken (true ∷ flags) h = omega (arith, all_taken flags h)
all_taken (false ∷ flags) h = absurd (omega (arith, h))

none_free : (flags : List Bool) → count_by not flags ≡ 0 → position not flags ≡ None
none_free flags h =
    let taken = all_taken flags (length-filter not flags ∙ h) in
    rw (taken, le-ltb (length flags) (length flags) (omega arith)) refl

least_taken : (first : ℕ) (taken : List Bool) (alias : Addr)
    → option_map (λ more. let a : Addr = record { 0 = first + (0 + more) } in a) (position not (drop 0 taken)) ≡ Some alias → count_by not taken ≡ 0
    → ⊥
least_taken first taken alias e h = cc (rw (none_free taken h) at e)

needed_is : (t : Bindings) (side : Side) (source destination : Addr) (s d : Crossing) → cross t side source ≡ s → cross t side destination ≡ d
    → is_settled d ≡ true → needed t side (source ∷ destination ∷ []) ≡ (if needs_binding s then 1 else 0)
needed_is t side source destination Same Same e f h = rw (e, f) refl
needed_is t side source destination (Bound i) Same e f h = rw (e, f) refl
needed_is t side source destination (New a) Same e f h = rw (e, f) refl
needed_is t side source destination Unbound Same e f h = rw (e, f) refl
needed_is t side source destination Empty Same e f h = rw (e, f) refl
needed_is t side source destination Same (Bound j) e f h = rw (e, f) refl
needed_is t side source destination (Bound i) (Bound j) e f h = rw (e, f) refl
needed_is t side source destination (New a) (Bound j) e f h = rw (e, f) refl
needed_is t side source destination Unbound (Bound j) e f h = rw (e, f) refl
needed_is t side source destination Empty (Bound j) e f h = rw (e, f) refl
needed_is t side source destination s (New a) e f h = absurd (false≢true h)
needed_is t side source destination s Unbound e f h = absurd (false≢true h)
needed_is t side source destination s Empty e f h = absurd (false≢true h)

pub free_is : (t : Bindings) (side : Side) (source : Addr) (s : Crossing) → cross t side source ≡ s
    → nat_lt (free t (other side)) (if needs_binding s then 1 else 0) ≡ is_empty s
free_is t side source Same e = le-ltb (free t (other side)) 0 (omega arith)
free_is t side source (Bound i) e = le-ltb (free t (other side)) 0 (omega arith)
free_is t side source Unbound e = le-ltb (free t (other side)) 0 (omega arith)
free_is t side source Empty e =
    rw (flags_free (pool_of t (other side)).taken
    (no_least (pool_of t (other side)).range.first (pool_of t (other side)).taken (empty_least t side source e))) refl
free_is t side source (New a) e = elim (cases_lt 0 (free t (other side))) [
  | inl some ↦ le-ltb (free t (other side)) 1 (omega (arith, some))
  | inr none ↦ absurd
      (least_taken (pool_of t (other side)).range.first (pool_of t (other side)).taken a (new_is_least t side source a e).1 (omega (arith, none)))
]

-- the pool is too small exactly where the source's crossing is empty
pub pool_empty_is : (t : Bindings) (side : Side) (source destination : Addr) → is_settled (cross t side destination) ≡ true
    → nat_lt (free t (other side)) (needed t side (source ∷ destination ∷ [])) ≡ is_empty (cross t side source)
pool_empty_is t side source destination h =
    ap (nat_lt (free t (other side))) (needed_is t side source destination (cross t side source) (cross t side destination) refl refl h)
    ∙ free_is t side source (cross t side source) refl

-- ## Both addresses after both uses

pub source_called : (t : Bindings) (side : Side) (source destination : Addr) (until : Moment) → in_pool t side source ≡ false
    → is_empty (cross t side source) ≡ false →
    called (after_uses t (uses_until side until.0 (source ∷ destination ∷ []))) side source ≡ image_by (cross t side source) source
source_called t side source destination until outside room =
    let first = used_called t side source until (cross t side source) refl (known_unbound t side source outside) room in
    called_is (still_after (used t (record { side = side; address = source; until = until })) side source _ until.0 (destination ∷ []) first)

pub destination_called : (t : Bindings) (side : Side) (source destination : Addr) (until : Moment) → is_settled (cross t side destination) ≡ true →
    called (after_uses t (uses_until side until.0 (source ∷ destination ∷ []))) side destination ≡ image_by (cross t side destination) destination
destination_called t side source destination until settled =
    let now = of_crossing t side destination (cross t side destination) refl settled in
    called_is (still_after t side destination _ until.0 (source ∷ destination ∷ []) now)
