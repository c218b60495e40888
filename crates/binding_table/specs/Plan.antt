-- What addresses are called once they have been used in their order.
use Rattle.std.specs.Prelude.{◌≡◌, All, ℕ, Bool, true, false, not, ◌&&◌, ◌==◌, if◌then◌else◌, List, [], ◌∷◌, ◌++◌, length, map, Option, None}
use Rattle.std.specs.List.{fold, list_any}
use Rattle.gate_base.specs.declared.address.Addr.{Addr}
use Rattle.gate_base.specs.declared.event.Moment.{Moment}
use Rattle.gate_base.specs.declared.side.Side.{Side}
use Rattle.binding_table.specs.declared.binding.Crossing.{Crossing}
use Rattle.binding_table.specs.declared.binding.Crossing.TheVariants.{Same, Bound, New, Empty}
use Rattle.binding_table.specs.Bindings.{Bindings, cross, seen, extended, bound_by}

-- ## Uses

-- an address that is used, the realm from which it crosses, and the moment until which its binding then lives at least
pub record Use : Type 0 where
  pub side : Side
  pub address : Addr
  pub until : Moment

-- the table after an address was used that crosses so
abbrev pub used_by : Bindings → Side → Addr → Moment → Crossing → Bindings
used_by table side address until (Bound image) = extended table side address until
used_by table side address until crossing = bound_by table side address until crossing

-- the table after an address was used: its binding lasts longer, or a new host is bound
abbrev pub used : Bindings → Use → Bindings
used table one = used_by table one.side one.address one.until (cross table one.side one.address)

-- the table after addresses, of whichever realm each, were used in their order
abbrev pub after_uses : Bindings → List Use → Bindings
after_uses table uses = fold used table uses

-- the uses are of these addresses of the realm, in their order
pub record AreUsesOf (side : Side) (addresses : List Addr) (uses : List Use) : Type 0 where
  pub sides : All (λ one. one.side ≡ side) uses
  pub each : map (λ one. one.address) uses ≡ addresses

-- ## Images

-- none for an address that crosses unchanged
abbrev pub unless_same : Crossing → Option Addr → Option Addr
unless_same Same image = None
unless_same _ image = image

-- the address that an address which doesn't cross unchanged has in a later table
abbrev pub image_after : Bindings → Bindings → Side → Addr → Option Addr
image_after table after side address = unless_same (cross table side address) (seen after side address)

-- what the used addresses are called after all of them
abbrev pub images_after : Bindings → List Use → List (Option Addr)
images_after table uses = map (λ one. image_after table (after_uses table uses) one.side one.address) uses

-- ## Addresses that need a binding

-- a host that has no binding, whether or not an address is free
abbrev pub needs_binding : Crossing → Bool
needs_binding (New alias) = true
needs_binding Empty = true
needs_binding _ = false

-- the two are one address
abbrev pub is_address : Addr → Addr → Bool
is_address address one = one.0 == address.0

-- the address is one of these
abbrev pub is_among : List Addr → Addr → Bool
is_among addresses address = list_any (is_address address) addresses

-- the address needs a binding, and isn't one of the earlier ones
abbrev pub is_fresh : Bindings → Side → List Addr → Addr → Bool
is_fresh table side earlier address = needs_binding (cross table side address) && not (is_among earlier address)

-- the addresses that need a binding, each where it stands first
abbrev pub fresh_after : Bindings → Side → List Addr → List Addr → List Addr
fresh_after table side earlier [] = []
fresh_after table side earlier (address ∷ rest) =
    if is_fresh table side earlier address then address ∷ fresh_after table side (earlier ++ address ∷ []) rest else fresh_after table side
    (earlier ++ address ∷ []) rest

-- how many distinct addresses need a binding
abbrev pub needed : Bindings → Side → List Addr → ℕ
needed table side addresses = length (fresh_after table side [] addresses)
