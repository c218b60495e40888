-- What addresses are called after all uses of a segment: as after those of its header and of its names, whatever is used behind them.
use Rattle.std.proofs.Common.{◌≡◌, ◌≢◌, ◌≤◌, ℕ, List, [], ◌∷◌, sym, ap, ◌∙◌, inl, inr}
use Rattle.std.specs.List.{All, AllByRecursion}
use Rattle.gate_base.specs.Prelude.{other}
use Rattle.gate_base.specs.declared.address.Addr.{Addr}
use Rattle.gate_base.specs.declared.side.Side.{Side}
use Rattle.binding_table.specs.Prelude.{Bindings, cross, seen, seen_by, free, IsLawful, Use, after_uses, needed, unless_same, image_after}
use Rattle.binding_table.specs.declared.binding.Crossing.TheVariants.{Unbound}
use Rattle.gate_model.specs.Prelude.{uses_until}
use Rattle.gate_model.proofs.BoundTables.{lawful_after}
use Rattle.gate_model.proofs.ListsBound.{Crosses, as_seen, as_after, same_after}
use Rattle.gate_model.proofs.ListsKept.{same_cross, all_cross, table_of}

-- what crosses is called so for ever
seen_stays : (uses : List Use) (table : Bindings) (side : Side) (until : ℕ) (address : Addr) → IsLawful table → Crosses table side until address
    → seen (after_uses table uses) side address ≡ seen table side address
seen_stays uses table side until address lawful (inl same) =
    ap (seen_by address) (same_cross (after_uses table uses) side address (same_after uses table address ∙ same))
    ∙ sym (ap (seen_by address) (same_cross table side address same))
seen_stays uses table side until address lawful (inr h) =
    as_seen (after_uses table uses) side address.0 h.0.0 until (lawful_after uses table lawful)
    (as_after uses table side address.0 h.0.0 until lawful h.1)
    ∙ sym (as_seen table side address.0 h.0.0 until lawful h.1)

-- an address is called the same in both tables
abbrev pub IsCalledAlike : Bindings → Bindings → Side → Addr → Type 0
IsCalledAlike later table side address = seen later side address ≡ seen table side address

each_stays : (uses : List Use) (table : Bindings) (side : Side) (until : ℕ) (addresses : List Addr) → IsLawful table
    → AllByRecursion (Crosses table side until) addresses → AllByRecursion (IsCalledAlike (after_uses table uses) table side) addresses
each_stays uses table side until [] lawful h = tt
each_stays uses table side until (a ∷ addresses) lawful h =
    (seen_stays uses table side until a lawful h.0, each_stays uses table side until addresses lawful h.1)

pub called_alike : (uses : List Use) (table : Bindings) (side : Side) (until : ℕ) (addresses : List Addr) → IsLawful table
    → All (λ address. cross table side address ≢ Unbound) addresses → needed table side addresses ≤ free table (other side)
    → AllByRecursion (IsCalledAlike (after_uses (table_of table side until addresses) uses) (table_of table side until addresses) side) addresses
called_alike uses table side until addresses lawful bound room =
    each_stays uses (table_of table side until addresses) side until addresses (lawful_after (uses_until side until addresses) table lawful)
    (all_cross table side until [] addresses lawful bound room)

-- so they have the same images
pub images_alike : (table later sooner : Bindings) (side : Side) (addresses : List Addr) → AllByRecursion (IsCalledAlike later sooner side) addresses
    → AllByRecursion (λ a. image_after table later side a ≡ image_after table sooner side a) addresses
images_alike table later sooner side [] h = tt
images_alike table later sooner side (a ∷ addresses) h =
    (ap (unless_same (cross table side a)) h.0, images_alike table later sooner side addresses h.1)
