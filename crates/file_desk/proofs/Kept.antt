-- What stays of all slots.
use Rattle.std.proofs.Common.{◌≡◌, List, ℕ, Option, ap, ◌∙◌}
use Rattle.file_desk.specs.declared.place.Place.{Place}
use Rattle.gate_desk.specs.declared.slot.Slot.{Slot}
use Rattle.gate_desk.specs.declared.slot.PerSlot.{PerSlot}
use Rattle.file_desk.specs.Gathering.{ahead}
use Rattle.file_desk.specs.Inside.Gathering.{Keeps, access_of, unread}
use Rattle.gate_desk.specs.Slots.{at, put}
use Rattle.gate_desk.proofs.Laws.{mapped-same}

pub keeps_on : {F A : Type 0} (remaining : F → Option (List ℕ)) (a b c : PerSlot (Place F A)) → Keeps remaining a b → Keeps remaining b c
    → Keeps remaining a c
keeps_on remaining a b c h k = record { accesses = k.accesses ∙ h.accesses; ahead = k.ahead ∙ h.ahead; unread = k.unread ∙ h.unread }

-- a place that keeps these is put for another
pub keeps_put : {F A : Type 0} (remaining : F → Option (List ℕ)) (a : PerSlot (Place F A)) (s : Slot) (old new : Place F A) → old ≡ at a s
    → access_of new ≡ access_of old → ahead new ≡ ahead old → unread remaining new ≡ unread remaining old → Keeps remaining a (put a s new)
keeps_put remaining a s old new is access front rest = record {
  accesses = mapped-same access_of a s new (access ∙ ap access_of is);
  ahead = mapped-same ahead a s new (front ∙ ap ahead is);
  unread = mapped-same (unread remaining) a s new (rest ∙ ap (unread remaining) is);
}
