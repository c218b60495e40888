-- What stands written, and the law over what a desk tells.
use Rattle.std.proofs.Common.{◌≡◌, ℕ, true, List, [], ◌∷◌, ◌++◌, Some, refl, sym, ◌∙◌, ap, subst, append_assoc, if◌then◌else◌, append-nil}
use Rattle.gate_desk.specs.Outside.{wrote, told_at}
use Rattle.gate_desk.specs.Slots.{at, put, same_slot}
use Rattle.gate_desk.proofs.Laws.{at-put_append}
use Rattle.gate_desk.specs.declared.slot.PerSlot.{PerSlot}
use Rattle.gate_desk.specs.declared.slot.Slot.{Slot}
use Rattle.gate_desk.specs.declared.slot.Slot.TheVariants as slots
use Rattle.gate_settings.specs.declared.settings.Settings.{Settings}
use Rattle.pcap_files.specs.Prelude.{Head, Good, Bad, head_of}
use Rattle.pcap_merge.specs.Prelude.{Done, are_good, by_heads}
use Rattle.pcap_merge.specs.Events.{have_good_heads, events_of}
use Rattle.gateway.specs.Prelude.{files, outputs_of, Piece}
use Rattle.run_setup.specs.Prelude.{IsAccepted, events_in}
use Rattle.settings_file.proofs.Accepted.{accepted as accepted_settings}
use Rattle.gateway.specs.Pieces.{wrote_pieces}
use Rattle.gateway.proofs.Runs.{good_outputs}
use Rattle.runs_are_lawful.proofs.EventsRead.{events_are_read}
use Rattle.lawful_files.specs.Prelude.{LawfulFor}
use Rattle.runs_are_lawful.specs.Outputs.{octets_to, IsOctets, OutputsFit}
use Rattle.runs_are_lawful.proofs.Files.{files_lawful}

-- ## What stands written

pub stands_written : (pieces : List Piece) (told : PerSlot (List ℕ)) (slot : Slot)
    → told_at (wrote_pieces pieces (Some told)) slot ≡ Some (at told slot ++ octets_to slot pieces)
unfolding told_at wrote_pieces wrote
stands_written [] told slot = ap Some (sym (append-nil (at told slot)))
stands_written (p ∷ pieces) told slot =
    stands_written pieces (put told p.slot (at told p.slot ++ p.octets)) slot
    ∙ ap (λ (xs : List ℕ). Some (xs ++ octets_to slot pieces)) (at-put_append told p.slot slot p.octets)
    ∙ ap Some (append_assoc (at told slot) (if same_slot p.slot slot then p.octets else []) (octets_to slot pieces))

-- ## The law

heads_good : (left right : List ℕ) → (events_of left right).ending ≡ Done → have_good_heads left right ≡ true
unfolding events_of have_good_heads
heads_good left right e = by_heads_of (head_of left) (head_of right) e
  where
    by_heads_of : (l r : Head) → (by_heads left right l r).ending ≡ Done → are_good l r ≡ true
    by_heads_of (Bad f) r g = cc
    by_heads_of (Good l) (Bad f) g = cc
    by_heads_of (Good l) (Good r) g = refl

pub faulty : (all : PerSlot (List ℕ)) (settings : Settings) → IsAccepted settings all → IsOctets all → have_good_heads all.left_in all.right_in ≡ true
    → let pieces = outputs_of settings all in OutputsFit pieces
    → LawfulFor settings (events_in all) (octets_to slots.LeftOut pieces) (octets_to slots.RightOut pieces) (octets_to slots.Report pieces)
faulty all settings accepted octets good fit =
    let same = good_outputs settings all good in
    let small : OutputsFit (files settings (events_in all)) = subst OutputsFit same fit in
    subst (λ (ps : List Piece). LawfulFor settings (events_in all) (octets_to slots.LeftOut ps) (octets_to slots.RightOut ps)
    (octets_to slots.Report ps)) (sym same)
    (files_lawful settings (events_in all) (accepted_settings all.settings settings accepted).macs
    (events_are_read all.left_in all.right_in octets.left octets.right) small.left small.right)

pub done : (all : PerSlot (List ℕ)) (settings : Settings) → IsAccepted settings all → IsOctets all → (events_in all).ending ≡ Done → let pieces =
    outputs_of settings all in OutputsFit pieces
    → LawfulFor settings (events_in all) (octets_to slots.LeftOut pieces) (octets_to slots.RightOut pieces) (octets_to slots.Report pieces)
done all settings accepted octets ended fit = faulty all settings accepted octets (heads_good all.left_in all.right_in ended) fit
