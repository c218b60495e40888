-- Where no record was taken of the captures.
use Rattle.std.proofs.Common.{◌≡◌, ℕ, List, [], Err, ap, ◌∙◌}
use Rattle.gate_desk.specs.declared.slot.Slot.TheVariants.{Settings}
use Rattle.gate_desk.specs.Outside.{Outside, Trace, Start, Takes, told_at}
use Rattle.gate_settings.specs.declared.settings.Settings.{Settings as GateSettings}
use Rattle.pcap_merge.specs.declared.stop.MergeStop.{MergeStop}
use Rattle.pcap_merge.specs.declared.stop.MergeStop.TheVariants as merges
use Rattle.pcap_merge.specs.Prelude.{TakenFor, Begins, slot_of}
use Rattle.pcap_merge.proofs.Given.{taken_none, taken_since}
use Rattle.run_setup.specs.Prelude.{Settled}
use Rattle.run_setup.proofs.Beginning.{told_before}

-- nothing was read
pub kept_left : (a b : Outside) → b.left ≡ a.left → TakenFor [] a b
kept_left a b e = taken_none a b (λ side. ap (λ (t : Trace). told_at t (slot_of side)) e)

-- the settings alone were read
pub settings_only : (n : ℕ) (a b c : Outside) → b.left ≡ a.left → Takes Settings n b c → TakenFor [] a c
settings_only n a b c e t =
    taken_none a c
    (λ side. ap (λ (u : Trace). told_at u (slot_of side)) t.left ∙ told_before side n b.left ∙ ap (λ (u : Trace). told_at u (slot_of side)) e)

-- a head could not be read
pub not_begun_few : (stop : MergeStop) (a b c : Outside) → b.left ≡ a.left → Begins (Err stop) b c → TakenFor [] a c
not_begun_few (merges.Fault side f place) a b c e k = taken_since b a c [] (λ side'. ap (λ (t : Trace). told_at t (slot_of side')) e) k.3
not_begun_few (merges.Desk slot) a b c e k = taken_since b a c [] (λ side. ap (λ (t : Trace). told_at t (slot_of side)) e) k.4
not_begun_few merges.OutOfMemory a b c e k = taken_since b a c [] (λ side. ap (λ (t : Trace). told_at t (slot_of side)) e) k.1

-- the same behind the settings
pub settled_few : (settings : GateSettings) (xs : List Start) (a b c : Outside) → Settled settings xs a b → TakenFor [] b c → TakenFor [] a c
settled_few settings xs a b c h k =
    taken_since b a c [] (λ side. ap (λ (t : Trace). told_at t (slot_of side)) h.left ∙ told_before side h.count a.left) k
