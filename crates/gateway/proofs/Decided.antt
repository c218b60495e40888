-- Where no count rose, the settings and the captures decide the status of a run, but for want of memory.
use Rattle.std.proofs.Common.{◌≡◌, ℕ, List, Err, inl, inr, refl, ap}
use Rattle.gate_base.specs.declared.side.Side.{Side}
use Rattle.gate_desk.specs.declared.slot.Slot.TheVariants.{Report}
use Rattle.gate_desk.specs.declared.slot.PerSlot.{PerSlot}
use Rattle.gate_desk.specs.Outside.{Outside}
use Rattle.settings_file.specs.Accepting.{settings_of}
use Rattle.settings_file.specs.declared.fault.SettingsFault.{SettingsFault}
use Rattle.gate_settings.specs.declared.settings.Settings.{Settings as GateSettings}
use Rattle.pcap_files.specs.declared.fault.CaptureFault.{CaptureFault}
use Rattle.pcap_merge.specs.Prelude.{Done as BothEnded, Fault as EndsFaulty}
use Rattle.run_setup.specs.declared.status.Status.{Status}
use Rattle.run_setup.specs.declared.status.Status.TheVariants.{Done, Usage, SettingsRefused, CaptureRefused, ReadFault, WriteFault, OpenFault, OutOfMemory, Unlawful}
use Rattle.run_setup.specs.Prelude.{IsAccepted, events_in, NoneRose, IsUnlessMemory}
use Rattle.run_setup.specs.RunNames.{Names}
use Rattle.run_setup.proofs.Beginning.{at_told, no_fault, same_fault, no_end, same_end}
use Rattle.gateway.specs.Decided.{IsRunOf}
use Rattle.gateway.specs.Prelude.{IsMake}

pub settings_decide : (all : PerSlot (List ℕ)) (status : Status) (names : Names) (old new : Outside) (fault : SettingsFault)
    → IsRunOf all status names old new → settings_of all.settings ≡ Err fault → IsUnlessMemory (SettingsRefused fault) status
settings_decide all Done names old new fault h e = let v = at_told old.left all _ h.told h.run.ends.cause.0 in absurd (no_fault all v.0 fault v.1 e)
settings_decide all Usage names old new fault h e = absurd h.run.ends.cause
settings_decide all (SettingsRefused other) names old new fault h e =
    inl (ap SettingsRefused (same_fault other fault all (at_told old.left all _ h.told h.run.ends.cause.0) e))
settings_decide all (CaptureRefused s f n) names old new fault h e = let v = at_told old.left all _ h.told h.run.ends.cause.0 in
    absurd (no_fault all v.0 fault v.1 e)
settings_decide all (ReadFault slot) names old new fault h e = absurd (h.none.calls slot h.run.ends.cause.1)
settings_decide all (WriteFault slot) names old new fault h e = absurd (h.none.calls slot h.run.ends.cause.1)
settings_decide all (OpenFault slot) names old new fault h e = absurd (h.none.starts slot h.run.ends.cause.1)
settings_decide all OutOfMemory names old new fault h e = inr refl
settings_decide all (Unlawful number reason) names old new fault h e = absurd h.run.ends.cause

pub ends_decide : (all : PerSlot (List ℕ)) (status : Status) (names : Names) (old new : Outside) (settings : GateSettings)
    → IsRunOf all status names old new → IsAccepted settings all → (events_in all).ending ≡ BothEnded → IsUnlessMemory Done status
ends_decide all Done names old new settings h accepted ended = inl refl
ends_decide all Usage names old new settings h accepted ended = absurd h.run.ends.cause
ends_decide all (SettingsRefused other) names old new settings h accepted ended =
    absurd (no_fault all settings other accepted (at_told old.left all _ h.told h.run.ends.cause.0))
ends_decide all (CaptureRefused s f n) names old new settings h accepted ended = let v = at_told old.left all _ h.told h.run.ends.cause.0 in
    absurd (no_end (events_in all).ending s f n ended v.2)
ends_decide all (ReadFault slot) names old new settings h accepted ended = absurd (h.none.calls slot h.run.ends.cause.1)
ends_decide all (WriteFault slot) names old new settings h accepted ended = absurd (h.none.calls slot h.run.ends.cause.1)
ends_decide all (OpenFault slot) names old new settings h accepted ended = absurd (h.none.starts slot h.run.ends.cause.1)
ends_decide all OutOfMemory names old new settings h accepted ended = inr refl
ends_decide all (Unlawful number reason) names old new settings h accepted ended = absurd h.run.ends.cause

pub fault_decides : (all : PerSlot (List ℕ)) (status : Status) (names : Names) (old new : Outside) (settings : GateSettings) (side : Side)
    (fault : CaptureFault) (place : ℕ) → IsRunOf all status names old new → IsAccepted settings all
    → (events_in all).ending ≡ EndsFaulty side fault place → IsUnlessMemory (CaptureRefused side fault place) status
fault_decides all Done names old new settings side fault place h accepted ended = let v = at_told old.left all _ h.told h.run.ends.cause.0 in
    absurd (no_end (events_in all).ending side fault place v.2 ended)
fault_decides all Usage names old new settings side fault place h accepted ended = absurd h.run.ends.cause
fault_decides all (SettingsRefused other) names old new settings side fault place h accepted ended =
    absurd (no_fault all settings other accepted (at_told old.left all _ h.told h.run.ends.cause.0))
fault_decides all (CaptureRefused s f n) names old new settings side fault place h accepted ended = let v =
    at_told old.left all _ h.told h.run.ends.cause.0 in inl (same_end (events_in all).ending s side f fault n place v.2 ended)
fault_decides all (ReadFault slot) names old new settings side fault place h accepted ended = absurd (h.none.calls slot h.run.ends.cause.1)
fault_decides all (WriteFault slot) names old new settings side fault place h accepted ended = absurd (h.none.calls slot h.run.ends.cause.1)
fault_decides all (OpenFault slot) names old new settings side fault place h accepted ended = absurd (h.none.starts slot h.run.ends.cause.1)
fault_decides all OutOfMemory names old new settings side fault place h accepted ended = inr refl
fault_decides all (Unlawful number reason) names old new settings side fault place h accepted ended = absurd h.run.ends.cause

pub make_decided : (status : Status) (number count : ℕ) (report : List ℕ) (old new : Outside) → IsMake status number count report old new
    → NoneRose old new → IsUnlessMemory Done status
make_decided Done number count report old new h none = inl refl
make_decided (WriteFault Report) number count report old new h none = absurd (none.calls Report h.made.0)
make_decided (OpenFault Report) number count report old new h none = absurd (none.starts Report h.made.0)
make_decided OutOfMemory number count report old new h none = inr refl
make_decided status number count report old new h none = absurd h.made
