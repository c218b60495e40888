-- Where no count rose, the files decide the status of an audit, but for want of memory.
use Rattle.std.proofs.Common.{◌≡◌, ℕ, List, true, Err, inl, inr, refl, ◌∙◌, ap, subst}
use Rattle.frag_join.specs.Prelude.{arrivals_of}
use Rattle.gate_base.specs.declared.side.Side.{Side}
use Rattle.gate_desk.specs.declared.slot.PerSlot.{PerSlot}
use Rattle.gate_desk.specs.Outside.{Outside}
use Rattle.settings_file.specs.Accepting.{settings_of}
use Rattle.settings_file.specs.declared.fault.SettingsFault.{SettingsFault}
use Rattle.gate_settings.specs.declared.settings.Settings.{Settings as GateSettings}
use Rattle.pcap_files.specs.declared.fault.CaptureFault.{CaptureFault}
use Rattle.pcap_merge.specs.Prelude.{Done as BothEnded, Fault as EndsFaulty, have_good_heads}
use Rattle.lawful_files.specs.declared.reason.AuditReason.{AuditReason}
use Rattle.lawful_files.proofs.ReasonsApart.{no_reason, one_reason}
use Rattle.run_setup.specs.declared.status.Status.{Status}
use Rattle.run_setup.specs.declared.status.Status.TheVariants.{Done, Usage, SettingsRefused, CaptureRefused, ReadFault, WriteFault, OpenFault, OutOfMemory, Unlawful}
use Rattle.run_setup.specs.AuditNames.{Names}
use Rattle.run_setup.specs.Prelude.{IsAccepted, events_in, IsUnlessMemory}
use Rattle.gateway_audit.specs.Causes.{AreLawful, IsFirstReason}
use Rattle.run_setup.proofs.Beginning.{at_told, no_fault, same_fault, no_end, same_end}
use Rattle.gateway_audit.specs.Decided.{IsAuditOf}

-- ## What is told

-- accepted settings are the same ones
same_settings : (all : PerSlot (List ℕ)) (s t : GateSettings) → IsAccepted s all → IsAccepted t all → s ≡ t
same_settings all s t a b = cc

-- the first reason is no other where the settings are accepted
lawful_in : (all : PerSlot (List ℕ)) (s t : GateSettings) → IsAccepted s all → IsAccepted t all → AreLawful s all → AreLawful t all
lawful_in all s t a b h = subst (λ x. AreLawful x all) (same_settings all s t a b) h

not_both : (all : PerSlot (List ℕ)) (s t : GateSettings) (number : ℕ) (reason : AuditReason) → IsAccepted s all → IsAccepted t all → AreLawful s all
    → IsFirstReason t all number reason → ⊥
not_both all s t number reason a b lawful first =
    no_reason t (arrivals_of t.join (events_in all).events) (events_in all).ending all.left_given all.right_given all.report_given number reason
    (lawful_in all s t a b lawful) first

same_reason : (all : PerSlot (List ℕ)) (s t : GateSettings) (n m : ℕ) (r q : AuditReason) → IsAccepted s all → IsAccepted t all
    → IsFirstReason s all n r → IsFirstReason t all m q → Unlawful n r ≡ Unlawful m q
same_reason all s t n m r q a b h k =
    let moved = subst (λ x. IsFirstReason x all n r) (same_settings all s t a b) h in
    let one =
    one_reason t (arrivals_of t.join (events_in all).events)
    (events_in all).ending all.left_given all.right_given all.report_given n m r q moved k in
    ap (λ (x : ℕ). Unlawful x r) one.0 ∙ ap (λ (x : AuditReason). Unlawful m x) one.1

-- ## The status

pub settings_decide : (all : PerSlot (List ℕ)) (status : Status) (names : Names) (old new : Outside) (fault : SettingsFault)
    → IsAuditOf all status names old new → settings_of all.settings ≡ Err fault → IsUnlessMemory (SettingsRefused fault) status
settings_decide all Done names old new fault h e = let v = at_told old.left all _ h.told h.audit.cause.0 in absurd (no_fault all v.0 fault v.1 e)
settings_decide all Usage names old new fault h e = absurd h.audit.cause
settings_decide all (SettingsRefused other) names old new fault h e =
    inl (ap SettingsRefused (same_fault other fault all (at_told old.left all _ h.told h.audit.cause.0) e))
settings_decide all (CaptureRefused side f place) names old new fault h e = let v = at_told old.left all _ h.told h.audit.cause.0 in
    absurd (no_fault all v.0 fault v.1 e)
settings_decide all (ReadFault slot) names old new fault h e = absurd (h.none.calls slot h.audit.cause.1)
settings_decide all (WriteFault slot) names old new fault h e = absurd (h.none.calls slot h.audit.cause.1)
settings_decide all (OpenFault slot) names old new fault h e = absurd (h.none.starts slot h.audit.cause.1)
settings_decide all OutOfMemory names old new fault h e = inr refl
settings_decide all (Unlawful number reason) names old new fault h e = let v = at_told old.left all _ h.told h.audit.cause.0 in
    absurd (no_fault all v.0 fault v.1 e)

pub lawful_decides : (all : PerSlot (List ℕ)) (status : Status) (names : Names) (old new : Outside) (settings : GateSettings)
    → IsAuditOf all status names old new → IsAccepted settings all → (events_in all).ending ≡ BothEnded → AreLawful settings all
    → IsUnlessMemory Done status
lawful_decides all Done names old new settings h accepted ended lawful = inl refl
lawful_decides all Usage names old new settings h accepted ended lawful = absurd h.audit.cause
lawful_decides all (SettingsRefused fault) names old new settings h accepted ended lawful =
    absurd (no_fault all settings fault accepted (at_told old.left all _ h.told h.audit.cause.0))
lawful_decides all (CaptureRefused side fault place) names old new settings h accepted ended lawful = let v =
    at_told old.left all _ h.told h.audit.cause.0 in absurd (no_end (events_in all).ending side fault place ended v.2)
lawful_decides all (ReadFault slot) names old new settings h accepted ended lawful = absurd (h.none.calls slot h.audit.cause.1)
lawful_decides all (WriteFault slot) names old new settings h accepted ended lawful = absurd (h.none.calls slot h.audit.cause.1)
lawful_decides all (OpenFault slot) names old new settings h accepted ended lawful = absurd (h.none.starts slot h.audit.cause.1)
lawful_decides all OutOfMemory names old new settings h accepted ended lawful = inr refl
lawful_decides all (Unlawful number reason) names old new settings h accepted ended lawful = let v = at_told old.left all _ h.told h.audit.cause.0 in
    absurd (not_both all settings v.0 number reason accepted v.1 lawful v.3)

pub reason_decides : (all : PerSlot (List ℕ)) (status : Status) (names : Names) (old new : Outside) (settings : GateSettings) (number : ℕ)
    (reason : AuditReason) → IsAuditOf all status names old new → IsAccepted settings all → have_good_heads all.left_in all.right_in ≡ true
    → IsFirstReason settings all number reason → IsUnlessMemory (Unlawful number reason) status
reason_decides all Done names old new settings number reason h accepted good first = let v = at_told old.left all _ h.told h.audit.cause.0 in
    absurd (not_both all v.0 settings number reason v.1 accepted v.3 first)
reason_decides all Usage names old new settings number reason h accepted good first = absurd h.audit.cause
reason_decides all (SettingsRefused fault) names old new settings number reason h accepted good first =
    absurd (no_fault all settings fault accepted (at_told old.left all _ h.told h.audit.cause.0))
reason_decides all (CaptureRefused side fault place) names old new settings number reason h accepted good first = let v =
    at_told old.left all _ h.told h.audit.cause.0 in absurd (not_both all v.0 settings number reason v.1 accepted (v.3 good) first)
reason_decides all (ReadFault slot) names old new settings number reason h accepted good first = absurd (h.none.calls slot h.audit.cause.1)
reason_decides all (WriteFault slot) names old new settings number reason h accepted good first = absurd (h.none.calls slot h.audit.cause.1)
reason_decides all (OpenFault slot) names old new settings number reason h accepted good first = absurd (h.none.starts slot h.audit.cause.1)
reason_decides all OutOfMemory names old new settings number reason h accepted good first = inr refl
reason_decides all (Unlawful other because) names old new settings number reason h accepted good first = let v =
    at_told old.left all _ h.told h.audit.cause.0 in inl (same_reason all v.0 settings other number because reason v.1 accepted v.3 first)

pub fault_decides : (all : PerSlot (List ℕ)) (status : Status) (names : Names) (old new : Outside) (settings : GateSettings) (side : Side)
    (fault : CaptureFault) (place : ℕ) → IsAuditOf all status names old new → IsAccepted settings all
    → (events_in all).ending ≡ EndsFaulty side fault place
    → (have_good_heads all.left_in all.right_in ≡ true → AreLawful settings all) → IsUnlessMemory (CaptureRefused side fault place) status
fault_decides all Done names old new settings side fault place h accepted ended lawful = let v = at_told old.left all _ h.told h.audit.cause.0 in
    absurd (no_end (events_in all).ending side fault place v.2 ended)
fault_decides all Usage names old new settings side fault place h accepted ended lawful = absurd h.audit.cause
fault_decides all (SettingsRefused f) names old new settings side fault place h accepted ended lawful =
    absurd (no_fault all settings f accepted (at_told old.left all _ h.told h.audit.cause.0))
fault_decides all (CaptureRefused s f n) names old new settings side fault place h accepted ended lawful = let v =
    at_told old.left all _ h.told h.audit.cause.0 in inl (same_end (events_in all).ending s side f fault n place v.2 ended)
fault_decides all (ReadFault slot) names old new settings side fault place h accepted ended lawful = absurd (h.none.calls slot h.audit.cause.1)
fault_decides all (WriteFault slot) names old new settings side fault place h accepted ended lawful = absurd (h.none.calls slot h.audit.cause.1)
fault_decides all (OpenFault slot) names old new settings side fault place h accepted ended lawful = absurd (h.none.starts slot h.audit.cause.1)
fault_decides all OutOfMemory names old new settings side fault place h accepted ended lawful = inr refl
fault_decides all (Unlawful number reason) names old new settings side fault place h accepted ended lawful = let v =
    at_told old.left all _ h.told h.audit.cause.0 in absurd (not_both all settings v.0 number reason accepted v.1 (lawful v.2) v.3)
