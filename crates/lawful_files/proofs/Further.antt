-- What is found behind lawful events is found of all of them.
use Rattle.std.proofs.Common.{◌≡◌, ℕ, List, [], ◌∷◌, ◌++◌, length, refl, sym, subst, inr}
use Rattle.frag_join.specs.Prelude.{Arrival}
use Rattle.gate_settings.specs.declared.settings.Settings.{Settings}
use Rattle.pcap_merge.specs.Prelude.{Ending}
use Rattle.lawful_files.specs.declared.reason.AuditReason.{AuditReason}
use Rattle.lawful_files.specs.Files.{Given, State, after, IsLawfulAt, LawfulFrom}
use Rattle.lawful_files.specs.Reasons.{IsFirst}
use Rattle.lawful_files.specs.Walks.{CameTo}

pub came_more : (settings : Settings) (fs : List Arrival) (f : Arrival) (k now : State) (g left next : Given) → CameTo settings k g fs now left
    → (at : IsLawfulAt settings now f left next) → CameTo settings k g (fs ++ f ∷ []) (after now f (length at.list)) next
came_more settings [] f k now g left next h at = begin_at k g (sym h.0) (sym h.1)
  where
    begin_at : (j : State) (i : Given) → j ≡ now → i ≡ left → CameTo settings j i (f ∷ []) (after now f (length at.list)) next
    begin_at j i e d =
        subst (λ (x : State). CameTo settings x i (f ∷ []) (after now f (length at.list)) next) (sym e)
        (subst (λ (x : Given). CameTo settings now x (f ∷ []) (after now f (length at.list)) next) (sym d) (next, at, (refl, refl)))
came_more settings (x ∷ fs) f k now g left next h at = (h.0, h.1, came_more settings fs f (after k x (length h.1.list)) now h.0 left next h.2 at)

pub lawful_behind : (settings : Settings) (fs rest : List Arrival) (ending : Ending) (k now : State) (g left : Given)
    → CameTo settings k g fs now left → LawfulFrom settings now rest ending left → LawfulFrom settings k (fs ++ rest) ending g
lawful_behind settings [] rest ending k now g left h lawful =
    subst (λ (x : State). LawfulFrom settings x rest ending g) h.0 (subst (λ (x : Given). LawfulFrom settings now rest ending x) h.1 lawful)
lawful_behind settings (f ∷ fs) rest ending k now g left h lawful =
    (h.0, h.1, lawful_behind settings fs rest ending (after k f (length h.1.list)) now h.0 left h.2 lawful)

pub first_behind : (settings : Settings) (fs rest : List Arrival) (ending : Ending) (k now : State) (g left : Given) (number : ℕ)
    (reason : AuditReason) → CameTo settings k g fs now left → IsFirst settings now rest ending left number reason
    → IsFirst settings k (fs ++ rest) ending g number reason
first_behind settings [] rest ending k now g left number reason h first =
    subst (λ (x : State). IsFirst settings x rest ending g number reason) h.0
    (subst (λ (x : Given). IsFirst settings now rest ending x number reason) h.1 first)
first_behind settings (f ∷ fs) rest ending k now g left number reason h first =
    inr (inr (inr (h.0, h.1, first_behind settings fs rest ending (after k f (length h.1.list)) now h.0 left number reason h.2 first)))
