-- The first reason for which given files aren't lawful, and the number of its event.
use Rattle.std.specs.Prelude.{◌≡◌, ◌⊎◌, ◌<◌, ◌≤◌, ◌+◌, ◌^◌, ℕ, List, [], ◌∷◌, ◌++◌, length}
use Rattle.frag_join.specs.Prelude.{Arrival}
use Rattle.gate_base.specs.Prelude.{other}
use Rattle.gate_settings.specs.declared.settings.Settings.{Settings}
use Rattle.pcap_merge.specs.Prelude.{Ending, Done, Fault}
use Rattle.lawful_files.specs.declared.reason.AuditReason.{AuditReason}
use Rattle.lawful_files.specs.declared.reason.AuditReason.TheVariants.{Capture, Line, Missing, Frame, Left}
use Rattle.lawful_files.specs.Wanted.{event_in}
use Rattle.lawful_files.specs.Files.{Given, given_at, given_of, State, opening, after, line_of, HasLink, IsLawfulAt, IsAtLast}

-- the report goes on with a frame's line for so many frames, and then with this
abbrev pub GoesOn : Settings → State → Arrival → Given → ℕ → List ℕ → Type 0
GoesOn settings s a g frames rest = (frames < 2 ^ 32) × (g.report ≡ line_of settings s a frames ++ rest)

-- it goes on with that line for no number
abbrev pub HasNoLine : Settings → State → Arrival → Given → Type 0
HasNoLine settings s a g = (frames : ℕ) (rest : List ℕ) → GoesOn settings s a g frames rest → ⊥

-- how many records stand next that could be the frame's
abbrev pub there_for : Arrival → Given → ℕ
there_for a g = length (given_at (other (event_in a).side) g).packets

-- the first reason is this one, at the event of this number
abbrev pub IsFirst : Settings → State → List Arrival → Ending → Given → ℕ → AuditReason → Type 0
IsFirst settings s [] Done g number reason = (number ≡ s.totals.events + 1) × (reason ≡ Left) × (IsAtLast settings s g → ⊥)
IsFirst settings s [] (Fault side fault place) g number reason = ⊥
IsFirst settings s (a ∷ arrivals) ending g number reason =
    -- the report doesn't go on with the frame's line;
    ((number ≡ s.totals.events + 1) × (reason ≡ Line) × HasNoLine settings s a g)
    -- else fewer records stand next than it tells;
    ⊎ ((number ≡ s.totals.events + 1) × (reason ≡ Missing) × (frames : ℕ) × (rest : List ℕ) × GoesOn settings s a g frames rest
    × (there_for a g < frames))
    -- else these records aren't those of a lawful list;
    ⊎ ((number ≡ s.totals.events + 1) × (reason ≡ Frame) × (frames : ℕ) × (rest : List ℕ) × GoesOn settings s a g frames rest
    × (frames ≤ there_for a g) × ((next : Given) → IsLawfulAt settings s a g next → ⊥))
    -- or the files are lawful here, and the first reason stands behind this frame
    ⊎ ((next : Given) × (at : IsLawfulAt settings s a g next) × IsFirst settings (after s a (length at.list)) arrivals ending next number reason)

-- the first reason against three files, for these frames behind which the incoming captures end so
abbrev pub FirstReason : Settings → List Arrival → Ending → List ℕ → List ℕ → List ℕ → ℕ → AuditReason → Type 0
FirstReason settings arrivals ending left right report number reason =
    ((number ≡ 0) × (reason ≡ Capture) × (HasLink settings.left.link left × HasLink settings.right.link right → ⊥))
    ⊎ (HasLink settings.left.link left × HasLink settings.right.link right
    × IsFirst settings (opening settings) arrivals ending (given_of left right report) number reason)
