-- What becomes of a datagram, and what is told of it.
use Rattle.std.specs.Prelude.{ℕ, List, Option, Some, None}
use Rattle.verdicts.specs.declared.refusal.Refusal.{Refusal}
use Rattle.gate_base.specs.declared.side.Side.{Side}
use Rattle.ipv4_frames.specs.Ipv4.{Datagram}
use Rattle.gate_model.specs.Prelude.{Kind, SessionRules, World}
use Rattle.event_segments.specs.Prelude.{IsPassed}
use Rattle.event_state.specs.Engines.{Gives}
use Rattle.event_state.specs.declared.taken.Taken.{Taken}
use Rattle.event_state.specs.declared.taken.Taken.TheVariants.{Refused, Whole, Cut}

-- why a datagram is refused, if it is
abbrev pub refusal_of : {P : Type 0} → Taken P → Option Refusal
refusal_of (Refused refusal) = Some refusal
refusal_of Whole = None
refusal_of (Cut sent) = None

-- what is told of it, by the datagrams that were put
abbrev pub given_by : {S P A : Type 0} → Gives S P A → Taken P → List (List ℕ) → A
given_by gives (Refused refusal) datagrams = gives.tells.whole datagrams
given_by gives Whole datagrams = gives.tells.whole datagrams
given_by gives (Cut sent) datagrams = gives.cut sent datagrams

-- it is refused as it is told, or passes, and that is told of it
abbrev pub IsGiven : {S P A : Type 0} (rules : SessionRules S) (gives : Gives S P A) → Option Refusal → Kind → World S → Side → Datagram → Taken P
    → World S → List (List ℕ) → Type 0
IsGiven rules gives told kind live side d taken after sent =
    IsPassed rules gives.tells told kind live side d (refusal_of taken) after (given_by gives taken sent)
