-- What becomes of a datagram, or where memory runs out for it, and on which frames it may.
use Rattle.std.specs.Prelude.{◌≡◌, ◌⊎◌, ◌++◌, ℕ, Bool, true, List, [], Option, Some, None, Result, Ok, Err}
use Rattle.gate_base.specs.Prelude.{Event}
use Rattle.verdicts.specs.Prelude.{first_that_holds}
use Rattle.gate_base.specs.declared.event.OutOfMemory.{OutOfMemory}
use Rattle.verdicts.specs.declared.refusal.Refusal.{Refusal}
use Rattle.gate_base.specs.declared.side.Side.{Side}
use Rattle.gate_base.specs.declared.host.Host.{Host}
use Rattle.ipv4_frames.specs.Ipv4.{Datagram}
use Rattle.event_frame.specs.Judged.{front_tests}
use Rattle.stream_model.specs.Prelude.{Segment}
use Rattle.gate_model.specs.Prelude.{Whole, Kind, Dns, Stream, datagram_in, kind_of, SessionRules, begins, found_in, segment_of, session_in, session_refusal, address_tests, Tracked, World, host_on}
use Rattle.event_segments.specs.Prelude.{CompletesUnit, refusal_as}
use Rattle.event_state.specs.Engines.{Gives}
use Rattle.event_state.specs.Given.{IsGiven}
use Rattle.event_state.specs.declared.taken.Taken.{Taken}

-- the tests of a frame by itself, and those of its addresses
abbrev pub early_tests : {S : Type 0} → World S → Event → List (Bool × Refusal)
early_tests live e = front_tests e ++ address_tests live.table e.side (datagram_in e)

-- the segment is of a session that passes it and may want memory for it
pub record SessionMayWant {S : Type 0} (rules : SessionRules S) (Wants : Host → S → Segment → Type 0) (live : World S) (side : Side) (d : Datagram)
    : Type 0 where
  pub tracked : Tracked S
  pub found : session_in (found_in live side d) ≡ Some tracked
  pub refusal : session_refusal rules side d (Some tracked) ≡ None
  pub wants : Wants (host_on side tracked) tracked.session (segment_of d)

-- no test behind those of its addresses refuses it, and it begins a session or is one for which its session may want memory; or it completes a unit
-- of a session of DNS that doesn't refuse it
abbrev pub SegmentMayWant : {S : Type 0} (rules : SessionRules S) → (Host → S → Segment → Type 0) → World S → Side → Datagram → Type 0
SegmentMayWant rules Wants live side d =
    ((refusal_as rules Stream live side d ≡ None) × ((begins (found_in live side d) d ≡ true) ⊎ SessionMayWant rules Wants live side d))
    ⊎ CompletesUnit rules live side d

-- a datagram of DNS, or such a segment
abbrev pub KindMayWant : {S : Type 0} (rules : SessionRules S) → (Host → S → Segment → Type 0) → Kind → World S → Side → Datagram → Type 0
KindMayWant rules Wants kind live side d = (kind ≡ Whole Dns) ⊎ ((kind ≡ Stream) × SegmentMayWant rules Wants live side d)

-- on which frames memory may run out: one that is refused neither by itself nor for its addresses carries one of these
pub record EventMayWant {S : Type 0} (rules : SessionRules S) (Wants : Host → S → Segment → Type 0) (live : World S) (e : Event) : Type 0 where
  pub early : first_that_holds (early_tests live e) ≡ None
  pub needs : KindMayWant rules Wants (kind_of (datagram_in e)) live e.side (datagram_in e)

-- no early test refuses it, and it is a datagram of DNS or such a segment; nothing changes, where the engine says that
pub record IsLost {S P A : Type 0} (rules : SessionRules S) (gives : Gives S P A) (early : Option Refusal) (kind : Kind) (live : World S)
    (side : Side) (d : Datagram) (after : World S) (sent : List (List ℕ)) : Type 0 where
  pub same : gives.Keeps → after ≡ live
  pub nothing : gives.Keeps → sent ≡ []
  pub allowed : early ≡ None
  pub wants : KindMayWant rules gives.MayWant kind live side d

-- one of both
abbrev pub IsDoneBy : {S P A : Type 0} (rules : SessionRules S) (gives : Gives S P A) → Option Refusal → Option Refusal → Kind → World S → Side
    → Datagram → Result (Taken P) OutOfMemory → World S → List (List ℕ) → Type 0
IsDoneBy rules gives told early kind live side d (Ok taken) after sent = IsGiven rules gives told kind live side d taken after sent
IsDoneBy rules gives told early kind live side d (Err error) after sent = IsLost rules gives early kind live side d after sent

-- the same of a datagram by its own kind, and of one whose addresses are not refused
abbrev pub IsDone : {S P A : Type 0} (rules : SessionRules S) (gives : Gives S P A) → Option Refusal → Option Refusal → World S → Side → Datagram
    → Result (Taken P) OutOfMemory → World S → List (List ℕ) → Type 0
IsDone rules gives told early live side d result after sent = IsDoneBy rules gives told early (kind_of d) live side d result after sent

abbrev pub IsDoneAs : {S P A : Type 0} (rules : SessionRules S) (gives : Gives S P A) → Kind → World S → Side → Datagram
    → Result (Taken P) OutOfMemory → World S → List (List ℕ) → Type 0
IsDoneAs rules gives kind live side d result after sent =
    IsDoneBy rules gives (refusal_as rules kind live side d) None kind live side d result after sent

-- a segment whose addresses are not refused
abbrev pub IsSegmentDone : {S P A : Type 0} (rules : SessionRules S) (gives : Gives S P A) → World S → Side → Datagram → Result (Taken P) OutOfMemory
    → World S → List (List ℕ) → Type 0
IsSegmentDone rules gives live side d result after sent = IsDoneAs rules gives Stream live side d result after sent
