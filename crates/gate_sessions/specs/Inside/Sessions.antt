-- What only proofs and private contracts need beside `Sessions`.
use Rattle.std.specs.Prelude.{◌≡◌, ◌≤◌, None, length}
use Rattle.gate_base.specs.declared.event.Pair.{Pair}
use Rattle.gate_base.specs.declared.host.Host.{Host}
use Rattle.gate_model.specs.Prelude.{entries_by}
use Rattle.dialogue.specs.declared.TheConstants.{MOST_ENTRIES}
use Rattle.gate_sessions.specs.Compact.{CompactSession, IsOfSome}
use Rattle.gate_sessions.specs.Inside.Directions.{dns_session}
use Rattle.gate_sessions.specs.declared.kinds.SessionKind.{SessionKind}
use Rattle.gate_sessions.specs.declared.kinds.SessionKind.TheVariants.{Lines, Units}

-- the session of hosts of this pair
abbrev pub session_of : Pair → SessionKind → CompactSession
session_of pair (Lines session) = record { pair = pair; lists = None; kept = session.kept }
session_of pair (Units session) = dns_session pair session

-- both dialogues of lines have this pair
abbrev pub IsOfPair : Pair → SessionKind → Type 0
IsOfPair pair (Lines session) = (session.client_dialogue.pair ≡ pair) × (session.server_dialogue.pair ≡ pair)
IsOfPair pair (Units session) = Unit {0}

-- what holds of each session by itself: it is kept of some session over whole lists, all of whose addresses are listed where it is one of DNS, and no list is longer than the most
pub record IsSession (k : CompactSession) : Type 0 where
  pub some : IsOfSome k
  pub few : (host : Host) → length (entries_by k.lists host) ≤ MOST_ENTRIES
