-- Sessions of two kinds as code keeps them.
use Rattle.std.specs.Prelude.{◌≡◌, Some, None, List}
use Rattle.gate_base.specs.declared.event.Pair.{Pair}
use Rattle.gate_base.specs.declared.host.Host.{Host}
use Rattle.gate_base.specs.declared.host.Host.TheVariants.{Client, Server}
use Rattle.dialogue.specs.Prelude.{Entry, AllUnitsListed}
use Rattle.dns_stream.specs.Prelude.{unit_addresses, dns_units}
use Rattle.stream_model.specs.Prelude.{Session, Segment, own, session_next}
use Rattle.audit_streams.specs.Hosts.{HeardStreams, session_of}
use Rattle.audit_streams.specs.Known.{entries_of}
use Rattle.dns_plans.specs.Prelude.{entered_all}
use Rattle.audit_sessions.specs.Heard.{HeardSession}
use Rattle.audit_sessions.specs.declared.kinds.SessionKind.{SessionKind}
use Rattle.audit_sessions.specs.declared.kinds.SessionKind.TheVariants.{Lines, Units}

-- a connection of DNS: its dialogues are the lists
abbrev pub DnsHeard : Type 0
DnsHeard = HeardStreams (List Entry) (List Entry)

-- the list of a host
abbrev pub listed_of : Host → DnsHeard → List Entry
listed_of host d = entries_of (λ entries. entries) (λ entries. entries) host d

-- the session over whole lists of both hosts
abbrev pub streams_of : DnsHeard → Session
streams_of d = session_of dns_units dns_units d

-- all addresses in the whole units of that host have an entry
abbrev pub IsListedSide : Host → DnsHeard → Type 0
IsListedSide host d = AllUnitsListed unit_addresses (dns_units (listed_of host d)) (listed_of host d) (own host (streams_of d)).octets

-- with these entered into the list of a host
abbrev pub with_entered : Host → List Entry → DnsHeard → DnsHeard
with_entered Client named d = record d { client_dialogue = entered_all d.client_dialogue named }
with_entered Server named d = record d { server_dialogue = entered_all d.server_dialogue named }

-- it has passed a segment, by the lists as they are
pub record HasPassed (from : Host) (old new : DnsHeard) (segment : Segment) : Type 0 where
  pub client : new.client_dialogue ≡ old.client_dialogue
  pub server : new.server_dialogue ≡ old.server_dialogue
  pub session : streams_of new ≡ session_next from (streams_of old) segment

-- what was heard of hosts of this pair
abbrev pub dns_session : Pair → DnsHeard → HeardSession
dns_session pair d =
    record { pair = pair; lists = Some (record { client = d.client_dialogue; server = d.server_dialogue }); client = d.client; server = d.server }

abbrev pub session_by : Pair → SessionKind → HeardSession
session_by pair (Lines d) = record { pair = pair; lists = None; client = d.client; server = d.server }
session_by pair (Units d) = dns_session pair d

-- both dialogues of lines have this pair
abbrev pub IsOfPair : Pair → SessionKind → Type 0
IsOfPair pair (Lines d) = (d.client_dialogue.pair ≡ pair) × (d.server_dialogue.pair ≡ pair)
IsOfPair pair (Units d) = Unit {0}
