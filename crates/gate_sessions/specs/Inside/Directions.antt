-- What is kept of a connection of DNS, with both lists.
use Rattle.std.specs.Prelude.{Some, List}
use Rattle.gate_base.specs.declared.event.Pair.{Pair}
use Rattle.gate_base.specs.declared.host.Host.{Host}
use Rattle.gate_base.specs.declared.host.Host.TheVariants.{Client, Server}
use Rattle.dialogue.specs.Prelude.{Entry}
use Rattle.dns_stream.specs.Prelude.{dns_units}
use Rattle.stream_model.specs.Prelude.{Segment, Outgoing}
use Rattle.compact_stream.specs.Prelude.{kept_out, sender_kept, kept_next}
use Rattle.stream_gate.specs.Prelude.{GateKept, KeptCompletes}
use Rattle.gate_sessions.specs.Compact.{CompactSession, IsListedStream}
use Rattle.dns_plans.specs.Prelude.{entered_all}

-- the dialogues are the lists
abbrev pub DnsKept : Type 0
DnsKept = GateKept (List Entry) (List Entry)

-- the list of a host
abbrev pub listed_of : Host → DnsKept → List Entry
listed_of Client d = d.client_dialogue
listed_of Server d = d.server_dialogue

-- what is kept of that host is kept of a stream all of whose addresses are listed
abbrev pub IsListedSide : Host → DnsKept → Type 0
IsListedSide host d = IsListedStream (listed_of host d) (sender_kept host d.kept)

-- with these entered into the list of a host
abbrev pub with_entered : Host → List Entry → DnsKept → DnsKept
with_entered Client named d = record d { client_dialogue = entered_all d.client_dialogue named }
with_entered Server named d = record d { server_dialogue = entered_all d.server_dialogue named }

-- a segment passes by the lists as they are
abbrev pub dns_next : Host → DnsKept → Segment → DnsKept
dns_next from d g = record d { kept = kept_next (dns_units d.client_dialogue) (dns_units d.server_dialogue) from d.kept g }

abbrev pub dns_out : Host → DnsKept → Segment → List Outgoing
dns_out from d g = kept_out (dns_units d.client_dialogue) (dns_units d.server_dialogue) from d.kept g

abbrev pub DnsCompletes : Host → DnsKept → Segment → Type 0
DnsCompletes from d g = KeptCompletes (dns_units d.client_dialogue) (dns_units d.server_dialogue) from d.kept g

-- the session of hosts of this pair
abbrev pub dns_session : Pair → DnsKept → CompactSession
dns_session pair d = record { pair = pair; lists = Some (record { client = d.client_dialogue; server = d.server_dialogue }); kept = d.kept }
