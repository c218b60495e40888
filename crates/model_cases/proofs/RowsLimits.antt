-- The numbers that clauses cite, in digits once more. Code and definitions cite the same constant, so that nothing else refuses another value.
use Rattle.std.proofs.Common.{◌≡◌, [], ◌∷◌, refl}
use Rattle.gate_base.specs.declared.protocol.TheConstants.{CONTROL_PORT, DNS_PORT, ICMP, LONGEST_DATAGRAM, SNMP_PORT, TCP, TRAP_PORT, UDP}
use Rattle.gate_base.specs.declared.rule.TheConstants.{GREATEST_ARC, MOST_ARCS}
use Rattle.gate_base.specs.declared.address.TheConstants.{LARGEST_POOL}
use Rattle.gate_base.specs.declared.event.TheConstants.{LONGEST_TIMEOUT, SECOND}
use Rattle.ether_frames.specs.declared.head.TheConstants.{IPV4}
use Rattle.tcp_segments.specs.declared.options.TheConstants.{DEFAULT_SEGMENT_SIZE, END_OF_OPTIONS, NO_OPERATION, SACK, SACK_PERMITTED, SEGMENT_SIZE}
use Rattle.tcp_segments.specs.declared.TheConstants.{MOST_PAYLOAD}
use Rattle.frag_join.specs.declared.part.TheConstants.{JOIN_TIMEOUT}
use Rattle.frag_join.specs.declared.joiner.TheConstants.{MOST_JOINED}
use Rattle.pcap_files.specs.declared.record.TheConstants.{LONGEST_CAPTURE, LONGEST_RECORD}
use Rattle.dialogue.specs.declared.TheConstants.{MOST_ENTRIES, MOST_RECENT}
use Rattle.ftp_lines.specs.declared.grammar.TheConstants.{LONGEST_LINE, MOST_HELD}
use Rattle.dns_names.specs.declared.TheConstants.{LONGEST_MESSAGE, POINTED}
use Rattle.dns_gateway.specs.declared.replies.TheConstants.{LONGEST_PLAIN, TRUNCATED}
use Rattle.dns_stream.specs.declared.messages.TheConstants.{LONGEST_STREAMED}
use Rattle.snmp_gateway.specs.declared.part.TheConstants.{COUNTER, COUNTER_64, END_OF_MIB_VIEW, GAUGE, INTEGER, IP_ADDRESS, NO_SUCH_INSTANCE}
use Rattle.snmp_gateway.specs.declared.part.TheConstants.{NO_SUCH_OBJECT, NULL, OBJECT_IDENTIFIER, OCTET_STRING, OPAQUE, SEQUENCE, TIME_TICKS}
use Rattle.snmp_gateway.specs.declared.outline.TheConstants.{GET_BULK_REQUEST, GET_REQUEST, REPORT, SET_REQUEST, TRAP}
use Rattle.settings_file.specs.declared.document.TheConstants.{LONGEST_SETTINGS}
use Rattle.tcp_tracker.specs.declared.tracker.TheConstants.{MOST_CONNECTIONS}
use Rattle.tcp_tracker.specs.declared.table.TheConstants.{MOST_SESSIONS}
use Rattle.tcp_tracker.specs.declared.connection.TheConstants.{SHORT_TIMEOUT}
use Rattle.stream_model.specs.declared.TheConstants.{LEAST_PIECE}
use Rattle.stream_model.specs.declared.refusals.TheConstants.{STREAM_LIMIT}
use Rattle.gate_model.specs.declared.timeouts.TheConstants.{ICMP_TIMEOUT, NAMED_TIMEOUT, UDP_TIMEOUT}
use Rattle.gate_model.specs.declared.TheConstants.{MOST_CARRIED}

-- the protocols, and the type of frames (RFC 791, 3.1; RFC 894)
protocols : (ICMP ∷ TCP ∷ UDP ∷ IPV4 ∷ []) ≡ 1 ∷ 6 ∷ 17 ∷ 0x800 ∷ []
protocols = refl

-- the ports
ports : (CONTROL_PORT ∷ DNS_PORT ∷ SNMP_PORT ∷ TRAP_PORT ∷ []) ≡ 21 ∷ 53 ∷ 161 ∷ 162 ∷ []
ports = refl

-- octets of a datagram and of what it carries, and of a segment
lengths : (LONGEST_DATAGRAM ∷ MOST_PAYLOAD ∷ MOST_CARRIED ∷ DEFAULT_SEGMENT_SIZE ∷ LEAST_PIECE ∷ []) ≡ 65535 ∷ 65495 ∷ 65507 ∷ 536 ∷ 88 ∷ []
lengths = refl

-- the kinds of options (RFC 9293, 3.1; RFC 2018)
options : (END_OF_OPTIONS ∷ NO_OPERATION ∷ SEGMENT_SIZE ∷ SACK_PERMITTED ∷ SACK ∷ []) ≡ 0 ∷ 1 ∷ 2 ∷ 4 ∷ 5 ∷ []
options = refl

-- nanoseconds
times : (SECOND ∷ UDP_TIMEOUT ∷ ICMP_TIMEOUT ∷ NAMED_TIMEOUT ∷ SHORT_TIMEOUT ∷ LONGEST_TIMEOUT ∷ JOIN_TIMEOUT ∷ [])
    ≡ 1000000000 ∷ 300000000000 ∷ 60000000000 ∷ 60000000000 ∷ 240000000000 ∷ 7440000000000 ∷ 30000000000 ∷ []
times = refl

-- how many there are at most
tables : (LARGEST_POOL ∷ MOST_CONNECTIONS ∷ MOST_SESSIONS ∷ MOST_JOINED ∷ MOST_ENTRIES ∷ []) ≡ 65536 ∷ 65536 ∷ 4096 ∷ 64 ∷ 256 ∷ []
tables = refl

-- octets of a session
sessions : (STREAM_LIMIT ∷ MOST_RECENT ∷ LONGEST_LINE ∷ MOST_HELD ∷ LONGEST_STREAMED ∷ []) ≡ 1073741824 ∷ 65536 ∷ 512 ∷ 511 ∷ 8192 ∷ []
sessions = refl

-- DNS messages (RFC 1035, 4.1.1, 4.1.4, 4.2)
dns : (LONGEST_MESSAGE ∷ POINTED ∷ LONGEST_PLAIN ∷ TRUNCATED ∷ []) ≡ 65535 ∷ 16384 ∷ 512 ∷ 0x200 ∷ []
dns = refl

-- octets of files
files : (LONGEST_CAPTURE ∷ LONGEST_RECORD ∷ LONGEST_SETTINGS ∷ []) ≡ 1099511627776 ∷ 262144 ∷ 1048576 ∷ []
files = refl

-- object identifiers
arcs : (MOST_ARCS ∷ GREATEST_ARC ∷ []) ≡ 64 ∷ 4294967295 ∷ []
arcs = refl

-- the tags of BER (X.690, 8)
types : (INTEGER ∷ OCTET_STRING ∷ NULL ∷ OBJECT_IDENTIFIER ∷ SEQUENCE ∷ []) ≡ 2 ∷ 4 ∷ 5 ∷ 6 ∷ 0x30 ∷ []
types = refl

-- the tags of values of SNMP (RFC 1155, 6; RFC 2578, 7.1.10)
values : (IP_ADDRESS ∷ COUNTER ∷ GAUGE ∷ TIME_TICKS ∷ OPAQUE ∷ COUNTER_64 ∷ []) ≡ 0x40 ∷ 0x41 ∷ 0x42 ∷ 0x43 ∷ 0x44 ∷ 0x46 ∷ []
values = refl

-- what stands in the place of a value (RFC 3416, 3)
absent : (NO_SUCH_OBJECT ∷ NO_SUCH_INSTANCE ∷ END_OF_MIB_VIEW ∷ []) ≡ 0x80 ∷ 0x81 ∷ 0x82 ∷ []
absent = refl

-- the tags of PDUs (RFC 1157, 4.1; RFC 3416, 3)
pdus : (GET_REQUEST ∷ SET_REQUEST ∷ TRAP ∷ GET_BULK_REQUEST ∷ REPORT ∷ []) ≡ 0xa0 ∷ 0xa3 ∷ 0xa4 ∷ 0xa5 ∷ 0xa8 ∷ []
pdus = refl
