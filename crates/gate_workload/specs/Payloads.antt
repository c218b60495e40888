-- What the datagrams of the workload carry, and where they go.
use Rattle.std.specs.Prelude.{ℕ, ◌+◌, ◌%◌, List, [], ◌∷◌, ◌++◌, codes, decimal}
use Rattle.byteorder.specs.Endian.{big_bytes}
use Rattle.gate_base.specs.declared.protocol.TheConstants.{CONTROL_PORT, DNS_PORT, SNMP_PORT, TRAP_PORT}
use Rattle.gate_workload.specs.declared.flow.Flow.{Flow}
use Rattle.gate_workload.specs.declared.payload.TheConstants.{HOST, LEFT_HOST_ALIAS, NAME_SERVER, RIGHT_HOST_ALIAS}

-- ## Where they go

-- from the left host to the right one, on the left
abbrev pub leftward : ℕ → ℕ → Flow
leftward source_port destination_port = record {
  source = HOST;
  source_port = source_port;
  destination = RIGHT_HOST_ALIAS;
  destination_port = destination_port;
}

-- the client's segments, on the left
abbrev pub client_flow : Flow
client_flow = leftward 40000 CONTROL_PORT

-- the server's segments, on the right
abbrev pub server_flow : Flow
server_flow = record {
  source = HOST;
  source_port = CONTROL_PORT;
  destination = LEFT_HOST_ALIAS;
  destination_port = 40000;
}

-- plain UDP of round k
abbrev pub plain_flow : ℕ → Flow
plain_flow k = leftward (4000 + k % 1000) 5000

-- traps
abbrev pub trap_flow : Flow
trap_flow = leftward SNMP_PORT TRAP_PORT

-- the answers of the name server, on the right
abbrev pub names_flow : Flow
names_flow = record {
  source = NAME_SERVER;
  source_port = DNS_PORT;
  destination = LEFT_HOST_ALIAS;
  destination_port = 4000;
}

-- ## What they carry

-- the TCP option of a maximum segment size of 1460 (RFC 9293, 3.2)
abbrev pub segment_size : List ℕ
segment_size = 2 ∷ 4 ∷ 0x05 ∷ 0xb4 ∷ []

-- the line by which the client names its port, 4 * 256 and this number (RFC 959, 4.1.2)
abbrev pub port_line : ℕ → List ℕ
port_line number = codes "PORT 10,0,0,5,4," ++ decimal number ++ codes "\r\n"

-- the same line as the server gets it
abbrev pub port_image : ℕ → List ℕ
port_image number = codes "PORT 172,16,9,1,4," ++ decimal number ++ codes "\r\n"

-- the server's answer
abbrev pub reply : List ℕ
reply = codes "200 ok\r\n"

-- the question for the address of ftp.example (RFC 1035, 4.1.2)
abbrev pub question : List ℕ
question = 3 ∷ 0x66 ∷ 0x74 ∷ 0x70 ∷ 7 ∷ 0x65 ∷ 0x78 ∷ 0x61 ∷ 0x6d ∷ 0x70 ∷ 0x6c ∷ 0x65 ∷ 0 ∷ 0 ∷ 1 ∷ 0 ∷ 1 ∷ []

-- an address of the question's name, for an hour (RFC 1035, 3.4.1)
abbrev pub address_record : ℕ → List ℕ
address_record address = (0xc0 ∷ 0x0c ∷ 0 ∷ 1 ∷ 0 ∷ 1 ∷ 0 ∷ 0 ∷ 0x0e ∷ 0x10 ∷ 0 ∷ 4 ∷ []) ++ big_bytes 4 address

-- the record of EDNS (RFC 6891, 6.1.2)
abbrev pub extension : List ℕ
extension = 0 ∷ 0 ∷ 0x29 ∷ 0x04 ∷ 0xd0 ∷ 0 ∷ 0 ∷ 0x80 ∷ 0 ∷ 0 ∷ 0 ∷ []

-- the answer with two addresses, of which the first is the host's
abbrev pub names : ℕ → List ℕ
names address =
    (0 ∷ 1 ∷ 0x81 ∷ 0x80 ∷ 0 ∷ 1 ∷ 0 ∷ 2 ∷ 0 ∷ 0 ∷ 0 ∷ 1 ∷ []) ++ question ++ address_record HOST.0 ++ address_record address ++ extension

-- an SNMP trap whose agent is the host (RFC 1157, 4.1.6)
abbrev pub trap : List ℕ
trap =
    0x30 ∷ 0x30 ∷ 0x02 ∷ 0x01 ∷ 0x00 ∷ 0x04 ∷ 0x06 ∷ 0x70 ∷ 0x75 ∷ 0x62 ∷ 0x6c ∷ 0x69 ∷ 0x63 ∷ 0xa4 ∷ 0x23 ∷ 0x06 ∷ 0x03 ∷ 0x2b ∷ 0x06 ∷ 0x01 ∷ 0x40
    ∷ 0x04 ∷ 0x0a ∷ 0x00 ∷ 0x00 ∷ 0x05 ∷ 0x02 ∷ 0x01 ∷ 0x06 ∷ 0x02 ∷ 0x01 ∷ 0x01 ∷ 0x43 ∷ 0x01 ∷ 0x00 ∷ 0x30 ∷ 0x0d ∷ 0x30 ∷ 0x0b ∷ 0x06 ∷ 0x03
    ∷ 0x2b ∷ 0x06 ∷ 0x01 ∷ 0x40 ∷ 0x04 ∷ 0x0a ∷ 0x00 ∷ 0x00 ∷ 0x09 ∷ []
