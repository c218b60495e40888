-- Edges of single definitions, computed: whole frames, the verdict on each and the datagrams that go out.
use Rattle.std.proofs.Common.{◌≡◌, true, List, [], ◌∷◌, refl}
use Rattle.verdicts.specs.declared.refusal.Refusal.TheVariants.{NotUnicast, Protocol, BadTransport, TtlSpent, BadSnmp, Fragment, NoSession, InnerUnbound}
use Rattle.gate_base.specs.declared.side.Link.TheVariants.{Raw}
use Rattle.gate_base.specs.declared.side.Side.TheVariants.{Left, Right}
use Rattle.gate_settings.specs.declared.settings.Settings.{Settings}
use Rattle.gate_model.proofs.RowWords.{Row, hex, fixed, pool, set, frame, passes, refused, found, wanted}
use Rattle.gate_model.proofs.OnLiterals.{frames_on_literals}

-- a source that is not one host's
abbrev source_of_many : List Row
source_of_many =
    frame Left 1000000000 Raw true (hex 30 0x4500001e000140004011d222e0000001c0a8c8010fa11388000a0b9c6869) (refused NotUnicast)
    ∷ []

abbrev source_of_many_settings : Settings
source_of_many_settings = set ([]) (pool 0xc0a8c801 0xc0a8c8fe) (pool 0xac100901 0xac1009fe)
    (fixed Left 0x0a000005 0xac100901 ∷ fixed Right 0x0a000005 0xc0a8c801 ∷ fixed Right 0x0a000035 0xc0a8c835 ∷ [])

source_of_many_holds : found source_of_many_settings source_of_many ≡ wanted source_of_many 0
unfolding frames_on_literals
source_of_many_holds = refl

-- a redirect
abbrev redirect : List Row
redirect =
    frame Left 1000000000 Raw true (hex 28 0x4500001c000140004001a8310a000005c0a8c8010501f0f50a000009) (refused Protocol)
    ∷ []

abbrev redirect_settings : Settings
redirect_settings = set ([]) (pool 0xc0a8c801 0xc0a8c8fe) (pool 0xac100901 0xac1009fe)
    (fixed Left 0x0a000005 0xac100901 ∷ fixed Right 0x0a000005 0xc0a8c801 ∷ fixed Right 0x0a000035 0xc0a8c835 ∷ [])

redirect_holds : found redirect_settings redirect ≡ wanted redirect 0
unfolding frames_on_literals
redirect_holds = refl

-- an ICMP message of 7 octets
abbrev short_message : List Row
short_message =
    frame Left 1000000000 Raw true (hex 27 0x4500001b000140004001a8320a000005c0a8c8010800f7fe000100) (refused BadTransport)
    ∷ []

abbrev short_message_settings : Settings
short_message_settings = set ([]) (pool 0xc0a8c801 0xc0a8c8fe) (pool 0xac100901 0xac1009fe)
    (fixed Left 0x0a000005 0xac100901 ∷ fixed Right 0x0a000005 0xc0a8c801 ∷ fixed Right 0x0a000035 0xc0a8c835 ∷ [])

short_message_holds : found short_message_settings short_message ≡ wanted short_message 0
unfolding frames_on_literals
short_message_holds = refl

-- a lifetime of 0
abbrev dead_lifetime : List Row
dead_lifetime =
    frame Left 1000000000 Raw true (hex 30 0x4500001e000140000011e81f0a000005c0a8c8010fa11388000ae1986869) (refused TtlSpent)
    ∷ []

abbrev dead_lifetime_settings : Settings
dead_lifetime_settings = set ([]) (pool 0xc0a8c801 0xc0a8c8fe) (pool 0xac100901 0xac1009fe)
    (fixed Left 0x0a000005 0xac100901 ∷ fixed Right 0x0a000005 0xc0a8c801 ∷ fixed Right 0x0a000035 0xc0a8c835 ∷ [])

dead_lifetime_holds : found dead_lifetime_settings dead_lifetime ≡ wanted dead_lifetime 0
unfolding frames_on_literals
dead_lifetime_holds = refl

-- an echo reply passes
abbrev echo_reply : List Row
echo_reply =
    frame Left 1000000000 Raw true (hex 28 0x4500001c000140004001a8310a000005c0a8c8010000fffd00010001)
    (passes (hex 28 0x4500001c000140003f017ccaac1009010a0000050000fffd00010001 ∷ []))
    ∷ []

abbrev echo_reply_settings : Settings
echo_reply_settings = set ([]) (pool 0xc0a8c801 0xc0a8c8fe) (pool 0xac100901 0xac1009fe)
    (fixed Left 0x0a000005 0xac100901 ∷ fixed Right 0x0a000005 0xc0a8c801 ∷ fixed Right 0x0a000035 0xc0a8c835 ∷ [])

echo_reply_holds : found echo_reply_settings echo_reply ≡ wanted echo_reply 0
unfolding frames_on_literals
echo_reply_holds = refl

-- SNMP by the trap port alone
abbrev trap_port_alone : List Row
trap_port_alone =
    frame Left 1000000000 Raw true (hex 30 0x4500001e000140004011a81f0a000005c0a8c8019c4100a2000a67de6869) (refused BadSnmp)
    ∷ []

abbrev trap_port_alone_settings : Settings
trap_port_alone_settings = set ([]) (pool 0xc0a8c801 0xc0a8c8fe) (pool 0xac100901 0xac1009fe)
    (fixed Left 0x0a000005 0xac100901 ∷ fixed Right 0x0a000005 0xc0a8c801 ∷ fixed Right 0x0a000035 0xc0a8c835 ∷ [])

trap_port_alone_holds : found trap_port_alone_settings trap_port_alone ≡ wanted trap_port_alone 0
unfolding frames_on_literals
trap_port_alone_holds = refl

-- a fragment with options
abbrev fragment_with_options : List Row
fragment_with_options =
    frame Left 1000000000 Raw true (hex 34 0x46000022000120004011c51a0a000005c0a8c801010101000fa11388000ae1986869) (refused Fragment)
    ∷ []

abbrev fragment_with_options_settings : Settings
fragment_with_options_settings = set ([]) (pool 0xc0a8c801 0xc0a8c8fe) (pool 0xac100901 0xac1009fe)
    (fixed Left 0x0a000005 0xac100901 ∷ fixed Right 0x0a000005 0xc0a8c801 ∷ fixed Right 0x0a000035 0xc0a8c835 ∷ [])

fragment_with_options_holds : found fragment_with_options_settings fragment_with_options ≡ wanted fragment_with_options 0
unfolding frames_on_literals
fragment_with_options_holds = refl

-- the lifetime is looked at before the addresses
abbrev spent_before_address : List Row
spent_before_address =
    frame Left 1000000000 Raw true (hex 22 0x4500001600014000012f8fb20a000005e00000016869) (refused TtlSpent)
    ∷ []

abbrev spent_before_address_settings : Settings
spent_before_address_settings = set ([]) (pool 0xc0a8c801 0xc0a8c8fe) (pool 0xac100901 0xac1009fe)
    (fixed Left 0x0a000005 0xac100901 ∷ fixed Right 0x0a000005 0xc0a8c801 ∷ fixed Right 0x0a000035 0xc0a8c835 ∷ [])

spent_before_address_holds : found spent_before_address_settings spent_before_address ≡ wanted spent_before_address 0
unfolding frames_on_literals
spent_before_address_holds = refl

-- the addresses before the protocol
abbrev address_before_protocol : List Row
address_before_protocol =
    frame Left 1000000000 Raw true (hex 22 0x4500001600014000402f50b20a000005e00000016869) (refused NotUnicast)
    ∷ []

abbrev address_before_protocol_settings : Settings
address_before_protocol_settings = set ([]) (pool 0xc0a8c801 0xc0a8c8fe) (pool 0xac100901 0xac1009fe)
    (fixed Left 0x0a000005 0xac100901 ∷ fixed Right 0x0a000005 0xc0a8c801 ∷ fixed Right 0x0a000035 0xc0a8c835 ∷ [])

address_before_protocol_holds : found address_before_protocol_settings address_before_protocol ≡ wanted address_before_protocol 0
unfolding frames_on_literals
address_before_protocol_holds = refl

-- a SYN with ACK to the control port without a connection
abbrev late_second_syn : List Row
late_second_syn =
    frame Left 1000000000 Raw true (hex 40 0x45000028000140004006a8200a000005c0a8c8019c400015000003e800000001501220005ce50000) (refused NoSession)
    ∷ []

abbrev late_second_syn_settings : Settings
late_second_syn_settings = set ([]) (pool 0xc0a8c801 0xc0a8c8fe) (pool 0xac100901 0xac1009fe)
    (fixed Left 0x0a000005 0xac100901 ∷ fixed Right 0x0a000005 0xc0a8c801 ∷ fixed Right 0x0a000035 0xc0a8c835 ∷ [])

late_second_syn_holds : found late_second_syn_settings late_second_syn ≡ wanted late_second_syn 0
unfolding frames_on_literals
late_second_syn_holds = refl

-- an ICMP error about a host without a binding
abbrev inner_source_unbound : List Row
inner_source_unbound =
    frame Right 1000000000 Raw true
    (hex 56 0x450000380001400040017bae0a000005ac1009010303d9d3000000004500001e000140003f11277d0a00004d0a0000050fa1138800000000)
    (refused InnerUnbound)
    ∷ []

abbrev inner_source_unbound_settings : Settings
inner_source_unbound_settings = set ([]) (pool 0xc0a8c801 0xc0a8c8fe) (pool 0xac100901 0xac1009fe)
    (fixed Left 0x0a000005 0xac100901 ∷ fixed Right 0x0a000005 0xc0a8c801 ∷ fixed Right 0x0a000035 0xc0a8c835 ∷ [])

inner_source_unbound_holds : found inner_source_unbound_settings inner_source_unbound ≡ wanted inner_source_unbound 0
unfolding frames_on_literals
inner_source_unbound_holds = refl

-- an ICMP error about a UDP datagram between a session's ports: no number inside is mapped
abbrev udp_between_session_ports : List Row
udp_between_session_ports =
    frame Left 1000000000 Raw true (hex 44 0x4500002c000140004006a81c0a000005c0a8c8019c400015000003e80000000060022000453a0000020405b4)
    (passes (hex 44 0x4500002c000140003f067cb5ac1009010a0000059c400015000003e8000000006002200018d30000020405b4 ∷ []))
    ∷ frame Right 2000000000 Raw true (hex 44 0x4500002c0001400040067bb50a000005ac10090100159c4000001388000003e960122000053a0000020405b4)
    (passes (hex 44 0x4500002c000140003f06a91cc0a8c8010a00000500159c4000001388000003e96012200031a10000020405b4 ∷ []))
    ∷ frame Left 3000000000 Raw true (hex 40 0x45000028000140004006a8200a000005c0a8c8019c400015000003e90000138950102000495e0000)
    (passes (hex 40 0x45000028000140003f067cb9ac1009010a0000059c400015000003e900001389501020001cf70000 ∷ []))
    ∷ frame Right 4000000000 Raw true
    (hex 56 0x450000380001400040017bae0a000005ac10090103036097000000004500001e000140003f117cb8ac1009010a0000059c40001500100000)
    (passes (hex 56 0x45000038000140003f01a915c0a8c8010a00000503036097000000004500001e000140003f11a91f0a000005c0a8c8019c40001500100000 ∷ []))
    ∷ []

abbrev udp_between_session_ports_settings : Settings
udp_between_session_ports_settings = set ([]) (pool 0xc0a8c801 0xc0a8c8fe) (pool 0xac100901 0xac1009fe)
    (fixed Left 0x0a000005 0xac100901 ∷ fixed Right 0x0a000005 0xc0a8c801 ∷ fixed Right 0x0a000035 0xc0a8c835 ∷ [])

udp_between_session_ports_holds : found udp_between_session_ports_settings udp_between_session_ports ≡ wanted udp_between_session_ports 0
unfolding frames_on_literals
udp_between_session_ports_holds = refl
