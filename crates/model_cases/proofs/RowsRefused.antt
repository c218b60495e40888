-- Worked cases, computed: whole frames, the verdict on each and the datagrams that go out. Written by tools/model_cases.py.
use Rattle.std.proofs.Common.{◌++◌, ◌≡◌, true, false, List, [], ◌∷◌, refl}
use Rattle.verdicts.specs.declared.refusal.Refusal.TheVariants.{AckAhead, BadHeader, BadHeaderSum, BadInner, BadSum, BadTransport, Fragment, Gap, InnerUnbound, IpOptions, NoAck, NoBinding, NoSession, NotIpv4, NotUnicast, PastEnd, Protocol, Snapped, SourceInPool, SynData, SynInSession, TtlSpent}
use Rattle.gate_base.specs.declared.side.Link.TheVariants.{Raw}
use Rattle.gate_base.specs.declared.side.Side.TheVariants.{Left, Right}
use Rattle.gate_settings.specs.declared.settings.Settings.{Settings}
use Rattle.gate_model.proofs.RowWords.{Row, hex, fixed, pool, set, frame, passes, refused, found, wanted}
use Rattle.gate_model.proofs.OnLiterals.{frames_on_literals}

-- an acknowledgement of what wasn't sent
abbrev refused_ack_ahead : List Row
refused_ack_ahead =
    frame Left 1000000000 Raw true (hex 44 0x4500002c000240004006a81b0a000005c0a8c8019c400015000003e80000000060022000453a0000020405b4)
    (passes (hex 44 0x4500002c000240003f067cb4ac1009010a0000059c400015000003e8000000006002200018d30000020405b4 ∷ []))
    ∷ frame Right 2000000000 Raw true (hex 44 0x4500002c0002400040067bb40a000005ac10090100159c4000001388000003e960122000053a0000020405b4)
    (passes (hex 44 0x4500002c000240003f06a91bc0a8c8010a00000500159c4000001388000003e96012200031a10000020405b4 ∷ []))
    ∷ frame Left 3000000000 Raw true (hex 40 0x45000028000240004006a81f0a000005c0a8c8019c400015000003e90000138950102000495e0000)
    (passes (hex 40 0x45000028000240003f067cb8ac1009010a0000059c400015000003e900001389501020001cf70000 ∷ []))
    ∷ frame Left 4000000000 Raw true
    (hex 56 0x4500003b000240004006a80c0a000005c0a8c8019c400015000003e9000013895018200051840000504f52542031302c302c302c352c342c
    ++ hex 3 0x310d0a)
    (passes ((hex 56 0x4500003d000240003f067ca3ac1009010a0000059c400015000003e90000138950182000e6e30000504f5254203137322c31362c392c312c
    ++ hex 5 0x342c310d0a) ∷ []))
    ∷ frame Right 5000000000 Raw true (hex 40 0x450000280002400040067bb80a000005ac10090100159c4000001389000003ff501020001ce10000) (refused AckAhead)
    ∷ frame Right 6000000000 Raw true (hex 40 0x450000280002400040067bb80a000005ac10090100159c4000001389000003fe501020001ce20000)
    (passes (hex 40 0x45000028000240003f06a91fc0a8c8010a00000500159c4000001389000003fc50102000494b0000 ∷ []))
    ∷ []

abbrev refused_ack_ahead_settings : Settings
refused_ack_ahead_settings = set ([]) (pool 0xc0a8c801 0xc0a8c8fe) (pool 0xac100901 0xac1009fe)
    (fixed Left 0x0a000005 0xac100901 ∷ fixed Right 0x0a000005 0xc0a8c801 ∷ fixed Right 0x0a000035 0xc0a8c835 ∷ [])

refused_ack_ahead_holds : found refused_ack_ahead_settings refused_ack_ahead ≡ wanted refused_ack_ahead 1
unfolding frames_on_literals
refused_ack_ahead_holds = refl

-- a total length above the octets
abbrev refused_bad_header : List Row
refused_bad_header =
    frame Left 1000000000 Raw true (hex 30 0x4500001f000140004011a81f0a000005c0a8c8010fa01388000ae1996869) (refused BadHeader)
    ∷ frame Left 2000000000 Raw true (hex 30 0x4500001e000140004011a81f0a000005c0a8c8010fa01388000ae1996869)
    (passes (hex 30 0x4500001e000140003f117cb8ac1009010a0000050fa01388000ab5326869 ∷ []))
    ∷ []

abbrev refused_bad_header_settings : Settings
refused_bad_header_settings = set ([]) (pool 0xc0a8c801 0xc0a8c8fe) (pool 0xac100901 0xac1009fe)
    (fixed Left 0x0a000005 0xac100901 ∷ fixed Right 0x0a000005 0xc0a8c801 ∷ fixed Right 0x0a000035 0xc0a8c835 ∷ [])

refused_bad_header_holds : found refused_bad_header_settings refused_bad_header ≡ wanted refused_bad_header 0
unfolding frames_on_literals
refused_bad_header_holds = refl

-- a wrong header checksum
abbrev refused_bad_header_sum : List Row
refused_bad_header_sum =
    frame Left 1000000000 Raw true (hex 30 0x4500001e000140004011a8200a000005c0a8c8010fa01388000ae1996869) (refused BadHeaderSum)
    ∷ frame Left 2000000000 Raw true (hex 30 0x4500001e000140004011a81f0a000005c0a8c8010fa01388000ae1996869)
    (passes (hex 30 0x4500001e000140003f117cb8ac1009010a0000050fa01388000ab5326869 ∷ []))
    ∷ []

abbrev refused_bad_header_sum_settings : Settings
refused_bad_header_sum_settings = set ([]) (pool 0xc0a8c801 0xc0a8c8fe) (pool 0xac100901 0xac1009fe)
    (fixed Left 0x0a000005 0xac100901 ∷ fixed Right 0x0a000005 0xc0a8c801 ∷ fixed Right 0x0a000035 0xc0a8c835 ∷ [])

refused_bad_header_sum_holds : found refused_bad_header_sum_settings refused_bad_header_sum ≡ wanted refused_bad_header_sum 0
unfolding frames_on_literals
refused_bad_header_sum_holds = refl

-- an ICMP error with 27 inner octets
abbrev refused_bad_inner : List Row
refused_bad_inner =
    frame Left 1000000000 Raw true
    (hex 55 0x45000037000140004001a8160a000005c0a8c8010300f8f2000000004500001e000140004011a81fc0a8c8010a00000500010002000a04)
    (refused BadInner)
    ∷ frame Left 2000000000 Raw true (hex 30 0x4500001e000140004011a81f0a000005c0a8c8010fa01388000ae1996869)
    (passes (hex 30 0x4500001e000140003f117cb8ac1009010a0000050fa01388000ab5326869 ∷ []))
    ∷ []

abbrev refused_bad_inner_settings : Settings
refused_bad_inner_settings = set ([]) (pool 0xc0a8c801 0xc0a8c8fe) (pool 0xac100901 0xac1009fe)
    (fixed Left 0x0a000005 0xac100901 ∷ fixed Right 0x0a000005 0xc0a8c801 ∷ fixed Right 0x0a000035 0xc0a8c835 ∷ [])

refused_bad_inner_holds : found refused_bad_inner_settings refused_bad_inner ≡ wanted refused_bad_inner 0
unfolding frames_on_literals
refused_bad_inner_holds = refl

-- a wrong UDP checksum
abbrev refused_bad_sum : List Row
refused_bad_sum =
    frame Left 1000000000 Raw true (hex 30 0x4500001e000140004011a81f0a000005c0a8c8010fa01388000ae19a6869) (refused BadSum)
    ∷ frame Left 2000000000 Raw true (hex 30 0x4500001e000140004011a81f0a000005c0a8c8010fa01388000ae1996869)
    (passes (hex 30 0x4500001e000140003f117cb8ac1009010a0000050fa01388000ab5326869 ∷ []))
    ∷ []

abbrev refused_bad_sum_settings : Settings
refused_bad_sum_settings = set ([]) (pool 0xc0a8c801 0xc0a8c8fe) (pool 0xac100901 0xac1009fe)
    (fixed Left 0x0a000005 0xac100901 ∷ fixed Right 0x0a000005 0xc0a8c801 ∷ fixed Right 0x0a000035 0xc0a8c835 ∷ [])

refused_bad_sum_holds : found refused_bad_sum_settings refused_bad_sum ≡ wanted refused_bad_sum 0
unfolding frames_on_literals
refused_bad_sum_holds = refl

-- a UDP length that isn't the payload's
abbrev refused_bad_transport : List Row
refused_bad_transport =
    frame Left 1000000000 Raw true (hex 30 0x4500001e000140004011a81f0a000005c0a8c8010fa013880009e19a6869) (refused BadTransport)
    ∷ frame Left 2000000000 Raw true (hex 30 0x4500001e000140004011a81f0a000005c0a8c8010fa01388000ae1996869)
    (passes (hex 30 0x4500001e000140003f117cb8ac1009010a0000050fa01388000ab5326869 ∷ []))
    ∷ []

abbrev refused_bad_transport_settings : Settings
refused_bad_transport_settings = set ([]) (pool 0xc0a8c801 0xc0a8c8fe) (pool 0xac100901 0xac1009fe)
    (fixed Left 0x0a000005 0xac100901 ∷ fixed Right 0x0a000005 0xc0a8c801 ∷ fixed Right 0x0a000035 0xc0a8c835 ∷ [])

refused_bad_transport_holds : found refused_bad_transport_settings refused_bad_transport ≡ wanted refused_bad_transport 0
unfolding frames_on_literals
refused_bad_transport_holds = refl

-- MF is set
abbrev refused_fragment : List Row
refused_fragment =
    frame Left 1000000000 Raw true (hex 30 0x4500001e000120004011c81f0a000005c0a8c8010fa01388000ae1996869) (refused Fragment)
    ∷ frame Left 2000000000 Raw true (hex 30 0x4500001e000140004011a81f0a000005c0a8c8010fa01388000ae1996869)
    (passes (hex 30 0x4500001e000140003f117cb8ac1009010a0000050fa01388000ab5326869 ∷ []))
    ∷ []

abbrev refused_fragment_settings : Settings
refused_fragment_settings = set ([]) (pool 0xc0a8c801 0xc0a8c8fe) (pool 0xac100901 0xac1009fe)
    (fixed Left 0x0a000005 0xac100901 ∷ fixed Right 0x0a000005 0xc0a8c801 ∷ fixed Right 0x0a000035 0xc0a8c835 ∷ [])

refused_fragment_holds : found refused_fragment_settings refused_fragment ≡ wanted refused_fragment 0
unfolding frames_on_literals
refused_fragment_holds = refl

-- a segment past the octets taken
abbrev refused_gap : List Row
refused_gap =
    frame Left 1000000000 Raw true (hex 44 0x4500002c000240004006a81b0a000005c0a8c8019c400015000003e80000000060022000453a0000020405b4)
    (passes (hex 44 0x4500002c000240003f067cb4ac1009010a0000059c400015000003e8000000006002200018d30000020405b4 ∷ []))
    ∷ frame Right 2000000000 Raw true (hex 44 0x4500002c0002400040067bb40a000005ac10090100159c4000001388000003e960122000053a0000020405b4)
    (passes (hex 44 0x4500002c000240003f06a91bc0a8c8010a00000500159c4000001388000003e96012200031a10000020405b4 ∷ []))
    ∷ frame Left 3000000000 Raw true (hex 40 0x45000028000240004006a81f0a000005c0a8c8019c400015000003e90000138950102000495e0000)
    (passes (hex 40 0x45000028000240003f067cb8ac1009010a0000059c400015000003e900001389501020001cf70000 ∷ []))
    ∷ frame Left 4000000000 Raw true
    (hex 56 0x4500003b000240004006a80c0a000005c0a8c8019c400015000003ea000013895018200051830000504f52542031302c302c302c352c342c
    ++ hex 3 0x310d0a) (refused Gap)
    ∷ frame Left 5000000000 Raw true
    (hex 56 0x4500003b000240004006a80c0a000005c0a8c8019c400015000003e9000013895018200051840000504f52542031302c302c302c352c342c
    ++ hex 3 0x310d0a)
    (passes ((hex 56 0x4500003d000240003f067ca3ac1009010a0000059c400015000003e90000138950182000e6e30000504f5254203137322c31362c392c312c
    ++ hex 5 0x342c310d0a) ∷ []))
    ∷ []

abbrev refused_gap_settings : Settings
refused_gap_settings = set ([]) (pool 0xc0a8c801 0xc0a8c8fe) (pool 0xac100901 0xac1009fe)
    (fixed Left 0x0a000005 0xac100901 ∷ fixed Right 0x0a000005 0xc0a8c801 ∷ fixed Right 0x0a000035 0xc0a8c835 ∷ [])

refused_gap_holds : found refused_gap_settings refused_gap ≡ wanted refused_gap 1
unfolding frames_on_literals
refused_gap_holds = refl

-- an ICMP error about an address without a binding
abbrev refused_inner_unbound : List Row
refused_inner_unbound =
    frame Right 1000000000 Raw true
    (hex 56 0x4500003a0001400040017bac0a000005ac1009010300bc79000000004500001e0001400040117b70ac1009010a00004d00010002000ad80f
    ++ hex 2 0x6869) (refused InnerUnbound)
    ∷ frame Left 2000000000 Raw true (hex 30 0x4500001e000140004011a81f0a000005c0a8c8010fa01388000ae1996869)
    (passes (hex 30 0x4500001e000140003f117cb8ac1009010a0000050fa01388000ab5326869 ∷ []))
    ∷ []

abbrev refused_inner_unbound_settings : Settings
refused_inner_unbound_settings = set ([]) (pool 0xc0a8c801 0xc0a8c8fe) (pool 0xac100901 0xac1009fe)
    (fixed Left 0x0a000005 0xac100901 ∷ fixed Right 0x0a000005 0xc0a8c801 ∷ fixed Right 0x0a000035 0xc0a8c835 ∷ [])

refused_inner_unbound_holds : found refused_inner_unbound_settings refused_inner_unbound ≡ wanted refused_inner_unbound 0
unfolding frames_on_literals
refused_inner_unbound_holds = refl

-- a header with options
abbrev refused_ip_options : List Row
refused_ip_options =
    frame Left 1000000000 Raw true (hex 34 0x46000022000140004011a51a0a000005c0a8c801010101000fa01388000ae1996869) (refused IpOptions)
    ∷ frame Left 2000000000 Raw true (hex 30 0x4500001e000140004011a81f0a000005c0a8c8010fa01388000ae1996869)
    (passes (hex 30 0x4500001e000140003f117cb8ac1009010a0000050fa01388000ab5326869 ∷ []))
    ∷ []

abbrev refused_ip_options_settings : Settings
refused_ip_options_settings = set ([]) (pool 0xc0a8c801 0xc0a8c8fe) (pool 0xac100901 0xac1009fe)
    (fixed Left 0x0a000005 0xac100901 ∷ fixed Right 0x0a000005 0xc0a8c801 ∷ fixed Right 0x0a000035 0xc0a8c835 ∷ [])

refused_ip_options_holds : found refused_ip_options_settings refused_ip_options ≡ wanted refused_ip_options 0
unfolding frames_on_literals
refused_ip_options_holds = refl

-- a segment without SYN, RST and ACK
abbrev refused_no_ack : List Row
refused_no_ack =
    frame Left 1000000000 Raw true (hex 44 0x4500002c000240004006a81b0a000005c0a8c8019c400015000003e80000000060022000453a0000020405b4)
    (passes (hex 44 0x4500002c000240003f067cb4ac1009010a0000059c400015000003e8000000006002200018d30000020405b4 ∷ []))
    ∷ frame Right 2000000000 Raw true (hex 44 0x4500002c0002400040067bb40a000005ac10090100159c4000001388000003e960122000053a0000020405b4)
    (passes (hex 44 0x4500002c000240003f06a91bc0a8c8010a00000500159c4000001388000003e96012200031a10000020405b4 ∷ []))
    ∷ frame Left 3000000000 Raw true (hex 40 0x45000028000240004006a81f0a000005c0a8c8019c400015000003e90000138950102000495e0000)
    (passes (hex 40 0x45000028000240003f067cb8ac1009010a0000059c400015000003e900001389501020001cf70000 ∷ []))
    ∷ frame Left 4000000000 Raw true
    (hex 56 0x4500003b000240004006a80c0a000005c0a8c8019c400015000003e90000000050082000651d0000504f52542031302c302c302c352c342c
    ++ hex 3 0x310d0a) (refused NoAck)
    ∷ frame Left 5000000000 Raw true
    (hex 56 0x4500003b000240004006a80c0a000005c0a8c8019c400015000003e9000013895018200051840000504f52542031302c302c302c352c342c
    ++ hex 3 0x310d0a)
    (passes ((hex 56 0x4500003d000240003f067ca3ac1009010a0000059c400015000003e90000138950182000e6e30000504f5254203137322c31362c392c312c
    ++ hex 5 0x342c310d0a) ∷ []))
    ∷ []

abbrev refused_no_ack_settings : Settings
refused_no_ack_settings = set ([]) (pool 0xc0a8c801 0xc0a8c8fe) (pool 0xac100901 0xac1009fe)
    (fixed Left 0x0a000005 0xac100901 ∷ fixed Right 0x0a000005 0xc0a8c801 ∷ fixed Right 0x0a000035 0xc0a8c835 ∷ [])

refused_no_ack_holds : found refused_no_ack_settings refused_no_ack ≡ wanted refused_no_ack 1
unfolding frames_on_literals
refused_no_ack_holds = refl

-- a pool address without a binding
abbrev refused_no_binding : List Row
refused_no_binding =
    frame Left 1000000000 Raw true (hex 30 0x4500001e000140004011a81e0a000005c0a8c8020fa01388000ae1986869) (refused NoBinding)
    ∷ frame Left 2000000000 Raw true (hex 30 0x4500001e000140004011a81f0a000005c0a8c8010fa01388000ae1996869)
    (passes (hex 30 0x4500001e000140003f117cb8ac1009010a0000050fa01388000ab5326869 ∷ []))
    ∷ []

abbrev refused_no_binding_settings : Settings
refused_no_binding_settings = set ([]) (pool 0xc0a8c801 0xc0a8c8fe) (pool 0xac100901 0xac1009fe)
    (fixed Left 0x0a000005 0xac100901 ∷ fixed Right 0x0a000005 0xc0a8c801 ∷ fixed Right 0x0a000035 0xc0a8c835 ∷ [])

refused_no_binding_holds : found refused_no_binding_settings refused_no_binding ≡ wanted refused_no_binding 0
unfolding frames_on_literals
refused_no_binding_holds = refl

-- an FTP segment without a handshake
abbrev refused_no_session : List Row
refused_no_session =
    frame Left 1000000000 Raw true
    (hex 56 0x4500003b000240004006a80c0a000005c0a8c8019c400015000003e9000013895018200051840000504f52542031302c302c302c352c342c
    ++ hex 3 0x310d0a) (refused NoSession)
    ∷ frame Left 2000000000 Raw true (hex 30 0x4500001e000140004011a81f0a000005c0a8c8010fa01388000ae1996869)
    (passes (hex 30 0x4500001e000140003f117cb8ac1009010a0000050fa01388000ab5326869 ∷ []))
    ∷ []

abbrev refused_no_session_settings : Settings
refused_no_session_settings = set ([]) (pool 0xc0a8c801 0xc0a8c8fe) (pool 0xac100901 0xac1009fe)
    (fixed Left 0x0a000005 0xac100901 ∷ fixed Right 0x0a000005 0xc0a8c801 ∷ fixed Right 0x0a000035 0xc0a8c835 ∷ [])

refused_no_session_holds : found refused_no_session_settings refused_no_session ≡ wanted refused_no_session 0
unfolding frames_on_literals
refused_no_session_holds = refl

-- version 6
abbrev refused_not_ipv4 : List Row
refused_not_ipv4 =
    frame Left 1000000000 Raw true (hex 30 0x6500001e000140004011a81f0a000005c0a8c8010fa01388000ae1996869) (refused NotIpv4)
    ∷ frame Left 2000000000 Raw true (hex 30 0x4500001e000140004011a81f0a000005c0a8c8010fa01388000ae1996869)
    (passes (hex 30 0x4500001e000140003f117cb8ac1009010a0000050fa01388000ab5326869 ∷ []))
    ∷ []

abbrev refused_not_ipv4_settings : Settings
refused_not_ipv4_settings = set ([]) (pool 0xc0a8c801 0xc0a8c8fe) (pool 0xac100901 0xac1009fe)
    (fixed Left 0x0a000005 0xac100901 ∷ fixed Right 0x0a000005 0xc0a8c801 ∷ fixed Right 0x0a000035 0xc0a8c835 ∷ [])

refused_not_ipv4_holds : found refused_not_ipv4_settings refused_not_ipv4 ≡ wanted refused_not_ipv4 0
unfolding frames_on_literals
refused_not_ipv4_holds = refl

-- a multicast destination
abbrev refused_not_unicast : List Row
refused_not_unicast =
    frame Left 1000000000 Raw true (hex 30 0x4500001e00014000401150c80a000005e00000010fa01388000a8a426869) (refused NotUnicast)
    ∷ frame Left 2000000000 Raw true (hex 30 0x4500001e000140004011a81f0a000005c0a8c8010fa01388000ae1996869)
    (passes (hex 30 0x4500001e000140003f117cb8ac1009010a0000050fa01388000ab5326869 ∷ []))
    ∷ []

abbrev refused_not_unicast_settings : Settings
refused_not_unicast_settings = set ([]) (pool 0xc0a8c801 0xc0a8c8fe) (pool 0xac100901 0xac1009fe)
    (fixed Left 0x0a000005 0xac100901 ∷ fixed Right 0x0a000005 0xc0a8c801 ∷ fixed Right 0x0a000035 0xc0a8c835 ∷ [])

refused_not_unicast_holds : found refused_not_unicast_settings refused_not_unicast ≡ wanted refused_not_unicast 0
unfolding frames_on_literals
refused_not_unicast_holds = refl

-- an octet past the end of the stream
abbrev refused_past_end : List Row
refused_past_end =
    frame Left 1000000000 Raw true (hex 44 0x4500002c000240004006a81b0a000005c0a8c8019c400015000003e80000000060022000453a0000020405b4)
    (passes (hex 44 0x4500002c000240003f067cb4ac1009010a0000059c400015000003e8000000006002200018d30000020405b4 ∷ []))
    ∷ frame Right 2000000000 Raw true (hex 44 0x4500002c0002400040067bb40a000005ac10090100159c4000001388000003e960122000053a0000020405b4)
    (passes (hex 44 0x4500002c000240003f06a91bc0a8c8010a00000500159c4000001388000003e96012200031a10000020405b4 ∷ []))
    ∷ frame Left 3000000000 Raw true (hex 40 0x45000028000240004006a81f0a000005c0a8c8019c400015000003e90000138950102000495e0000)
    (passes (hex 40 0x45000028000240003f067cb8ac1009010a0000059c400015000003e900001389501020001cf70000 ∷ []))
    ∷ frame Left 4000000000 Raw true (hex 46 0x4500002e000240004006a8190a000005c0a8c8019c400015000003e9000013895010200086830000504f52542031)
    (passes (hex 40 0x45000028000240003f067cb8ac1009010a0000059c400015000003e900001389501020001cf70000 ∷ []))
    ∷ frame Left 5000000000 Raw true (hex 40 0x45000028000240004006a81f0a000005c0a8c8019c400015000003ef000013895011200049570000)
    (passes (hex 46 0x4500002e000240003f067cb2ac1009010a0000059c400015000003e900001389501120005a1b0000504f52542031 ∷ []))
    ∷ frame Right 6000000000 Raw true (hex 40 0x450000280002400040067bb80a000005ac10090100159c4000001389000003f0501020001cf00000)
    (passes (hex 40 0x45000028000240003f06a91fc0a8c8010a00000500159c4000001389000003f05010200049570000 ∷ []))
    ∷ frame Left 7000000000 Raw true (hex 41 0x45000029000240004006a81e0a000005c0a8c8019c400015000003ef0000138950102000d156000078) (refused PastEnd)
    ∷ []

abbrev refused_past_end_settings : Settings
refused_past_end_settings = set ([]) (pool 0xc0a8c801 0xc0a8c8fe) (pool 0xac100901 0xac1009fe)
    (fixed Left 0x0a000005 0xac100901 ∷ fixed Right 0x0a000005 0xc0a8c801 ∷ fixed Right 0x0a000035 0xc0a8c835 ∷ [])

refused_past_end_holds : found refused_past_end_settings refused_past_end ≡ wanted refused_past_end 0
unfolding frames_on_literals
refused_past_end_holds = refl

-- protocol 47
abbrev refused_protocol : List Row
refused_protocol =
    frame Left 1000000000 Raw true (hex 30 0x4500001e00014000402fa8010a000005c0a8c8010fa01388000ae1996869) (refused Protocol)
    ∷ frame Left 2000000000 Raw true (hex 30 0x4500001e000140004011a81f0a000005c0a8c8010fa01388000ae1996869)
    (passes (hex 30 0x4500001e000140003f117cb8ac1009010a0000050fa01388000ab5326869 ∷ []))
    ∷ []

abbrev refused_protocol_settings : Settings
refused_protocol_settings = set ([]) (pool 0xc0a8c801 0xc0a8c8fe) (pool 0xac100901 0xac1009fe)
    (fixed Left 0x0a000005 0xac100901 ∷ fixed Right 0x0a000005 0xc0a8c801 ∷ fixed Right 0x0a000035 0xc0a8c835 ∷ [])

refused_protocol_holds : found refused_protocol_settings refused_protocol ≡ wanted refused_protocol 0
unfolding frames_on_literals
refused_protocol_holds = refl

-- a frame whose kept length is below the original one
abbrev refused_snapped : List Row
refused_snapped =
    frame Left 1000000000 Raw false (hex 30 0x4500001e000140004011a81f0a000005c0a8c8010fa01388000ae1996869) (refused Snapped)
    ∷ []

abbrev refused_snapped_settings : Settings
refused_snapped_settings = set ([]) (pool 0xc0a8c801 0xc0a8c8fe) (pool 0xac100901 0xac1009fe)
    (fixed Left 0x0a000005 0xac100901 ∷ fixed Right 0x0a000005 0xc0a8c801 ∷ fixed Right 0x0a000035 0xc0a8c835 ∷ [])

refused_snapped_holds : found refused_snapped_settings refused_snapped ≡ wanted refused_snapped 0
unfolding frames_on_literals
refused_snapped_holds = refl

-- a source in its own side's pool
abbrev refused_source_in_pool : List Row
refused_source_in_pool =
    frame Left 1000000000 Raw true (hex 30 0x4500001e0001400040112972c0a8c809c0a8c8010fa01388000a62ec6869) (refused SourceInPool)
    ∷ frame Left 2000000000 Raw true (hex 30 0x4500001e000140004011a81f0a000005c0a8c8010fa01388000ae1996869)
    (passes (hex 30 0x4500001e000140003f117cb8ac1009010a0000050fa01388000ab5326869 ∷ []))
    ∷ []

abbrev refused_source_in_pool_settings : Settings
refused_source_in_pool_settings = set ([]) (pool 0xc0a8c801 0xc0a8c8fe) (pool 0xac100901 0xac1009fe)
    (fixed Left 0x0a000005 0xac100901 ∷ fixed Right 0x0a000005 0xc0a8c801 ∷ fixed Right 0x0a000035 0xc0a8c835 ∷ [])

refused_source_in_pool_holds : found refused_source_in_pool_settings refused_source_in_pool ≡ wanted refused_source_in_pool 0
unfolding frames_on_literals
refused_source_in_pool_holds = refl

-- a client SYN with another number
abbrev refused_syn_in_session : List Row
refused_syn_in_session =
    frame Left 1000000000 Raw true (hex 44 0x4500002c000240004006a81b0a000005c0a8c8019c400015000003e80000000060022000453a0000020405b4)
    (passes (hex 44 0x4500002c000240003f067cb4ac1009010a0000059c400015000003e8000000006002200018d30000020405b4 ∷ []))
    ∷ frame Right 2000000000 Raw true (hex 44 0x4500002c0002400040067bb40a000005ac10090100159c4000001388000003e960122000053a0000020405b4)
    (passes (hex 44 0x4500002c000240003f06a91bc0a8c8010a00000500159c4000001388000003e96012200031a10000020405b4 ∷ []))
    ∷ frame Left 3000000000 Raw true (hex 40 0x45000028000240004006a81f0a000005c0a8c8019c400015000003e90000138950102000495e0000)
    (passes (hex 40 0x45000028000240003f067cb8ac1009010a0000059c400015000003e900001389501020001cf70000 ∷ []))
    ∷ frame Left 4000000000 Raw true (hex 40 0x45000028000240004006a81f0a000005c0a8c8019c400015000003e900000000500220005cf50000)
    (refused SynInSession)
    ∷ frame Left 5000000000 Raw true
    (hex 56 0x4500003b000240004006a80c0a000005c0a8c8019c400015000003e9000013895018200051840000504f52542031302c302c302c352c342c
    ++ hex 3 0x310d0a)
    (passes ((hex 56 0x4500003d000240003f067ca3ac1009010a0000059c400015000003e90000138950182000e6e30000504f5254203137322c31362c392c312c
    ++ hex 5 0x342c310d0a) ∷ []))
    ∷ []

abbrev refused_syn_in_session_settings : Settings
refused_syn_in_session_settings = set ([]) (pool 0xc0a8c801 0xc0a8c8fe) (pool 0xac100901 0xac1009fe)
    (fixed Left 0x0a000005 0xac100901 ∷ fixed Right 0x0a000005 0xc0a8c801 ∷ fixed Right 0x0a000035 0xc0a8c835 ∷ [])

refused_syn_in_session_holds : found refused_syn_in_session_settings refused_syn_in_session ≡ wanted refused_syn_in_session 1
unfolding frames_on_literals
refused_syn_in_session_holds = refl

-- a SYN to port 21 with one octet
abbrev refused_syn_with_data : List Row
refused_syn_with_data =
    frame Left 1000000000 Raw true (hex 41 0x45000029000240004006a81e0a000005c0a8c8019c400015000003e80000000050022000e4f4000078) (refused SynData)
    ∷ frame Left 2000000000 Raw true (hex 30 0x4500001e000140004011a81f0a000005c0a8c8010fa01388000ae1996869)
    (passes (hex 30 0x4500001e000140003f117cb8ac1009010a0000050fa01388000ab5326869 ∷ []))
    ∷ []

abbrev refused_syn_with_data_settings : Settings
refused_syn_with_data_settings = set ([]) (pool 0xc0a8c801 0xc0a8c8fe) (pool 0xac100901 0xac1009fe)
    (fixed Left 0x0a000005 0xac100901 ∷ fixed Right 0x0a000005 0xc0a8c801 ∷ fixed Right 0x0a000035 0xc0a8c835 ∷ [])

refused_syn_with_data_holds : found refused_syn_with_data_settings refused_syn_with_data ≡ wanted refused_syn_with_data 0
unfolding frames_on_literals
refused_syn_with_data_holds = refl

-- a lifetime of 1
abbrev refused_ttl_spent : List Row
refused_ttl_spent =
    frame Left 1000000000 Raw true (hex 30 0x4500001e000140000111e71f0a000005c0a8c8010fa01388000ae1996869) (refused TtlSpent)
    ∷ frame Left 2000000000 Raw true (hex 30 0x4500001e000140004011a81f0a000005c0a8c8010fa01388000ae1996869)
    (passes (hex 30 0x4500001e000140003f117cb8ac1009010a0000050fa01388000ab5326869 ∷ []))
    ∷ []

abbrev refused_ttl_spent_settings : Settings
refused_ttl_spent_settings = set ([]) (pool 0xc0a8c801 0xc0a8c8fe) (pool 0xac100901 0xac1009fe)
    (fixed Left 0x0a000005 0xac100901 ∷ fixed Right 0x0a000005 0xc0a8c801 ∷ fixed Right 0x0a000035 0xc0a8c835 ∷ [])

refused_ttl_spent_holds : found refused_ttl_spent_settings refused_ttl_spent ≡ wanted refused_ttl_spent 0
unfolding frames_on_literals
refused_ttl_spent_holds = refl
