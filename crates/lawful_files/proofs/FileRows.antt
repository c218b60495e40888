-- Worked cases, computed: whole files, and the first reason against them.
use Rattle.std.proofs.Common.{◌≡◌, ℕ, true, List, [], ◌∷◌, ◌++◌, Option, Some, None, refl, map, codes, take}
use Rattle.std.specs.Prelude.{⊤}
use Rattle.gate_base.specs.declared.side.Side.TheVariants.{Left, Right}
use Rattle.gate_settings.specs.declared.settings.ReportForm.TheVariants.{Json}
use Rattle.gate_settings.specs.declared.settings.Settings.{Settings}
use Rattle.ipv4_frames.specs.Ipv4.{read_datagram}
use Rattle.verdicts.specs.Refusal.{name_of as refusal_name}
use Rattle.gate_base.specs.declared.side.Link.TheVariants.{Ethernet, Raw}
use Rattle.gate_report.specs.Lines.{event_text, event_json, done_text, done_json}
use Rattle.pcap_files.specs.Capture.{capture_of, head_of, next_at, up_to, records_from}
use Rattle.pcap_files.specs.Prelude.{head_octets}
use Rattle.pcap_files.specs.Spelling.{record_octets}
use Rattle.pcap_merge.specs.Prelude.{Merged}
use Rattle.pcap_merge.specs.Events.{up_to as merge_up_to, merge_from, events_of}
use Rattle.frag_join.specs.Arrivals.{arrivals_from}
use Rattle.gate_model.proofs.OnLiterals.{frames_on_literals}
use Rattle.gate_model.proofs.RowWords.{hex, fixed, pool, set}
use Rattle.lawful_files.specs.declared.reason.AuditReason.{AuditReason}
use Rattle.lawful_files.specs.declared.reason.AuditReason.TheVariants.{Capture, Line, Missing, Frame, Left as SomethingLeft}
use Rattle.lawful_files.specs.Judging.{reason_from, reason_against}

-- what a row unfolds to compute the files
unfoldable files_on_literals : ⊤
unfolding frames_on_literals refusal_name event_text event_json done_text done_json capture_of head_of next_at up_to records_from record_octets
    merge_up_to merge_from events_of arrivals_from read_datagram reason_from
files_on_literals = tt

abbrev row_settings : Settings
row_settings =
    set ([]) (pool 0xc0a8c801 0xc0a8c8fe) (pool 0xac100901 0xac1009fe)
    (fixed Left 0x0a000005 0xac100901 ∷ fixed Right 0x0a000005 0xc0a8c801 ∷ fixed Right 0x0a000035 0xc0a8c835 ∷ [])

-- given files, and the first reason that is to be found against them
record Row : Type 0 where
  left : List ℕ
  right : List ℕ
  report : List ℕ
  reason : Option (ℕ × AuditReason)

abbrev row : List ℕ → List ℕ → List ℕ → Option (ℕ × AuditReason) → Row
row left right report reason = record { left = left; right = right; report = report; reason = reason }

abbrev found : Settings → Merged → List Row → List (Option (ℕ × AuditReason))
found settings all rows = map (λ (r : Row). reason_against settings all r.left r.right r.report) rows

abbrev told : List Row → List (Option (ℕ × AuditReason))
told rows = map (λ (r : Row). r.reason) rows

-- the head of a capture of raw datagrams
abbrev head : List ℕ
head = head_octets Raw

-- one datagram goes from left to right
abbrev one_datagram : Merged
one_datagram =
    events_of (head_octets Raw ++ record_octets 1000000000 (hex 30 0x4500001e000140004011a81f0a000005c0a8c8010fa01388000ae1996869)) (head_octets Raw)

-- the record in which it goes out, and the report
abbrev one_record : List ℕ
one_record = record_octets 1000000000 (hex 30 0x4500001e000140003f117cb8ac1009010a0000050fa01388000ab5326869)

abbrev one_line : List ℕ
one_line = codes "1 left 1000000000 pass 1\n"

abbrev one_last : List ℕ
one_last = codes "done events=1 passed=1 refused=0 to_left=0 to_right=1 pending=0\n"

abbrev one_rows : List Row
one_rows =
    -- the files of a run
    row head (head ++ one_record) (one_line ++ one_last) None
    -- any form of capture is as good
    ∷ row head
    (hex 70 0xa1b2c3d4000200040000000000000000000400000000006500000001000000000000001e0000001e4500001e000140003f117cb8ac1009010a0000050fa01388000ab5326869) (one_line ++ one_last) None
    -- another octet
    ∷ row head (head ++ record_octets 1000000000 (hex 30 0x4500001e000140003f117cb8ac1009010a0000050fa01388000ab5326868)) (one_line ++ one_last)
    (Some (1, Frame))
    -- the line has another verdict, a zero in front of its number of frames, or a number above 32 bits
    ∷ row head (head ++ one_record) (codes "1 left 1000000000 held 1\n" ++ one_last) (Some (1, Line))
    ∷ row head (head ++ one_record) (codes "1 left 1000000000 pass 01\n" ++ one_last) (Some (1, Line))
    ∷ row head (head ++ one_record) (codes "1 left 1000000000 pass 4294967296\n" ++ one_last) (Some (1, Line))
    -- the greatest number of 32 bits is a number of frames
    ∷ row head (head ++ one_record) (codes "1 left 1000000000 pass 4294967295\n" ++ one_last) (Some (1, Missing))
    -- the record is torn, or stands in the other capture
    ∷ row head (head ++ take 40 one_record) (one_line ++ one_last) (Some (1, Missing))
    ∷ row (head ++ one_record) head (one_line ++ one_last) (Some (1, Missing))
    -- behind it another one is torn, or left
    ∷ row head (head ++ one_record ++ take 40 one_record) (one_line ++ one_last) (Some (2, SomethingLeft))
    ∷ row head (head ++ one_record ++ one_record) (one_line ++ one_last) (Some (2, SomethingLeft))
    -- the last line counts a refusal, or more stands behind it
    ∷ row head (head ++ one_record) (one_line ++ codes "done events=1 passed=1 refused=1 to_left=0 to_right=1 pending=0\n") (Some (2, SomethingLeft))
    ∷ row head (head ++ one_record) (one_line ++ one_last ++ one_last) (Some (2, SomethingLeft))
    -- a given capture has another link, or no head
    ∷ row (head_octets Ethernet) (head ++ one_record) (one_line ++ one_last) (Some (0, Capture))
    ∷ row head (take 23 head) (one_line ++ one_last) (Some (0, Capture))
    ∷ []

one_holds : found row_settings one_datagram one_rows ≡ told one_rows
unfolding files_on_literals
one_holds = refl

-- the report as JSON, where the settings ask for it
abbrev json_settings : Settings
json_settings = record row_settings { report = Json }

abbrev json_rows : List Row
json_rows =
    row head (head ++ one_record)
    (codes "{\"event\":1,\"frames\":1,\"moment\":1000000000,\"side\":\"left\",\"verdict\":\"pass\"}\n{\"done\":true,\"events\":1,\"passed\":1,\"pending\":0,\"refused\":0,\"to_left\":0,\"to_right\":1}\n") None
    ∷ row head (head ++ one_record) (one_line ++ one_last) (Some (1, Line))
    ∷ []

json_holds : found json_settings one_datagram json_rows ≡ told json_rows
unfolding files_on_literals
json_holds = refl

-- on an Ethernet link behind a head, without padding
abbrev ethernet_settings : Settings
ethernet_settings =
    record row_settings
    { right = record (pool 0xac100901 0xac1009fe) { link = Ethernet; gateway_mac = hex 6 0x02005e000001; next_mac = hex 6 0x02005e00000a } }

abbrev ethernet_rows : List Row
ethernet_rows =
    row (head_octets Raw)
    (head_octets Ethernet ++ record_octets 1000000000
    (hex 44 0x02005e00000a02005e00000108004500001e000140003f117cb8ac1009010a0000050fa01388000ab5326869))
    (codes "1 left 1000000000 pass 1\ndone events=1 passed=1 refused=0 to_left=0 to_right=1 pending=0\n") None
    ∷ []

ethernet_holds : found ethernet_settings
    (events_of
    (head_octets Ethernet ++ record_octets 1000000000
    (hex 60 0x02000000000102000000000208004500001e000140004011a81f0a000005c0a8c8010fa01388000ae199686900000000000000000000000000000000))
    (head_octets Raw)) ethernet_rows ≡ told ethernet_rows
unfolding files_on_literals
ethernet_holds = refl

-- 100 octets of a session go out in pieces of at most 88
abbrev cut_octets : Merged
cut_octets = events_of (head_octets Raw
    ++ record_octets 1000000000 (hex 44 0x4500002c000240004006a81b0a000005c0a8c8019c400015000003e80000000060022000453a0000020405b4)
    ++ record_octets 3000000000 (hex 40 0x45000028000240004006a81f0a000005c0a8c8019c400015000003e90000138950102000495e0000)
    ++ record_octets 4000000000
    (hex 140
    0x4500008c000240004006a7bb0a000005c0a8c8019c400015000003e90000138950182000d82a00004e4f4f50207878787878787878787878787878787878787878787878787878787878787878787878787878787878787878787878787878787878787878787878787878787878787878787878787878787878787878787878787878787878787878780d0a))
    (head_octets Raw ++ record_octets 2000000000
    (hex 44 0x4500002c0002400040067bb40a000005ac10090100159c4000001388000003e9601220000a96000002040058))

abbrev cut_left : List ℕ
cut_left =
    head_octets Raw ++ record_octets 2000000000 (hex 44 0x4500002c000240003f06a91bc0a8c8010a00000500159c4000001388000003e96012200036fd000002040058)

abbrev cut_front : List ℕ
cut_front =
    head_octets Raw ++ record_octets 1000000000 (hex 44 0x4500002c000240003f067cb4ac1009010a0000059c400015000003e8000000006002200018d30000020405b4)
    ++ record_octets 3000000000 (hex 40 0x45000028000240003f067cb8ac1009010a0000059c400015000003e900001389501020001cf70000)

abbrev cut_report : List ℕ
cut_report =
    codes "1 left 1000000000 pass 1\n2 right 2000000000 pass 1\n3 left 3000000000 pass 1\n4 left 4000000000 pass 2\ndone events=4 passed=4 refused=0 to_left=1 to_right=4 pending=0\n"

abbrev cut_rows : List Row
cut_rows =
    -- as the gateway cuts them, as 50 and 50, and as 89 and 11
    row cut_left (cut_front
    ++ record_octets 4000000000
    (hex 128
    0x45000080000240003f067c60ac1009010a0000059c400015000003e90000138950102000133c00004e4f4f50207878787878787878787878787878787878787878787878787878787878787878787878787878787878787878787878787878787878787878787878787878787878787878787878787878787878787878787878)
    ++ record_octets 4000000000
    (hex 52 0x45000034000240003f067cacac1009010a0000059c400015000004410000138950182000b5260000787878787878787878780d0a)) cut_report None
    ∷ row cut_left (cut_front
    ++ record_octets 4000000000
    (hex 90 0x4500005a000240003f067c86ac1009010a0000059c400015000003e90000138950102000045300004e4f4f5020787878787878787878787878787878787878787878787878787878787878787878787878787878787878787878)
    ++ record_octets 4000000000
    (hex 90 0x4500005a000240003f067c86ac1009010a0000059c4000150000041b0000138950182000c43500007878787878787878787878787878787878787878787878787878787878787878787878787878787878787878787878780d0a))
    cut_report None
    ∷ row cut_left (cut_front
    ++ record_octets 4000000000
    (hex 129
    0x45000081000240003f067c5fac1009010a0000059c400015000003e900001389501020009b3a00004e4f4f5020787878787878787878787878787878787878787878787878787878787878787878787878787878787878787878787878787878787878787878787878787878787878787878787878787878787878787878787878)
    ++ record_octets 4000000000 (hex 51 0x45000033000240003f067cadac1009010a0000059c400015000004420000138950182000b89b00007878787878787878780d0a))
    cut_report (Some (4, Frame))
    ∷ []

cut_holds : found row_settings cut_octets cut_rows ≡ told cut_rows
unfolding files_on_literals
cut_holds = refl

-- a line in three parts, without the record of the fifth event
abbrev line_rows : List Row
line_rows =
    row (head_octets Raw ++ record_octets 2000000000
    (hex 44 0x4500002c000240003f06a91bc0a8c8010a00000500159c4000001388000003e96012200031a10000020405b4)) (head_octets Raw
    ++ record_octets 1000000000 (hex 44 0x4500002c000240003f067cb4ac1009010a0000059c400015000003e8000000006002200018d30000020405b4)
    ++ record_octets 3000000000 (hex 40 0x45000028000240003f067cb8ac1009010a0000059c400015000003e900001389501020001cf70000)
    ++ record_octets 4000000000 (hex 40 0x45000028000240003f067cb8ac1009010a0000059c400015000003e900001389501020001cf70000)
    ++ record_octets 6000000000
    (hex 61 0x4500003d000240003f067ca3ac1009010a0000059c400015000003e90000138950182000e6e30000504f5254203137322c31362c392c312c342c310d0a))
    (codes "1 left 1000000000 pass 1\n2 right 2000000000 pass 1\n3 left 3000000000 pass 1\n4 left 4000000000 pass 1\n5 left 5000000000 pass 1\n6 left 6000000000 pass 1\ndone events=6 passed=6 refused=0 to_left=1 to_right=5 pending=1\n") (Some (5, Frame))
    -- with it, and with another number of lines that waited
    ∷ row (head_octets Raw
    ++ record_octets 2000000000 (hex 44 0x4500002c000240003f06a91bc0a8c8010a00000500159c4000001388000003e96012200031a10000020405b4))
    (head_octets Raw ++ record_octets 1000000000
    (hex 44 0x4500002c000240003f067cb4ac1009010a0000059c400015000003e8000000006002200018d30000020405b4)
    ++ record_octets 3000000000 (hex 40 0x45000028000240003f067cb8ac1009010a0000059c400015000003e900001389501020001cf70000)
    ++ record_octets 4000000000 (hex 40 0x45000028000240003f067cb8ac1009010a0000059c400015000003e900001389501020001cf70000)
    ++ record_octets 5000000000 (hex 40 0x45000028000240003f067cb8ac1009010a0000059c400015000003e900001389501020001cf70000)
    ++ record_octets 6000000000
    (hex 61 0x4500003d000240003f067ca3ac1009010a0000059c400015000003e90000138950182000e6e30000504f5254203137322c31362c392c312c342c310d0a))
    (codes "1 left 1000000000 pass 1\n2 right 2000000000 pass 1\n3 left 3000000000 pass 1\n4 left 4000000000 pass 1\n5 left 5000000000 pass 1\n6 left 6000000000 pass 1\ndone events=6 passed=6 refused=0 to_left=1 to_right=5 pending=1\n") None
    ∷ row (head_octets Raw
    ++ record_octets 2000000000 (hex 44 0x4500002c000240003f06a91bc0a8c8010a00000500159c4000001388000003e96012200031a10000020405b4))
    (head_octets Raw ++ record_octets 1000000000
    (hex 44 0x4500002c000240003f067cb4ac1009010a0000059c400015000003e8000000006002200018d30000020405b4)
    ++ record_octets 3000000000 (hex 40 0x45000028000240003f067cb8ac1009010a0000059c400015000003e900001389501020001cf70000)
    ++ record_octets 4000000000 (hex 40 0x45000028000240003f067cb8ac1009010a0000059c400015000003e900001389501020001cf70000)
    ++ record_octets 5000000000 (hex 40 0x45000028000240003f067cb8ac1009010a0000059c400015000003e900001389501020001cf70000)
    ++ record_octets 6000000000
    (hex 61 0x4500003d000240003f067ca3ac1009010a0000059c400015000003e90000138950182000e6e30000504f5254203137322c31362c392c312c342c310d0a))
    (codes "1 left 1000000000 pass 1\n2 right 2000000000 pass 1\n3 left 3000000000 pass 1\n4 left 4000000000 pass 1\n5 left 5000000000 pass 1\n6 left 6000000000 pass 1\ndone events=6 passed=6 refused=0 to_left=1 to_right=5 pending=0\n") (Some (7, SomethingLeft))
    ∷ []

line_holds : found row_settings (events_of (head_octets Raw
    ++ record_octets 1000000000 (hex 44 0x4500002c000240004006a81b0a000005c0a8c8019c400015000003e80000000060022000453a0000020405b4)
    ++ record_octets 3000000000 (hex 40 0x45000028000240004006a81f0a000005c0a8c8019c400015000003e90000138950102000495e0000)
    ++ record_octets 4000000000 (hex 42 0x4500002a000240004006a81d0a000005c0a8c8019c400015000003e90000138950182000f9040000504f)
    ++ record_octets 5000000000 (hex 47 0x4500002f000240004006a8180a000005c0a8c8019c400015000003eb0000138950182000769b000052542031302c30)
    ++ record_octets 6000000000 (hex 50 0x45000032000240004006a8150a000005c0a8c8019c400015000003f200001389501820008b6e00002c302c352c342c310d0a))
    (head_octets Raw ++ record_octets 2000000000 (hex 44 0x4500002c0002400040067bb40a000005ac10090100159c4000001388000003e960122000053a0000020405b4)))
    line_rows ≡ told line_rows
unfolding files_on_literals
line_holds = refl

-- a frame that is refused has a line and no record
abbrev refused_rows : List Row
refused_rows =
    row (head_octets Raw) (head_octets Raw ++ record_octets 2000000000 (hex 30 0x4500001e000140003f117cb8ac1009010a0000050fa01388000ab5326869))
    (codes "1 left 1000000000 TtlSpent 0\n2 left 2000000000 pass 1\ndone events=2 passed=1 refused=1 to_left=0 to_right=1 pending=0\n") None ∷ []

refused_holds : found row_settings (events_of (head_octets Raw
    ++ record_octets 1000000000 (hex 30 0x4500001e000140000111e71f0a000005c0a8c8010fa01388000ae1996869)
    ++ record_octets 2000000000 (hex 30 0x4500001e000140004011a81f0a000005c0a8c8010fa01388000ae1996869)) (head_octets Raw)) refused_rows ≡ told
    refused_rows
unfolding files_on_literals
refused_holds = refl

-- where an incoming capture is faulty behind its events, nothing is asked behind them
abbrev faulty_rows : List Row
faulty_rows =
    row head (head ++ one_record) one_line None
    ∷ row head (head ++ record_octets 1000000000 (hex 30 0x4500001e000140003f117cb8ac1009010a0000050fa01388000ab5326868)) one_line (Some (1, Frame))
    ∷ []

faulty_holds : found row_settings
    (events_of
    (head_octets Raw ++ record_octets 1000000000 (hex 30 0x4500001e000140004011a81f0a000005c0a8c8010fa01388000ae1996869) ++ (hex 1 0x00)) head)
    faulty_rows ≡ told faulty_rows
unfolding files_on_literals
faulty_holds = refl

-- fragments are joined: one is held, one refused before the gate, and with the last the datagram passes
abbrev joined_rows : List Row
joined_rows = row (head_octets Raw) (head_octets Raw
    ++ record_octets 2000000000 (hex 30 0x4500001e000100003f11bcb8ac1009010a0000050fa01388000ab5326869))
    (codes "1 left 1000000000 held 0\n2 left 1000000000 BadFragment 0\n3 left 2000000000 pass 1\ndone events=3 passed=1 refused=1 to_left=0 to_right=1 pending=0\n") None ∷ []

joined_holds : found (record row_settings { join = true }) (events_of (head_octets Raw
    ++ record_octets 1000000000 (hex 22 0x45000016000100014011e8260a000005c0a8c8016869)
    ++ record_octets 1000000000 (hex 22 0x45000016000100014011e8260a000005c0a8c8016868)
    ++ record_octets 2000000000 (hex 28 0x4500001c000120004011c8210a000005c0a8c8010fa01388000ae199)) (head_octets Raw)) joined_rows ≡ told joined_rows
unfolding files_on_literals
joined_holds = refl
