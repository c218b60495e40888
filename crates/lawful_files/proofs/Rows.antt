-- Worked cases, computed: records, taken one by one, of a segment whose octets may be cut. Each pair says whether all are the front of a lawful list, and whether they are a whole one.
use Rattle.std.proofs.Common.{◌≡◌, Bool, true, false, List, [], ◌∷◌, refl, fold, ℕ, map}
use Rattle.gate_base.specs.declared.side.Link.TheVariants.{Raw}
use Rattle.gate_base.specs.declared.side.Side.TheVariants.{Left, Right}
use Rattle.gate_settings.specs.declared.settings.Settings.{Settings}
use Rattle.gate_base.specs.Prelude.{Event, other}
use Rattle.pcap_files.specs.Prelude.{Packet}
use Rattle.gate_model.specs.Prelude.{whole_rules, next, opening_world}
use Rattle.gate_model.proofs.OnLiterals.{frames_on_literals}
use Rattle.gate_model.proofs.RowWords.{hex, fixed, pool, set, event}
use Rattle.lawful_files.specs.Wanted.{Wanted, wanted}
use Rattle.lawful_files.specs.Progress.{Progress, behind_all, is_closed}

abbrev row_settings : Settings
row_settings =
    set ([]) (pool 0xc0a8c801 0xc0a8c8fe) (pool 0xac100901 0xac1009fe)
    (fixed Left 0x0a000005 0xac100901 ∷ fixed Right 0x0a000005 0xc0a8c801 ∷ fixed Right 0x0a000035 0xc0a8c835 ∷ [])

-- records, and what is to be found of them
abbrev Row : Type 0
Row = List Packet × (Bool × Bool)

abbrev found_of : Wanted → Progress → Bool × Bool
found_of wanted so_far = (so_far.right, is_closed wanted so_far)

abbrev found_by : Event → Wanted → List Row → List (Bool × Bool)
found_by e wanted rows = map (λ row. found_of wanted (behind_all row_settings (other e.side) e.moment wanted row.0)) rows

-- what is found of records that stand for an event behind others
abbrev found : List Event → Event → List Row → List (Bool × Bool)
found before e rows = found_by e (wanted (fold (next whole_rules) (opening_world row_settings) before) e) rows

abbrev told : List Row → List (Bool × Bool)
told rows = map (λ row. row.1) rows

abbrev whole_at : ℕ → List ℕ → Packet
whole_at moment octets = record { stamp = moment; whole = true; octets = octets }

-- both hosts open a session, the server with pieces of at most 88 octets
abbrev opened : List Event
opened =
    event Left 1000000000 Raw true (hex 44 0x4500002c000240004006a81b0a000005c0a8c8019c400015000003e80000000060022000453a0000020405b4)
    ∷ event Right 2000000000 Raw true (hex 44 0x4500002c0002400040067bb40a000005ac10090100159c4000001388000003e9601220000a96000002040058)
    ∷ event Left 3000000000 Raw true (hex 40 0x45000028000240004006a81f0a000005c0a8c8019c400015000003e90000138950102000495e0000)
    ∷ []

-- the first half without PSH, with it, and with FIN
abbrev front : List ℕ
front = hex 90
    0x4500005a000240003f067c86ac1009010a0000059c400015000003e90000138950102000045300004e4f4f5020787878787878787878787878787878787878787878787878787878787878787878787878787878787878787878

abbrev front_pushed : List ℕ
front_pushed =
    hex 90 0x4500005a000240003f067c86ac1009010a0000059c400015000003e90000138950182000044b00004e4f4f5020787878787878787878787878787878787878787878787878787878787878787878787878787878787878787878

abbrev front_ended : List ℕ
front_ended =
    hex 90 0x4500005a000240003f067c86ac1009010a0000059c400015000003e90000138950112000045200004e4f4f5020787878787878787878787878787878787878787878787878787878787878787878787878787878787878787878

-- the second half without PSH, with it, with FIN, and with both
abbrev back : List ℕ
back = hex 90
    0x4500005a000240003f067c86ac1009010a0000059c4000150000041b0000138950102000c43d00007878787878787878787878787878787878787878787878787878787878787878787878787878787878787878787878780d0a

abbrev back_pushed : List ℕ
back_pushed =
    hex 90 0x4500005a000240003f067c86ac1009010a0000059c4000150000041b0000138950182000c43500007878787878787878787878787878787878787878787878787878787878787878787878787878787878787878787878780d0a

abbrev back_ended : List ℕ
back_ended =
    hex 90 0x4500005a000240003f067c86ac1009010a0000059c4000150000041b0000138950112000c43c00007878787878787878787878787878787878787878787878787878787878787878787878787878787878787878787878780d0a

abbrev back_both : List ℕ
back_both =
    hex 90 0x4500005a000240003f067c86ac1009010a0000059c4000150000041b0000138950192000c43400007878787878787878787878787878787878787878787878787878787878787878787878787878787878787878787878780d0a

-- 100 octets with PSH
abbrev pushed : Event
pushed = event Left 4000000000 Raw true
    (hex 140
    0x4500008c000240004006a7bb0a000005c0a8c8019c400015000003e90000138950182000d82a00004e4f4f50207878787878787878787878787878787878787878787878787878787878787878787878787878787878787878787878787878787878787878787878787878787878787878787878787878787878787878787878787878787878787878780d0a)

abbrev pushed_rows : List Row
pushed_rows =
    -- each piece may have PSH, or none
    (whole_at 4000000000 front_pushed ∷ whole_at 4000000000 back_pushed ∷ [], (true, true))
    ∷ (whole_at 4000000000 front ∷ whole_at 4000000000 back ∷ [], (true, true))
    -- the first half alone isn't all
    ∷ (whole_at 4000000000 front ∷ [], (true, false))
    -- a piece has an octet
    ∷ (
      whole_at 4000000000
          (hex 40 0x45000028000240003f067cb8ac1009010a0000059c400015000003e900001389501020001cf70000) ∷ whole_at 4000000000 front ∷ whole_at 4000000000
          back_pushed ∷ [],
      (false, false),
    )
    -- a piece has the number of its first octet
    ∷ (
      whole_at 4000000000 front_pushed ∷ whole_at 4000000000
          (hex 90 0x4500005a000240003f067c86ac1009010a0000059c4000150000041c0000138950182000c43400007878787878787878787878787878787878787878787878787878787878787878787878787878787878787878787878780d0a) ∷ [],
      (false, false),
    )
    -- octets go out in their order, and once
    ∷ (whole_at 4000000000 back ∷ whole_at 4000000000 front_pushed ∷ [], (false, false))
    -- FIN where the segment has none
    ∷ (whole_at 4000000000 front ∷ whole_at 4000000000 back_both ∷ [], (false, false))
    -- another stamp than the event's moment
    ∷ (whole_at 4000000000 front ∷ whole_at 4000000001 back_pushed ∷ [], (false, false))
    -- a record that isn't whole
    ∷ (whole_at 4000000000 front ∷ record { stamp = 4000000000; whole = false; octets = back_pushed } ∷ [], (false, false))
    ∷ []

pushed_holds : found opened pushed pushed_rows ≡ told pushed_rows
unfolding frames_on_literals
pushed_holds = refl

-- 100 octets with FIN
abbrev ended : Event
ended = event Left 4000000000 Raw true
    (hex 140
    0x4500008c000240004006a7bb0a000005c0a8c8019c400015000003e90000138950112000d83100004e4f4f50207878787878787878787878787878787878787878787878787878787878787878787878787878787878787878787878787878787878787878787878787878787878787878787878787878787878787878787878787878787878787878780d0a)

abbrev ended_rows : List Row
ended_rows =
    -- FIN stands on the last piece,
    (whole_at 4000000000 front ∷ whole_at 4000000000 back_ended ∷ [], (true, true))
    -- on no other,
    ∷ (whole_at 4000000000 front_ended ∷ whole_at 4000000000 back_ended ∷ [], (false, false))
    -- and isn't missing
    ∷ (whole_at 4000000000 front ∷ whole_at 4000000000 back ∷ [], (false, false))
    -- PSH where the segment has none
    ∷ (whole_at 4000000000 front_pushed ∷ whole_at 4000000000 back_ended ∷ [], (false, false))
    ∷ []

ended_holds : found opened ended ended_rows ≡ told ended_rows
unfolding frames_on_literals
ended_holds = refl

-- an acknowledgement alone goes out once
abbrev bare : Event
bare = event Left 3000000000 Raw true (hex 40 0x45000028000240004006a81f0a000005c0a8c8019c400015000003e90000138950102000495e0000)

abbrev bare_rows : List Row
bare_rows =
    ([], (true, false))
    ∷ (whole_at 3000000000 (hex 40 0x45000028000240003f067cb8ac1009010a0000059c400015000003e900001389501020001cf70000) ∷ [], (true, true))
    ∷ (
      whole_at 3000000000 (hex 40 0x45000028000240003f067cb8ac1009010a0000059c400015000003e900001389501020001cf70000) ∷ whole_at 3000000000
          (hex 40 0x45000028000240003f067cb8ac1009010a0000059c400015000003e900001389501020001cf70000) ∷ [],
      (false, false),
    )
    ∷ []

bare_holds : found (event Left 1000000000 Raw true (hex 44 0x4500002c000240004006a81b0a000005c0a8c8019c400015000003e80000000060022000453a0000020405b4)
    ∷ event Right 2000000000 Raw true (hex 44 0x4500002c0002400040067bb40a000005ac10090100159c4000001388000003e9601220000a96000002040058) ∷ []) bare
    bare_rows ≡ told bare_rows
unfolding frames_on_literals
bare_holds = refl

-- a message of DNS over TCP goes out with its addresses renamed, among them one that it names first, and may be cut too
abbrev asked : List Event
asked =
    event Left 1000000000 Raw true (hex 44 0x4500002c000240004006a7e70a000005c0a8c8359c410035000003e8000000006002200044e50000020405b4)
    ∷ event Right 2000000000 Raw true (hex 44 0x4500002c0002400040067b840a000035ac10090100359c4100001388000003e96012200004e90000020405b4)
    ∷ event Left 3000000000 Raw true (hex 40 0x45000028000240004006a7eb0a000005c0a8c8359c410035000003e9000013895010200049090000)
    ∷ event Left 4000000000 Raw true
    (hex 71 0x45000047000240004006a7cc0a000005c0a8c8359c410035000003e9000013895018200074500000001d00010100000100000000000003667470076578616d706c650000010001)
    ∷ event Right 5000000000 Raw true (hex 41 0x450000290002400040067b870a000035ac10090100359c410000138900000408501820001c7e000000)
    ∷ []

abbrev answered : Event
answered =
    event Right 6000000000 Raw true
    (hex 113
    0x450000710002400040067b3f0a000035ac10090100359c410000138a0000040850182000320800004800018180000100020000000103667470076578616d706c650000010001c00c0001000100000e1000040a000005c00c0001000100000e1000040a00000800002904d0000080000000)

abbrev answered_rows : List Row
answered_rows = (
  whole_at 6000000000
      (hex 80 0x45000050000240003f06a8c3c0a8c8350a00000500359c41000013890000040850102000e4c10000004800018180000100020000000103667470076578616d706c650000010001c00c00010001000000)
      ∷ whole_at 6000000000
      (hex 74 0x4500004a000240003f06a8c9c0a8c8350a00000500359c41000013b1000004085018200056cd0000000004c0a8c801c00c00010001000000000004c0a8c80200002904d0000080000000)
      ∷ [],
  (true, true),
) ∷ []

answered_holds : found asked answered answered_rows ≡ told answered_rows
unfolding frames_on_literals
answered_holds = refl
