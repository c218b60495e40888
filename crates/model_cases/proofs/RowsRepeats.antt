-- Worked cases, computed: whole frames, the verdict on each and the datagrams that go out. Written by tools/model_cases.py.
use Rattle.std.proofs.Common.{◌++◌, ◌≡◌, true, List, [], ◌∷◌, refl}
use Rattle.verdicts.specs.declared.refusal.Refusal.TheVariants.{Unlike}
use Rattle.gate_base.specs.declared.side.Link.TheVariants.{Raw}
use Rattle.gate_base.specs.declared.side.Side.TheVariants.{Left, Right}
use Rattle.gate_settings.specs.declared.settings.Settings.{Settings}
use Rattle.gate_model.proofs.RowWords.{Row, hex, fixed, pool, set, frame, passes, refused, found, wanted}
use Rattle.gate_model.proofs.OnLiterals.{frames_on_literals}

-- a repeat with other octets is refused, and passes unread once acknowledged
abbrev repeat_that_differs : List Row
repeat_that_differs =
    frame Left 1000000000 Raw true (hex 44 0x4500002c000240004006a81b0a000005c0a8c8019c400015000003e80000000060022000453a0000020405b4)
    (passes (hex 44 0x4500002c000240003f067cb4ac1009010a0000059c400015000003e8000000006002200018d30000020405b4 ∷ []))
    ∷ frame Right 2000000000 Raw true (hex 44 0x4500002c0002400040067bb40a000005ac10090100159c4000001388000003e960122000053a0000020405b4)
    (passes (hex 44 0x4500002c000240003f06a91bc0a8c8010a00000500159c4000001388000003e96012200031a10000020405b4 ∷ []))
    ∷ frame Left 3000000000 Raw true (hex 40 0x45000028000240004006a81f0a000005c0a8c8019c400015000003e90000138950102000495e0000)
    (passes (hex 40 0x45000028000240003f067cb8ac1009010a0000059c400015000003e900001389501020001cf70000 ∷ []))
    ∷ frame Left 4000000000 Raw true (hex 46 0x4500002e000240004006a8190a000005c0a8c8019c400015000003e900001389501820009ea600004e4f4f500d0a)
    (passes (hex 46 0x4500002e000240003f067cb2ac1009010a0000059c400015000003e90000138950182000723f00004e4f4f500d0a ∷ []))
    ∷ frame Left 5000000000 Raw true (hex 46 0x4500002e000240004006a8190a000005c0a8c8019c400015000003e900001389501820009ea500004e4f4f510d0a)
    (refused Unlike)
    ∷ frame Right 6000000000 Raw true (hex 40 0x450000280002400040067bb80a000005ac10090100159c4000001389000003ef501020001cf10000)
    (passes (hex 40 0x45000028000240003f06a91fc0a8c8010a00000500159c4000001389000003ef5010200049580000 ∷ []))
    ∷ frame Left 7000000000 Raw true (hex 46 0x4500002e000240004006a8190a000005c0a8c8019c400015000003e900001389501820009ea500004e4f4f510d0a)
    (passes (hex 40 0x45000028000240003f067cb8ac1009010a0000059c400015000003ee00001389501020001cf20000 ∷ []))
    ∷ []

abbrev repeat_that_differs_settings : Settings
repeat_that_differs_settings = set ([]) (pool 0xc0a8c801 0xc0a8c8fe) (pool 0xac100901 0xac1009fe)
    (fixed Left 0x0a000005 0xac100901 ∷ fixed Right 0x0a000005 0xc0a8c801 ∷ fixed Right 0x0a000035 0xc0a8c835 ∷ [])

repeat_that_differs_holds : found repeat_that_differs_settings repeat_that_differs ≡ wanted repeat_that_differs 0
unfolding frames_on_literals
repeat_that_differs_holds = refl

-- a repeated PORT line with another address is refused
abbrev repeat_of_changed_line_differs : List Row
repeat_of_changed_line_differs =
    frame Left 1000000000 Raw true (hex 44 0x4500002c000240004006a81b0a000005c0a8c8019c400015000003e80000000060022000453a0000020405b4)
    (passes (hex 44 0x4500002c000240003f067cb4ac1009010a0000059c400015000003e8000000006002200018d30000020405b4 ∷ []))
    ∷ frame Right 2000000000 Raw true (hex 44 0x4500002c0002400040067bb40a000005ac10090100159c4000001388000003e960122000053a0000020405b4)
    (passes (hex 44 0x4500002c000240003f06a91bc0a8c8010a00000500159c4000001388000003e96012200031a10000020405b4 ∷ []))
    ∷ frame Left 3000000000 Raw true (hex 40 0x45000028000240004006a81f0a000005c0a8c8019c400015000003e90000138950102000495e0000)
    (passes (hex 40 0x45000028000240003f067cb8ac1009010a0000059c400015000003e900001389501020001cf70000 ∷ []))
    ∷ frame Left 4000000000 Raw true
    (hex 56 0x4500003b000240004006a80c0a000005c0a8c8019c400015000003e9000013895018200051840000504f52542031302c302c302c352c342c
    ++ hex 3 0x310d0a)
    (passes ((hex 56 0x4500003d000240003f067ca3ac1009010a0000059c400015000003e90000138950182000e6e30000504f5254203137322c31362c392c312c
    ++ hex 5 0x342c310d0a) ∷ []))
    ∷ frame Left 5000000000 Raw true
    (hex 56 0x4500003b000240004006a80c0a000005c0a8c8019c400015000003e9000013895018200050840000504f52542031302c302c302c362c342c
    ++ hex 3 0x310d0a) (refused Unlike)
    ∷ []

abbrev repeat_of_changed_line_differs_settings : Settings
repeat_of_changed_line_differs_settings = set ([]) (pool 0xc0a8c801 0xc0a8c8fe) (pool 0xac100901 0xac1009fe)
    (fixed Left 0x0a000005 0xac100901 ∷ fixed Right 0x0a000005 0xc0a8c801 ∷ fixed Right 0x0a000035 0xc0a8c835 ∷ [])

repeat_of_changed_line_differs_holds : found repeat_of_changed_line_differs_settings repeat_of_changed_line_differs
    ≡ wanted repeat_of_changed_line_differs 1
unfolding frames_on_literals
repeat_of_changed_line_differs_holds = refl
