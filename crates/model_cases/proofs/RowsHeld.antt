-- Further worked cases, computed: whole frames, the verdict on each and the datagrams that go out.
use Rattle.std.proofs.Common.{◌++◌, ◌≡◌, true, List, [], ◌∷◌, refl}
use Rattle.verdicts.specs.declared.refusal.Refusal.TheVariants.{BadDns, NoSession, PoolEmpty, TtlSpent}
use Rattle.gate_base.specs.declared.side.Link.TheVariants.{Raw}
use Rattle.gate_base.specs.declared.side.Side.TheVariants.{Left, Right}
use Rattle.gate_settings.specs.declared.settings.Settings.{Settings}
use Rattle.gate_model.proofs.RowWords.{Row, hex, fixed, pool, set, frame, passes, refused, found, wanted}
use Rattle.gate_model.proofs.OnLiterals.{frames_on_literals}

-- how long each kind of payload keeps a binding: DNS and SNMP as other UDP, an ICMP error as an echo
abbrev payload_lasts : List Row
payload_lasts =
    frame Left 1000000000 Raw true (hex 40 0x45000028000100004011e8140a000006c0a8c8010fa0003500145c40000101000000000000000000)
    (passes (hex 40 0x45000028000100003f11bcaeac1009010a0000050fa0003500142fda000101000000000000000000 ∷ []))
    ∷ frame Left 300999999999 Raw true (hex 30 0x4500001e000100004011e81d0a000007c0a8c8010fa11389000ae1956869) (refused PoolEmpty)
    ∷ frame Left 301000000000 Raw true
    (hex 56 0x45000041000100004011e7fa0a000007c0a8c80100a100a2002d3825302302010004067075626c6963a41606032b060140040a0000070201
    ++ hex 9 0x060201014301003000)
    (passes ((hex 56 0x45000041000100003f11bc95ac1009010a00000500a100a2002d60b5302302010004067075626c6963a41606032b06014004ac1009010201
    ++ hex 9 0x060201014301003000) ∷ []))
    ∷ frame Left 600999999999 Raw true (hex 30 0x4500001e000100004011e81e0a000006c0a8c8010fa11389000ae1966869) (refused PoolEmpty)
    ∷ frame Left 601000000000 Raw true (hex 30 0x4500001e000100004001e82e0a000006c0a8c80108008f94000100016869)
    (passes (hex 30 0x4500001e000100003f01bcc8ac1009010a00000508008f94000100016869 ∷ []))
    ∷ frame Left 660000000000 Raw true
    (hex 56 0x45000038000100004001e8140a000006c0a8c8010303f831000000004500001e000100003f11e91ec0a8c8010a00000613880fa0000ae198)
    (passes (hex 56 0x45000038000100003f01bcaeac1009010a0000050303f831000000004500001e000100003f11bcb80a000005ac10090113880fa0000ae198 ∷ []))
    ∷ frame Left 719999999999 Raw true (hex 30 0x4500001e000100004011e81d0a000007c0a8c8010fa11389000ae1956869) (refused PoolEmpty)
    ∷ frame Left 720000000000 Raw true (hex 30 0x4500001e000100004011e81d0a000007c0a8c8010fa11389000ae1956869)
    (passes (hex 30 0x4500001e000100003f11bcb8ac1009010a0000050fa11389000ab5306869 ∷ []))
    ∷ []

abbrev payload_lasts_settings : Settings
payload_lasts_settings = set ([]) (pool 0xc0a8c801 0xc0a8c8fe) (pool 0xac100901 0xac100901) (fixed Right 0x0a000005 0xc0a8c801 ∷ [])

payload_lasts_holds : found payload_lasts_settings payload_lasts ≡ wanted payload_lasts 0
unfolding frames_on_literals
payload_lasts_holds = refl

-- a frame that is refused takes no alias and keeps none longer
abbrev refused_leaves : List Row
refused_leaves =
    frame Left 1000000000 Raw true (hex 30 0x4500001e000100000111271f0a000006c0a8c8010fa11389000ae1966869) (refused TtlSpent)
    ∷ frame Left 2000000000 Raw true (hex 30 0x4500001e000100004011e81d0a000007c0a8c8010fa11389000ae1956869)
    (passes (hex 30 0x4500001e000100003f11bcb8ac1009010a0000050fa11389000ab5306869 ∷ []))
    ∷ frame Left 200000000000 Raw true (hex 30 0x4500001e000100000111271e0a000007c0a8c8010fa11389000ae1956869) (refused TtlSpent)
    ∷ frame Left 301999999999 Raw true (hex 30 0x4500001e000100004011e81e0a000006c0a8c8010fa11389000ae1966869) (refused PoolEmpty)
    ∷ frame Left 302000000000 Raw true (hex 30 0x4500001e000100004011e81e0a000006c0a8c8010fa11389000ae1966869)
    (passes (hex 30 0x4500001e000100003f11bcb8ac1009010a0000050fa11389000ab5306869 ∷ []))
    ∷ []

abbrev refused_leaves_settings : Settings
refused_leaves_settings = set ([]) (pool 0xc0a8c801 0xc0a8c8fe) (pool 0xac100901 0xac100901) (fixed Right 0x0a000005 0xc0a8c801 ∷ [])

refused_leaves_holds : found refused_leaves_settings refused_leaves ≡ wanted refused_leaves 0
unfolding frames_on_literals
refused_leaves_holds = refl

-- the addresses of a datagram come before those that its message names, and all of them must find an alias; a pool with none left is the last of the reasons
abbrev names_come_last : List Row
names_come_last =
    frame Left 1000000000 Raw true
    (hex 56 0x45000046000100004011e7f60a000006c0a8c80100350fa00032a54a000181800000000200000000000001000100000e1000040a00000800
    ++ hex 14 0x0001000100000e1000040a000009) (refused PoolEmpty)
    ∷ frame Left 2000000000 Raw true
    (hex 55 0x45000037000100004011e8050a000006c0a8c80100350fa00023bd88000181800000000100000000000001000100000e1000040a000008)
    (passes (hex 55 0x45000037000100003f11bc9fac1009010a00000500350fa0002396850001818000000001000000000000010001000000000004ac100902 ∷ []))
    ∷ frame Left 3000000000 Raw true (hex 30 0x4500001e000100004011e81b0a000009c0a8c80100350fa0000af4e86869) (refused BadDns)
    ∷ frame Left 4000000000 Raw true (hex 40 0x45000028000100004006e81c0a000009c0a8c8019c400015000003e800000000501020005ce40000) (refused NoSession)
    ∷ []

abbrev names_come_last_settings : Settings
names_come_last_settings = set ([]) (pool 0xc0a8c801 0xc0a8c8fe) (pool 0xac100901 0xac100902) (fixed Right 0x0a000005 0xc0a8c801 ∷ [])

names_come_last_holds : found names_come_last_settings names_come_last ≡ wanted names_come_last 0
unfolding frames_on_literals
names_come_last_holds = refl
