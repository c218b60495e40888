-- Worked cases, computed: whole frames, the verdict on each and the datagrams that go out. Written by tools/model_cases.py.
use Rattle.std.proofs.Common.{◌++◌, ◌≡◌, true, List, [], ◌∷◌, refl}
use Rattle.gate_base.specs.declared.side.Link.TheVariants.{Raw}
use Rattle.gate_base.specs.declared.side.Side.TheVariants.{Left, Right}
use Rattle.gate_settings.specs.declared.settings.Settings.{Settings}
use Rattle.gate_model.proofs.RowWords.{Row, hex, fixed, pool, rule, set, with_rules, frame, passes, found, wanted}
use Rattle.gate_model.proofs.OnLiterals.{frames_on_literals}

-- an address inside an object identifier is renamed
abbrev snmp_identifier_renamed : List Row
snmp_identifier_renamed =
    frame Left 1000000000 Raw true
    (hex 56 0x4500004a000140004011a7f30a000005c0a8c80100a19c4200367f8a302c02010004067075626c6963a21f02010102010002010030143012
    ++ hex 18 0x060d2b06010201041401020a000005020103)
    (passes ((hex 56 0x4500004b000140003f117c8bac1009010a00000500a19c4200371d99302d02010004067075626c6963a22002010102010002010030153013
    ++ hex 19 0x060e2b0601020104140102812c100901020103) ∷ []))
    ∷ frame Left 2000000000 Raw true
    (hex 56 0x4500004a000140004011a7f30a000005c0a8c80100a19c4200367b8a302c02010004067075626c6963a21f02010102010002010030143012
    ++ hex 18 0x060d2b06010201041401020a000009020103)
    (passes ((hex 56 0x4500004a000140003f117c8cac1009010a00000500a19c4200364f23302c02010004067075626c6963a21f02010102010002010030143012
    ++ hex 18 0x060d2b06010201041401020a000009020103) ∷ []))
    ∷ []

abbrev snmp_identifier_renamed_settings : Settings
snmp_identifier_renamed_settings = with_rules (rule (1 ∷ 3 ∷ 6 ∷ 1 ∷ 2 ∷ 1 ∷ 4 ∷ 20 ∷ 1 ∷ []) 1 ∷ [])
    (set ([]) (pool 0xc0a8c801 0xc0a8c8fe) (pool 0xac100901 0xac1009fe)
    (fixed Left 0x0a000005 0xac100901 ∷ fixed Right 0x0a000005 0xc0a8c801 ∷ fixed Right 0x0a000035 0xc0a8c835 ∷ []))

snmp_identifier_renamed_holds : found snmp_identifier_renamed_settings snmp_identifier_renamed ≡ wanted snmp_identifier_renamed 0
unfolding frames_on_literals
snmp_identifier_renamed_holds = refl

-- an identifier with an alias, from the other side
abbrev edge_oid_from_the_right : List Row
edge_oid_from_the_right =
    frame Left 1000000000 Raw true
    (hex 56 0x4500004c000140004011a7f10a000005c0a8c8019c4200a10038cd08302e02010104067075626c6963a12102010102010002010030163014
    ++ hex 20 0x06102b0601020104140101814081288148010500)
    (passes ((hex 56 0x45000049000140003f117c8dac1009010a0000059c4200a100355529302b02010104067075626c6963a11e02010102010002010030133011
    ++ hex 17 0x060d2b06010201041401010a0000050500) ∷ []))
    ∷ frame Right 2000000000 Raw true
    (hex 56 0x450000490001400040117b8d0a000005ac10090100a19c4200355528302b02010104067075626c6963a21e02010102010002010030133011
    ++ hex 17 0x060d2b06010201041401010a0000050500)
    (passes ((hex 56 0x4500004c000140003f11a8f1c0a8c8010a00000500a19c420038cd07302e02010104067075626c6963a22102010102010002010030163014
    ++ hex 20 0x06102b0601020104140101814081288148010500) ∷ []))
    ∷ []

abbrev edge_oid_from_the_right_settings : Settings
edge_oid_from_the_right_settings = with_rules (rule (1 ∷ 3 ∷ 6 ∷ 1 ∷ 2 ∷ 1 ∷ 4 ∷ 20 ∷ 1 ∷ []) 1 ∷ [])
    (set ([]) (pool 0xc0a8c801 0xc0a8c8fe) (pool 0xac100901 0xac1009fe)
    (fixed Left 0x0a000005 0xac100901 ∷ fixed Right 0x0a000005 0xc0a8c801 ∷ fixed Right 0x0a000035 0xc0a8c835 ∷ []))

edge_oid_from_the_right_holds : found edge_oid_from_the_right_settings edge_oid_from_the_right ≡ wanted edge_oid_from_the_right 0
unfolding frames_on_literals
edge_oid_from_the_right_holds = refl
