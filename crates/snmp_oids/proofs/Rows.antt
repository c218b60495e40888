-- Worked messages, computed.
use Rattle.std.proofs.Common.{◌≡◌, ℕ, ◌==◌, if◌then◌else◌, List, [], ◌∷◌, ◌++◌, take, drop, Option, Some, None, refl}
use Rattle.gate_base.specs.declared.rule.OidRule.{OidRule}
use Rattle.snmp_gateway.specs.Element.{element_at}
use Rattle.snmp_gateway.specs.Message.{message, outline_of, bindings_within, binding}
use Rattle.snmp_gateway.specs.Parts.{behind_fields, first_of}
use Rattle.snmp_oids.specs.Arcs.{numbers_from, named_in, arcs_of}
use Rattle.snmp_oids.specs.Identifier.{place_behind, identifier_renamed}
use Rattle.snmp_oids.specs.Elements.{elements_within, elements_renamed, oid_renamed}

-- 10.0.0.5 is known as 172.16.9.1, and 172.16.9.9 as 10.0.0.9
abbrev image : ℕ → Option ℕ
image address = if address == 0x0a000005 then Some 0xac100901 else if address == 0xac100909 then Some 0x0a000009 else None

-- the address follows 1.3.6.1.2.1.4.20.1 and one arc more
abbrev rules : List OidRule
rules = record { prefix = 1 ∷ 3 ∷ 6 ∷ 1 ∷ 2 ∷ 1 ∷ 4 ∷ 20 ∷ 1 ∷ []; skip = 1 } ∷ []

-- arcs, and content that has none: a sub-identifier begins with 0x80, is above 2 ^ 32 - 1, or doesn't end
arcs : arcs_of (43 ∷ 6 ∷ 129 ∷ 0 ∷ 143 ∷ 255 ∷ 255 ∷ 255 ∷ 127 ∷ []) ≡ Some (1 ∷ 3 ∷ 6 ∷ 128 ∷ 4294967295 ∷ [])
unfolding numbers_from
arcs = refl

first_arcs : arcs_of (136 ∷ 55 ∷ []) ≡ Some (2 ∷ 999 ∷ [])
unfolding numbers_from
first_arcs = refl

begins_with_128 : arcs_of (43 ∷ 128 ∷ 6 ∷ []) ≡ None
unfolding numbers_from
begins_with_128 = refl

too_great : arcs_of (43 ∷ 144 ∷ 128 ∷ 128 ∷ 128 ∷ 0 ∷ []) ≡ None
unfolding numbers_from
too_great = refl

endless : arcs_of (43 ∷ 129 ∷ []) ≡ None
unfolding numbers_from
endless = refl

-- an arc of 256 makes no address
no_address : named_in rules (43 ∷ 6 ∷ 1 ∷ 2 ∷ 1 ∷ 4 ∷ 20 ∷ 1 ∷ 1 ∷ 130 ∷ 0 ∷ 0 ∷ 0 ∷ 5 ∷ []) ≡ None
unfolding numbers_from
no_address = refl

grows : identifier_renamed image rules (43 ∷ 6 ∷ 1 ∷ 2 ∷ 1 ∷ 4 ∷ 20 ∷ 1 ∷ 1 ∷ 10 ∷ 0 ∷ 0 ∷ 5 ∷ 7 ∷ []) ≡ 43 ∷ 6 ∷ 1 ∷ 2 ∷ 1 ∷ 4 ∷ 20 ∷ 1 ∷ 1 ∷ 129
    ∷ 44 ∷ 16 ∷ 9 ∷ 1 ∷ 7 ∷ []
unfolding numbers_from place_behind
grows = refl

-- a binding: its name shrinks, so its lengths, which stood in a longer form, are the shortest; that of the value stays
shrinks : elements_renamed image rules
    (48 ∷ 130 ∷ 0 ∷ 24 ∷ 6 ∷ 129 ∷ 14 ∷ 43 ∷ 6 ∷ 1 ∷ 2 ∷ 1 ∷ 4 ∷ 20 ∷ 1 ∷ 1 ∷ 129 ∷ 44 ∷ 16 ∷ 9 ∷ 9 ∷ 64 ∷ 129 ∷ 4 ∷ 10 ∷ 0 ∷ 0 ∷ 5 ∷ []) ≡ 48 ∷ 22
    ∷ 6 ∷ 13 ∷ 43 ∷ 6 ∷ 1 ∷ 2 ∷ 1 ∷ 4 ∷ 20 ∷ 1 ∷ 1 ∷ 10 ∷ 0 ∷ 0 ∷ 9 ∷ 64 ∷ 129 ∷ 4 ∷ 172 ∷ 16 ∷ 9 ∷ 1 ∷ []
unfolding numbers_from place_behind elements_within element_at
shrinks = refl

abbrev before : List ℕ
before = 48 ∷ 44 ∷ 2 ∷ 1 ∷ 0 ∷ 4 ∷ 6 ∷ 112 ∷ 117 ∷ 98 ∷ 108 ∷ 105 ∷ 99 ∷ 162 ∷ 31 ∷ 2 ∷ 1 ∷ 1 ∷ 2 ∷ 1 ∷ 0 ∷ 2 ∷ 1 ∷ 0 ∷ 48 ∷ 20 ∷ 48 ∷ 18 ∷ 6 ∷ 13
    ∷ 43 ∷ 6 ∷ 1 ∷ 2 ∷ 1 ∷ 4 ∷ 20 ∷ 1 ∷ 2 ∷ 10 ∷ 0 ∷ 0 ∷ 5 ∷ 2 ∷ 1 ∷ 3 ∷ []

-- a response whose name holds 10.0.0.5, and what it becomes: an octet more, and so each length around the name
response : oid_renamed image rules before ≡ 48 ∷ 45 ∷ 2 ∷ 1 ∷ 0 ∷ 4 ∷ 6 ∷ 112 ∷ 117 ∷ 98 ∷ 108 ∷ 105 ∷ 99 ∷ 162 ∷ 32 ∷ 2 ∷ 1 ∷ 1 ∷ 2 ∷ 1 ∷ 0 ∷ 2 ∷ 1
    ∷ 0 ∷ 48 ∷ 21 ∷ 48 ∷ 19 ∷ 6 ∷ 14 ∷ 43 ∷ 6 ∷ 1 ∷ 2 ∷ 1 ∷ 4 ∷ 20 ∷ 1 ∷ 2 ∷ 129 ∷ 44 ∷ 16 ∷ 9 ∷ 1 ∷ 2 ∷ 1 ∷ 3 ∷ []
unfolding numbers_from place_behind elements_within element_at message outline_of bindings_within binding behind_fields first_of
response = refl

-- with no rule it is kept
without_rule : oid_renamed image [] before ≡ before
unfolding numbers_from place_behind elements_within element_at message outline_of bindings_within binding behind_fields first_of
without_rule = refl

-- and so is one whose name holds 10.0.0.9, which has no image
kept : let other = take 42 before ++ 9 ∷ drop 43 before in oid_renamed image rules other ≡ other
unfolding numbers_from place_behind elements_within element_at message outline_of bindings_within binding behind_fields first_of
kept = refl
