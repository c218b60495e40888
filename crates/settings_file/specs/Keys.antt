-- The names of the keys.
use Rattle.std.specs.Prelude.{ℕ, List, ◌++◌, codes, decimal}
use Rattle.gate_base.specs.Side as sides
use Rattle.gate_base.specs.declared.side.Side.{Side}
use Rattle.settings_file.specs.declared.key.Key.{Key}
use Rattle.settings_file.specs.declared.key.Key.TheVariants.{Report, Fragments, Same, Table, PoolFirst, PoolLast, Link, GatewayMac, NextMac, Statics, StaticSide, StaticHost, StaticAlias, Oids, OidPrefix, OidSkip}

-- a key as it stands in its own table
unfoldable pub name_of : Key → List ℕ
name_of Report = codes "report"
name_of Fragments = codes "fragments"
name_of Same = codes "same"
name_of (Table side) = sides.name_of side
name_of (PoolFirst side) = codes "pool_first"
name_of (PoolLast side) = codes "pool_last"
name_of (Link side) = codes "link"
name_of (GatewayMac side) = codes "gateway_mac"
name_of (NextMac side) = codes "next_mac"
name_of Statics = codes "static"
name_of (StaticSide n) = codes "side"
name_of (StaticHost n) = codes "host"
name_of (StaticAlias n) = codes "alias"
name_of Oids = codes "oid"
name_of (OidPrefix n) = codes "prefix"
name_of (OidSkip n) = codes "skip"

-- a key of a realm's table, from the top of the document
abbrev pub in_side : Side → Key → List ℕ
in_side side key = sides.name_of side ++ codes "." ++ name_of key

-- a key of an entry of `static`, from the top of the document
abbrev pub in_static : ℕ → Key → List ℕ
in_static n key = codes "static." ++ decimal n ++ codes "." ++ name_of key

-- a key of an entry of `oid`, from the top of the document
abbrev pub in_oid : ℕ → Key → List ℕ
in_oid n key = codes "oid." ++ decimal n ++ codes "." ++ name_of key

-- a key from the top of the document
unfoldable pub key_text : Key → List ℕ
key_text (PoolFirst side) = in_side side (PoolFirst side)
key_text (PoolLast side) = in_side side (PoolLast side)
key_text (Link side) = in_side side (Link side)
key_text (GatewayMac side) = in_side side (GatewayMac side)
key_text (NextMac side) = in_side side (NextMac side)
key_text (StaticSide n) = in_static n (StaticSide n)
key_text (StaticHost n) = in_static n (StaticHost n)
key_text (StaticAlias n) = in_static n (StaticAlias n)
key_text (OidPrefix n) = in_oid n (OidPrefix n)
key_text (OidSkip n) = in_oid n (OidSkip n)
key_text key = name_of key
