-- The keys of a document, in the order of testing.
use Rattle.std.specs.Prelude.{ℕ, ℤ, pos, negsuc, ◌+◌, nat_le, Bool, true, false, ◌&&◌, nat_lt, if◌then◌else◌, List, [], ◌∷◌, length, Option, Some, None, is_some, is_none, ◌||◌, unwrap_or, ok_or, option_and_then, Ok, Err}
use Rattle.std.specs.Str.{is_utf8}
use Rattle.toml.specs.Data.{Data, Items, no_items, item, Members, get_member, as_str, as_integer, as_array, as_table}
use Rattle.toml.specs.Parse.{parse_document}
use Rattle.gate_base.specs.declared.address.Addr.{Addr}
use Rattle.gate_base.specs.declared.rule.OidRule.{OidRule}
use Rattle.gate_base.specs.declared.side.Link.{Link as LinkKind}
use Rattle.gate_base.specs.declared.side.Link.TheVariants.{Ethernet, Raw}
use Rattle.gate_base.specs.declared.side.Side.{Side}
use Rattle.gate_base.specs.declared.side.Side.TheVariants.{Left, Right}
use Rattle.settings_file.specs.declared.document.TheConstants.{LONGEST_SETTINGS}
use Rattle.settings_file.specs.declared.key.Key.{Key}
use Rattle.settings_file.specs.declared.key.Key.TheVariants.{Report, Fragments, Same, Table, PoolFirst, PoolLast, Link, GatewayMac, NextMac, Statics, StaticSide, StaticHost, StaticAlias, Oids, OidPrefix, OidSkip}
use Rattle.settings_file.specs.declared.fault.SettingsFault.{SettingsFault}
use Rattle.settings_file.specs.declared.fault.SettingsFault.TheVariants.{TooLong, NotToml, Missing, Kind, BadAddress}
use Rattle.gate_settings.specs.declared.settings.Block.{Block}
use Rattle.gate_settings.specs.declared.settings.Fixed.{Fixed}
use Rattle.gate_settings.specs.declared.settings.ReportForm.{ReportForm}
use Rattle.gate_settings.specs.declared.settings.ReportForm.TheVariants.{Text}
use Rattle.settings_file.specs.declared.given.GivenSide.{GivenSide}
use Rattle.settings_file.specs.declared.given.Given.{Given}
use Rattle.settings_file.specs.Keys.{name_of}
use Rattle.settings_file.specs.Firsts.{◌>>=◌, Found}
use Rattle.settings_file.specs.Texts.{report_text, join_text, link_text, side_text, address_text, block_text, mac_text}
use Rattle.settings_file.specs.Prefixes.{prefix_text}

-- ## Kinds of values

-- a text
abbrev pub text : Key → Data → Found (List ℕ)
text key value = ok_or (as_str value) (Kind key)

-- a text that spells something, and the fault of one that doesn't
abbrev pub spelled : {A : Type 0} → (List ℕ → Option A) → (Key → SettingsFault) → Key → Data → Found A
spelled spell fault key value = do
  words ← text key value
  ok_or (spell words) (fault key)

-- the form of the report
unfoldable pub report : Key → Data → Found ReportForm
report = spelled report_text Kind

-- whether fragments are joined
unfoldable pub join : Key → Data → Found Bool
join = spelled join_text Kind

-- what the frames of a realm are
unfoldable pub link : Key → Data → Found LinkKind
link = spelled link_text Kind

-- a realm
unfoldable pub side : Key → Data → Found Side
side = spelled side_text Kind

-- the six octets of a MAC address
unfoldable pub mac : Key → Data → Found (List ℕ)
mac = spelled mac_text Kind

-- the same, as one that is given
abbrev pub given_mac : Key → Data → Found (Option (List ℕ))
given_mac key value = do
  octets ← mac key value
  Ok (Some octets)

-- the address of a host
unfoldable pub address : Key → Data → Found Addr
address = spelled address_text BadAddress

-- a block of addresses
unfoldable pub block : Key → Data → Found Block
block = spelled block_text BadAddress

-- the arcs with which object identifiers begin
unfoldable pub prefix : Key → Data → Found (List ℕ)
prefix = spelled prefix_text Kind

-- a whole number from 0 to 127
abbrev pub few : ℤ → Option ℕ
few (pos number) = if nat_le number 127 then Some number else None
few (negsuc _) = None

-- how many arcs are skipped
unfoldable pub skip : Key → Data → Found ℕ
skip key value = ok_or (option_and_then few (as_integer value)) (Kind key)

-- an array
abbrev pub array : Key → Data → Found Items
array key value = ok_or (as_array value) (Kind key)

-- whether all values of an array are of a kind
abbrev pub are_all : (Data → Bool) → Items → Bool
are_all is_kind no_items = true
are_all is_kind (item value values) = is_kind value && are_all is_kind values

-- what the values of an array stand for, each read in turn with its number from n
abbrev pub each : {A : Type 0} → (ℕ → Data → Found A) → ℕ → Items → Found (List A)
each read n no_items = Ok []
each read n (item value values) = do
  first ← read n value
  others ← each read (n + 1) values
  Ok (first ∷ others)

-- an array whose values are all of one kind, which is tested before any value is read
abbrev pub array_of : {A : Type 0} → (Data → Bool) → (ℕ → Data → Found A) → Key → Data → Found (List A)
array_of is_kind read key value = do
  values ← array key value
  if are_all is_kind values then each read 1 values else Err (Kind key)

-- whether a value is a text
abbrev pub is_text : Data → Bool
is_text value = is_some (as_str value)

-- whether a value is a table
abbrev pub is_table : Data → Bool
is_table value = is_some (as_table value)

-- an array of blocks
unfoldable pub blocks : Key → Data → Found (List Block)
blocks = array_of is_text (λ n value. block Same value)

-- a table
abbrev pub table : Key → Data → Found Members
table key value = ok_or (as_table value) (Kind key)

-- ## Keys that must be there, and keys that need not

-- a key that must be there
abbrev pub needed : {A : Type 0} → (Key → Data → Found A) → Key → Members → Found A
needed read key members = do
  value ← ok_or (get_member (name_of key) members) (Missing key)
  read key value

-- a value, or what stands for none
abbrev pub read_or : {A : Type 0} → (Data → Found A) → A → Option Data → Found A
read_or read default None = Ok default
read_or read default (Some value) = read value

-- a key that may be missing, and what it then stands for
abbrev pub optional : {A : Type 0} → (Key → Data → Found A) → A → Key → Members → Found A
optional read default key members = read_or (read key) default (get_member (name_of key) members)

-- ## The keys

-- whether the frames are Ethernet
abbrev pub is_ethernet : LinkKind → Bool
is_ethernet Ethernet = true
is_ethernet Raw = false

-- what stands for a MAC address that isn't given
abbrev pub zeros : List ℕ
zeros = 0 ∷ 0 ∷ 0 ∷ 0 ∷ 0 ∷ 0 ∷ []

-- the keys of a realm's table
unfoldable pub side_keys : Side → Members → Found GivenSide
side_keys side members = do
  first ← needed address (PoolFirst side) members
  last ← needed address (PoolLast side) members
  link ← needed link (Link side) members
  gateway ← optional given_mac None (GatewayMac side) members
  next ← optional given_mac None (NextMac side) members
  Ok (record {
    settings = record { first = first; last = last; link = link; gateway_mac = unwrap_or gateway zeros; next_mac = unwrap_or next zeros };
    lacks_mac = is_ethernet link && (is_none gateway || is_none next);
  })

-- the keys of an entry of `static`
unfoldable pub static_keys : ℕ → Members → Found Fixed
static_keys n members = do
  side ← needed side (StaticSide n) members
  host ← needed address (StaticHost n) members
  alias ← needed address (StaticAlias n) members
  Ok (record { side = side; host = host; alias = alias })

-- an entry of `static`
unfoldable pub static_entry : ℕ → Data → Found Fixed
static_entry n value = do
  members ← table Statics value
  static_keys n members

-- an array of entries
unfoldable pub statics : Key → Data → Found (List Fixed)
statics = array_of is_table static_entry

-- the keys of an entry of `oid`
unfoldable pub oid_keys : ℕ → Members → Found OidRule
oid_keys n members = do
  prefix ← needed prefix (OidPrefix n) members
  skip ← needed skip (OidSkip n) members
  Ok (record { prefix = prefix; skip = skip })

-- an entry of `oid`
unfoldable pub oid_entry : ℕ → Data → Found OidRule
oid_entry n value = do
  members ← table Oids value
  oid_keys n members

-- an array of entries
unfoldable pub oids : Key → Data → Found (List OidRule)
oids = array_of is_table oid_entry

-- a realm's table
unfoldable pub side_table : Side → Members → Found GivenSide
side_table side document = do
  members ← needed table (Table side) document
  side_keys side members

-- the keys at the top of a document
unfoldable pub all_keys : Members → Found Given
all_keys document = do
  report ← optional report Text Report document
  join ← optional join false Fragments document
  same ← optional blocks [] Same document
  left ← side_table Left document
  right ← side_table Right document
  statics ← optional statics [] Statics document
  oids ← optional oids [] Oids document
  Ok (record {
    settings = record { report = report; join = join; same = same; left = left.settings; right = right.settings; statics = statics; oids = oids };
    left_lacks_mac = left.lacks_mac;
    right_lacks_mac = right.lacks_mac;
  })

-- the table that octets are, if they are UTF-8 and TOML
unfoldable pub document_of : List ℕ → Option Members
document_of octets = if is_utf8 octets then parse_document octets else None

-- the keys of octets, or the first fault in them
unfoldable pub keys_of : List ℕ → Found Given
keys_of octets =
    if nat_lt LONGEST_SETTINGS (length octets) then Err TooLong else do
      document ← ok_or (document_of octets) NotToml
      all_keys document
