-- Settings that octets give have their forms.
use Rattle.std.proofs.Common.{◌≡◌, ◌≤◌, ℕ, ℤ, pos, negsuc, option_and_then, ◌+◌, ◌-◌, ◌^◌, ◌%◌, ◌==◌, nat_le, Bool, true, false, ◌&&◌}
use Rattle.std.proofs.Common.{if◌then◌else◌, List, [], ◌∷◌, Option, Some, None, Ok, Err, refl, arith, All, IfOk, IfSome, ok_or, unwrap_or, length}
use Rattle.std.proofs.Common.{nat_lt}
use Rattle.std.proofs.lemmas.Bool.Decides.{nat_tests}
use Rattle.std.proofs.lemmas.List.Elements.{All-from_recursion, All-nil}
use Rattle.std.proofs.lemmas.List.Sums.{list_all-from_AllPass}
use Rattle.std.specs.List.{AllByRecursion}
use Rattle.toml.specs.Data.{Data, Items, no_items, item, Members, get_member, as_integer}
use Rattle.gate_base.specs.Address as addresses
use Rattle.gate_base.specs.Prelude.{quad, number_of, cut_at, is_unicast_number, is_prefix, is_rule}
use Rattle.gate_base.specs.declared.rule.OidRule.{OidRule}
use Rattle.settings_file.specs.declared.key.Key.{Key}
use Rattle.settings_file.specs.declared.fault.SettingsFault.{SettingsFault}
use Rattle.settings_file.specs.Firsts.{◌>>=◌, Found}
use Rattle.gate_settings.specs.Prelude.{HasMacAddresses, HaveMacAddresses, HasUnicastPool, HasForms}
use Rattle.gate_settings.specs.Forms.{IsBlock, IsUnicast, IsUnicastPair}
use Rattle.gate_settings.specs.declared.settings.ReportForm.TheVariants.{Text}
use Rattle.settings_file.specs.Texts.{address_text, block_text, hex_pair, has_colons, six_pairs, mac_text}
use Rattle.settings_file.specs.Prefixes.{arcs_text, prefix_text}
use Rattle.settings_file.specs.Document as document
use Rattle.settings_file.specs.Keys.{name_of}
use Rattle.settings_file.specs.declared.fault.SettingsFault.TheVariants.{TooLong, NotToml, Kind}
use Rattle.settings_file.specs.declared.given.Given.{Given}
use Rattle.settings_file.specs.declared.given.GivenSide.{GivenSide}
use Rattle.settings_file.specs.declared.key.Key.TheVariants.{Table, Same, Statics, StaticSide, StaticHost, StaticAlias, PoolFirst, PoolLast}
use Rattle.settings_file.specs.declared.key.Key.TheVariants.{Link, GatewayMac, NextMac, Oids, OidPrefix, OidSkip, Report, Fragments}
use Rattle.gate_base.specs.declared.side.Side.{Side}
use Rattle.gate_base.specs.declared.side.Side.TheVariants.{Left, Right}

-- ## Texts

bind : {A B : Type 0} (P : B → Type 0) (o : Option A) (f : A → Option B) → ((x : A) → IfSome (f x) P) → IfSome (addresses.◌>>=◌ o f) P
bind P None f h = tt
bind P (Some x) f h = h x

guarded : {A : Type 0} (P : A → Type 0) (test : Bool) (o : Option A) → (test ≡ true → IfSome o P) → IfSome (if test then o else None) P
guarded P true o h = h refl
guarded P false o h = tt

pub unicast : (text : List ℕ) → IfSome (address_text text) IsUnicast
unfolding address_text
unicast text = bind IsUnicast (quad text) _ (λ number. guarded IsUnicast (is_unicast_number number) _ (λ yes. yes))

block_is : (base bits : ℕ) → (nat_le bits 32 && base % 2 ^ (32 - bits) == 0) ≡ true → IsBlock (record { base = record { 0 = base }; bits = bits })
block_is base bits h =
    let within : bits ≤ 32 = grind (arith, nat_tests) in
    let rest : base % 2 ^ (32 - bits) ≡ 0 = grind (arith, nat_tests) in
    record { bits = within; rest = rest }

pub block_form : (text : List ℕ) → IfSome (block_text text) IsBlock
unfolding block_text
block_form text =
    bind IsBlock (cut_at 47 text) _ (λ parts. bind IsBlock (quad parts.0) _ (λ base. bind IsBlock (number_of parts.1) _ (λ bits.
    guarded IsBlock (nat_le bits 32 && base % 2 ^ (32 - bits) == 0) _ (block_is base bits))))

abbrev IsPrefix : List ℕ → Type 0
IsPrefix arcs = is_prefix arcs ≡ true

pub prefix_form : (text : List ℕ) → IfSome (prefix_text text) IsPrefix
unfolding prefix_text
prefix_form text = bind IsPrefix (arcs_text 64 text) _ (λ arcs. guarded IsPrefix (is_prefix arcs) _ (λ yes. yes))

abbrev HasSix : List ℕ → Type 0
HasSix octets = length octets ≡ 6

mac_form : (text : List ℕ) → IfSome (mac_text text) HasSix
unfolding mac_text
mac_form text = guarded HasSix (length text == 17 && has_colons text) (six_pairs text) (λ yes.
    bind HasSix (hex_pair text 0) _ (λ a. bind HasSix (hex_pair text 3) _ (λ b. bind HasSix (hex_pair text 6) _ (λ c.
    bind HasSix (hex_pair text 9) _ (λ d. bind HasSix (hex_pair text 12) _ (λ e. bind HasSix (hex_pair text 15) _ (λ f. refl)))))))

-- ## Values

found : {A : Type 0} (P : A → Type 0) (o : Option A) (fault : SettingsFault) → IfSome o P → IfOk (ok_or o fault) P
found P None fault h = tt
found P (Some x) fault h = h

given : {A B : Type 0} (Q : A → Type 0) (P : B → Type 0) (first : Found A) (f : A → Found B) → IfOk first Q → ((x : A) → Q x → IfOk (f x) P)
    → IfOk (first >>= f) P
given Q P (Ok x) f q h = h x q
given Q P (Err e) f q h = tt

after : {A B : Type 0} (P : B → Type 0) (first : Found A) (f : A → Found B) → ((x : A) → IfOk (f x) P) → IfOk (first >>= f) P
after P (Ok x) f h = h x
after P (Err e) f h = tt

spelled : {A : Type 0} (P : A → Type 0) (spell : List ℕ → Option A) (fault : Key → SettingsFault) → ((text : List ℕ) → IfSome (spell text) P)
    → (key : Key) (value : Data) → IfOk (document.spelled spell fault key value) P
spelled P spell fault h key value =
    after P (document.text key value) (λ words. ok_or (spell words) (fault key)) (λ words. found P (spell words) (fault key) (h words))

address : (key : Key) (value : Data) → IfOk (document.address key value) IsUnicast
unfolding document.address
address = spelled IsUnicast address_text _ unicast

block : (key : Key) (value : Data) → IfOk (document.block key value) IsBlock
unfolding document.block
block = spelled IsBlock block_text _ block_form

mac : (key : Key) (value : Data) → IfOk (document.mac key value) HasSix
unfolding document.mac
mac = spelled HasSix mac_text _ mac_form

-- it has six octets, or so have the zeros in its place
abbrev GivesSix : Option (List ℕ) → Type 0
GivesSix given = HasSix (unwrap_or given document.zeros)

given_mac : (key : Key) (value : Data) → IfOk (document.given_mac key value) GivesSix
given_mac key value = given HasSix GivesSix (document.mac key value) _ (mac key value) (λ octets six. six)

prefix : (key : Key) (value : Data) → IfOk (document.prefix key value) IsPrefix
unfolding document.prefix
prefix = spelled IsPrefix prefix_text _ prefix_form

abbrev IsFew : ℕ → Type 0
IsFew number = nat_le number 127 ≡ true

skip : (key : Key) (value : Data) → IfOk (document.skip key value) IsFew
unfolding document.skip
skip key value = found IsFew _ _ (from (as_integer value))
  where
    from : (o : Option ℤ) → IfSome (option_and_then document.few o) IsFew
    from None = tt
    from (Some (pos number)) = guarded IsFew (nat_le number 127) _ (λ yes. yes)
    from (Some (negsuc number)) = tt

-- ## Keys

needed : {A : Type 0} (P : A → Type 0) (read : Key → Data → Found A) → ((key : Key) (value : Data) → IfOk (read key value) P)
    → (key : Key) (table : Members) → IfOk (document.needed read key table) P
needed P read h key table = after P _ (read key) (h key)

optional : {A : Type 0} (P : A → Type 0) (read : Key → Data → Found A) (default : A) → P default
    → ((key : Key) (value : Data) → IfOk (read key value) P) → (key : Key) (members : Members) → IfOk (document.optional read default key members) P
optional P read default base h key members = from (get_member (name_of key) members)
  where
    from : (o : Option Data) → IfOk (document.read_or (read key) default o) P
    from None = base
    from (Some value) = h key value

each : {A : Type 0} (P : A → Type 0) (read : ℕ → Data → Found A) → ((n : ℕ) (value : Data) → IfOk (read n value) P) → (n : ℕ) (values : Items)
    → IfOk (document.each read n values) (AllByRecursion P)
each P read h n no_items = tt
each P read h n (item value values) = both (read n value) (document.each read (n + 1) values) (h n value) (each P read h (n + 1) values)
  where
    both : (first : Found _) (others : Found (List _)) → IfOk first P → IfOk others (AllByRecursion P)
        → IfOk (first >>= (λ x. others >>= (λ xs. Ok (x ∷ xs)))) (AllByRecursion P)
    both (Ok x) (Ok xs) p ps = (p, ps)
    both (Ok x) (Err e) p ps = tt
    both (Err e) others p ps = tt

chosen : {A : Type 0} (P : A → Type 0) (test : Bool) (all : Found (List A)) (fault : SettingsFault) → IfOk all (AllByRecursion P)
    → IfOk (if test then all else Err fault) (All P)
chosen P true (Ok xs) fault h = All-from_recursion P xs h
chosen P true (Err e) fault h = tt
chosen P false all fault h = tt

array_of : {A : Type 0} (P : A → Type 0) (is_kind : Data → Bool) (read : ℕ → Data → Found A) → ((n : ℕ) (value : Data) → IfOk (read n value) P)
    → (key : Key) (value : Data) → IfOk (document.array_of is_kind read key value) (All P)
array_of P is_kind read h key value =
    after (All P) (document.array key value) _
    (λ values. chosen P (document.are_all is_kind values) (document.each read 1 values) (Kind key) (each P read h 1 values))

-- ## The keys of a document

optional_mac : (key : Key) (members : Members) → IfOk (document.optional document.given_mac None key members) GivesSix
optional_mac = optional GivesSix document.given_mac None refl given_mac

abbrev HasSideForms : GivenSide → Type 0
HasSideForms side = HasUnicastPool side.settings × HasMacAddresses side.settings

side_keys : (side : Side) (members : Members) → IfOk (document.side_keys side members) HasSideForms
unfolding document.side_keys
side_keys side members =
    given IsUnicast HasSideForms (document.needed document.address (PoolFirst side) members) _
    (needed IsUnicast document.address address (PoolFirst side) members) (λ first is_first.
    given IsUnicast HasSideForms (document.needed document.address (PoolLast side) members) _
    (needed IsUnicast document.address address (PoolLast side) members) (λ last is_last.
    after HasSideForms (document.needed document.link (Link side) members) _ (λ link.
    given GivesSix HasSideForms (document.optional document.given_mac None (GatewayMac side) members) _ (optional_mac (GatewayMac side) members)
    (λ gateway gateway_six.
    given GivesSix HasSideForms (document.optional document.given_mac None (NextMac side) members) _ (optional_mac (NextMac side) members)
    (λ next next_six. (record { first = is_first; last = is_last }, record { gateway = gateway_six; next = next_six }))))))

side_table : (side : Side) (members : Members) → IfOk (document.side_table side members) HasSideForms
unfolding document.side_table
side_table side members = after HasSideForms (document.needed document.table (Table side) members) _ (side_keys side)

static_keys : (n : ℕ) (members : Members) → IfOk (document.static_keys n members) IsUnicastPair
unfolding document.static_keys
static_keys n members =
    after IsUnicastPair (document.needed document.side (StaticSide n) members) _ (λ side.
    given IsUnicast IsUnicastPair (document.needed document.address (StaticHost n) members) _
    (needed IsUnicast document.address address (StaticHost n) members) (λ host is_host.
    given IsUnicast IsUnicastPair (document.needed document.address (StaticAlias n) members) _
    (needed IsUnicast document.address address (StaticAlias n) members) (λ alias is_alias.
    record { host = is_host; alias = is_alias })))

static_entry : (n : ℕ) (value : Data) → IfOk (document.static_entry n value) IsUnicastPair
unfolding document.static_entry
static_entry n value = after IsUnicastPair (document.table Statics value) _ (static_keys n)

abbrev IsRule : OidRule → Type 0
IsRule rule = is_rule rule ≡ true

oid_keys : (n : ℕ) (members : Members) → IfOk (document.oid_keys n members) IsRule
unfolding document.oid_keys
oid_keys n members =
    given IsPrefix IsRule (document.needed document.prefix (OidPrefix n) members) _ (needed IsPrefix document.prefix prefix (OidPrefix n) members)
    (λ prefix is_prefix.
    given IsFew IsRule (document.needed document.skip (OidSkip n) members) _ (needed IsFew document.skip skip (OidSkip n) members)
    (λ skip is_few. rw (is_prefix, is_few) refl))

oid_entry : (n : ℕ) (value : Data) → IfOk (document.oid_entry n value) IsRule
unfolding document.oid_entry
oid_entry n value = after IsRule (document.table Oids value) _ (oid_keys n)

blocks : (key : Key) (value : Data) → IfOk (document.blocks key value) (All IsBlock)
unfolding document.blocks
blocks = array_of IsBlock document.is_text _ (λ n value. block Same value)

statics : (key : Key) (value : Data) → IfOk (document.statics key value) (All IsUnicastPair)
unfolding document.statics
statics = array_of IsUnicastPair document.is_table document.static_entry static_entry

oids : (key : Key) (value : Data) → IfOk (document.oids key value) (All IsRule)
unfolding document.oids
oids = array_of IsRule document.is_table document.oid_entry oid_entry

abbrev pub HasGivenForms : Given → Type 0
HasGivenForms given = HasForms given.settings × HaveMacAddresses given.settings

all_keys : (members : Members) → IfOk (document.all_keys members) HasGivenForms
unfolding document.all_keys
all_keys members =
    after HasGivenForms (document.optional document.report Text Report members) _ (λ report.
    after HasGivenForms (document.optional document.join false Fragments members) _ (λ join.
    given (All IsBlock) HasGivenForms (document.optional document.blocks [] Same members) _
    (optional (All IsBlock) document.blocks [] (All-nil IsBlock) blocks Same members) (λ same are_blocks.
    given HasSideForms HasGivenForms (document.side_table Left members) _ (side_table Left members) (λ left has_left.
    given HasSideForms HasGivenForms (document.side_table Right members) _ (side_table Right members) (λ right has_right.
    given (All IsUnicastPair) HasGivenForms (document.optional document.statics [] Statics members) _
    (optional (All IsUnicastPair) document.statics [] (All-nil IsUnicastPair) statics Statics members) (λ statics are_pairs.
    given (All IsRule) HasGivenForms (document.optional document.oids [] Oids members) _
    (optional (All IsRule) document.oids [] (All-nil IsRule) oids Oids members) (λ oids are_rules. (
      record {
        blocks = are_blocks;
        left = has_left.0;
        right = has_right.0;
        statics = are_pairs;
        oids = list_all-from_AllPass is_rule oids are_rules;
      },
      elim [ Left ↦ has_left.1 | Right ↦ has_right.1 ],
    ))))))))

keys_formed : (octets : List ℕ) → IfOk (document.keys_of octets) HasGivenForms
unfolding document.keys_of
keys_formed octets = chosen (nat_lt 1048576 (length octets))
  where
    chosen : (test : Bool)
        → IfOk (if test then Err TooLong else ok_or (document.document_of octets) NotToml >>= (λ members. document.all_keys members)) HasGivenForms
    chosen true = tt
    chosen false = after HasGivenForms (ok_or (document.document_of octets) NotToml) document.all_keys all_keys

pub formed : (octets : List ℕ) (given : Given) → document.keys_of octets ≡ Ok given → HasGivenForms given
formed octets given is = rw is at (keys_formed octets)
