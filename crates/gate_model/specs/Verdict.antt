-- What becomes of a frame: the first refusal that holds, or it passes.
use Rattle.std.specs.Prelude.{ℕ, ◌+◌, Bool, true, not, ◌&&◌, ◌||◌, nat_lt, List, [], ◌∷◌, ◌++◌, length, Option, Some, None, is_some, is_none}
use Rattle.gate_base.specs.Prelude.{Event, other}
use Rattle.verdicts.specs.Prelude.{first_that_holds}
use Rattle.gate_base.specs.declared.address.Addr.{Addr}
use Rattle.verdicts.specs.declared.verdict.Verdict.{Verdict}
use Rattle.verdicts.specs.declared.verdict.Verdict.TheVariants.{Pass, Refused}
use Rattle.verdicts.specs.declared.refusal.Refusal.{Refusal}
use Rattle.verdicts.specs.declared.refusal.Refusal.TheVariants.{SourceInPool, NoBinding, BadInner, InnerUnbound, BadDns, DnsUnbound, BadSnmp, NoSession, SessionsFull, PoolEmpty, SnmpTooLong}
use Rattle.gate_base.specs.declared.side.Side.{Side}
use Rattle.gate_settings.specs.Prelude.{is_in_same}
use Rattle.binding_table.specs.Prelude.{Bindings, in_pool, free, seen, Use, needed, after_uses, image_after}
use Rattle.icmp_errors.specs.Inner.{is_inner, inner_fields}
use Rattle.ipv4_frames.specs.Ipv4.{Datagram}
use Rattle.gate_model.specs.Frame.{Payload, Echo, Error, Dns, Snmp, Kind, Whole, Stream, datagram_in, header_tests, datagram_tests, transport_tests, kind_of}
use Rattle.gate_model.specs.Inner.{inside, is_inner_unbound}
use Rattle.gate_model.specs.Management.{management_after}
use Rattle.gate_model.specs.Names.{carried, message_in, named_in, has_unbound}
use Rattle.gate_model.specs.Rules.{SessionRules}
use Rattle.snmp_gateway.specs.Message.{message}
use Rattle.gate_model.specs.Stream.{found_in, session_in, taker_by, lacks_session, session_refusal, is_full, stream_timeout}
use Rattle.gate_model.specs.Units.{uses_until, names_in, uses_of_lists, unit_tests, growth_tests}
use Rattle.gate_model.specs.declared.TheConstants.{MOST_CARRIED}
use Rattle.gate_model.specs.declared.timeouts.TheConstants.{ICMP_TIMEOUT, NAMED_TIMEOUT, UDP_TIMEOUT}
use Rattle.gate_model.specs.World.{World, at_moment, source_of, destination_of, addresses_of}

-- ## Uses

-- the timeout of a header
abbrev pub timeout_by : {S : Type 0} → SessionRules S → World S → Side → Datagram → Kind → ℕ
timeout_by rules live side d (Whole Echo) = ICMP_TIMEOUT
timeout_by rules live side d (Whole Error) = ICMP_TIMEOUT
timeout_by rules live side d (Whole _) = UDP_TIMEOUT
timeout_by rules live side d Stream = stream_timeout rules live side d

-- the addresses that a payload uses: those that a DNS message names, or that a segment's messages name
abbrev pub payload_addresses : {S : Type 0} → SessionRules S → World S → Side → Datagram → Kind → List Addr
payload_addresses rules live side d (Whole Dns) = named_in (message_in d)
payload_addresses rules live side d (Whole _) = []
payload_addresses rules live side d Stream = names_in rules side d (session_in (found_in live side d))

-- their uses, until a moment where they hold as the header does: behind those of a DNS session stand the addresses that its lists rename
abbrev pub payload_uses : {S : Type 0} → SessionRules S → World S → Side → ℕ → ℕ → Datagram → Kind → List Use
payload_uses rules live side moment until d (Whole payload) =
    uses_until side (moment + NAMED_TIMEOUT) (payload_addresses rules live side d (Whole payload))
payload_uses rules live side moment until d Stream =
    uses_until side until (payload_addresses rules live side d Stream) ++ uses_of_lists rules until (session_in (found_in live side d))

-- the uses of a frame that passes: its source, its destination, and those of its payload in their order
abbrev pub uses_of : {S : Type 0} → SessionRules S → World S → Side → ℕ → Datagram → Kind → List Use
uses_of rules live side moment d kind =
    let until = moment + timeout_by rules live side d kind in
    uses_until side until (addresses_of d) ++ payload_uses rules live side moment until d kind

-- the bindings after these uses
abbrev pub table_after : {S : Type 0} → SessionRules S → World S → Side → ℕ → Datagram → Kind → Bindings
table_after rules live side moment d kind = after_uses live.table (uses_of rules live side moment d kind)

-- what an address that a segment names is called by them: none for one that crosses unchanged
abbrev pub image_in : {S : Type 0} → SessionRules S → World S → Side → ℕ → Datagram → Addr → Option Addr
image_in rules live side moment d address = image_after live.table (table_after rules live side moment d Stream) side address

-- ## Tests, each of which means something only where no earlier one holds

-- an address that crosses unchanged, or one of the realm's pool that stands for a host
abbrev pub is_reachable : Bindings → Side → Addr → Bool
is_reachable table side address = is_in_same address table.same || (in_pool table side address && is_some (seen table side address))

-- the addresses of a frame that need a binding are more than the other realm's pool has free
abbrev pub is_pool_empty : {S : Type 0} → SessionRules S → World S → Side → Datagram → Kind → Bool
is_pool_empty rules live side d kind =
    nat_lt (free live.table (other side)) (needed live.table side (addresses_of d ++ payload_addresses rules live side d kind))

-- a refusal that is known already, as a test
abbrev pub refusal_tests : Option Refusal → List (Bool × Refusal)
refusal_tests None = []
refusal_tests (Some refusal) = (true, refusal) ∷ []

-- of its addresses
abbrev pub address_tests : Bindings → Side → Datagram → List (Bool × Refusal)
address_tests table side d =
    (in_pool table side (source_of d), SourceInPool)
    ∷ (not (is_reachable table side (destination_of d)), NoBinding) ∷ []

-- of what a datagram carries, by its kind; the tests of a session stand among those of a segment
abbrev pub kind_tests : {S : Type 0} → SessionRules S → World S → Side → ℕ → Datagram → Kind → List (Bool × Refusal)
kind_tests rules live side moment d (Whole Error) =
    (not (is_inner (inside d)), BadInner)
    ∷ (is_inner_unbound rules live side (inner_fields (inside d)), InnerUnbound) ∷ []
kind_tests rules live side moment d (Whole Dns) =
    (is_none (message_in d), BadDns)
    ∷ (has_unbound live.table side (named_in (message_in d)), DnsUnbound) ∷ []
kind_tests rules live side moment d (Whole Snmp) = (is_none (message (carried d)), BadSnmp) ∷ []
kind_tests rules live side moment d (Whole _) = []
kind_tests rules live side moment d Stream =
    let found = found_in live side d in
    let taker = taker_by rules (table_after rules live side moment d Stream) side d found in
    (lacks_session found d, NoSession)
    ∷ refusal_tests (session_refusal rules side d taker)
    ++ (unit_tests rules (image_in rules live side moment d) live.table side d taker ++ (is_full live.connections found d, SessionsFull) ∷ [])

-- of what goes on in place of a payload, by the bindings after its uses: a message of SNMP must fit behind both headers
abbrev pub image_tests : Bindings → Side → Datagram → Payload → List (Bool × Refusal)
image_tests table side d Snmp = (nat_lt MOST_CARRIED (length (management_after table side d)), SnmpTooLong) ∷ []
image_tests table side d _ = []

-- the tests behind that of the pool
abbrev pub late_tests : {S : Type 0} → SessionRules S → World S → Side → ℕ → Datagram → Kind → List (Bool × Refusal)
late_tests rules live side moment d (Whole payload) = image_tests (table_after rules live side moment d (Whole payload)) side d payload
late_tests rules live side moment d Stream =
    growth_tests rules (image_in rules live side moment d) side d
    (taker_by rules (table_after rules live side moment d Stream) side d (found_in live side d))

-- of a datagram of this kind, from its addresses on
abbrev pub world_tests : {S : Type 0} → SessionRules S → World S → Side → ℕ → Datagram → Kind → List (Bool × Refusal)
world_tests rules live side moment d kind =
    address_tests live.table side d
    ++ (kind_tests rules live side moment d kind ++ (is_pool_empty rules live side d kind, PoolEmpty) ∷ late_tests rules live side moment d kind)

-- all tests in their order, over what lives at the event
abbrev pub tests : {S : Type 0} → SessionRules S → World S → Event → List (Bool × Refusal)
tests rules live e =
    let d = datagram_in e in
    header_tests e ++ (datagram_tests d ++ (transport_tests d ++ world_tests rules live e.side e.moment d (kind_of d)))

-- a frame passes exactly where no test holds
abbrev pub verdict_of : Option Refusal → Verdict
verdict_of None = Pass
verdict_of (Some refusal) = Refused refusal

-- what becomes of an event's frame
unfoldable pub verdict : {S : Type 0} → SessionRules S → World S → Event → Verdict
verdict rules w e = verdict_of (first_that_holds (tests rules (at_moment w e.moment) e))
