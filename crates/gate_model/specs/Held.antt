-- The bindings of connections: while a connection lives its hosts keep their aliases.
use Rattle.std.specs.Prelude.{◌≡◌, ◌≤◌, ◌⊎◌, ℕ, true, All, [], length, unwrap_or, Option, Some, None, IfSome}
use Rattle.std.specs.List.{AllByRecursion}
use Rattle.gate_base.specs.Prelude.{other, peer}
use Rattle.gate_base.specs.declared.address.Addr.{Addr}
use Rattle.gate_base.specs.declared.event.Pair.{Pair}
use Rattle.gate_base.specs.declared.side.Side.{Side}
use Rattle.gate_base.specs.declared.side.Side.TheVariants.{Left, Right}
use Rattle.gate_base.specs.declared.host.Host.{Host}
use Rattle.gate_base.specs.declared.host.Host.TheVariants.{Client, Server}
use Rattle.binding_table.specs.Prelude.{Bindings, is_same, seen, IsBoundTo, IsKnownAs, IsLawful}
use Rattle.dialogue.specs.Prelude.{Entry}
use Rattle.tcp_tracker.specs.declared.connection.ConnKey.{ConnKey}
use Rattle.tcp_tracker.specs.declared.connection.Connection.{Connection}
use Rattle.stream_model.specs.Prelude.{Segment}
use Rattle.gate_model.specs.Lists.{addresses_in, entered}
use Rattle.dialogue.specs.declared.TheConstants.{MOST_ENTRIES}
use Rattle.gate_model.specs.Rules.{SessionRules}
use Rattle.gate_model.specs.World.{Tracked, World}

-- the realm's host in the name of a connection
abbrev pub host_in : Side → ConnKey → ℕ
host_in Left key = key.left.0
host_in Right key = key.right.0

-- the pair of a session is that of its connection's hosts and their aliases
pub record IsPairOf (client : Side) (pair : Pair) (hosts aliases : Side → ℕ) : Type 0 where
  pub client_host : pair.client.0 ≡ hosts client
  pub client_alias : pair.client_alias.0 ≡ aliases client
  pub server_host : pair.server.0 ≡ hosts (other client)
  pub server_alias : pair.server_alias.0 ≡ aliases (other client)

-- both hosts of a connection are bound as long as it lives, and a session's pair is that of these bindings
pub record KeepsHosts {S : Type 0} (table : Bindings) (c : Connection (Tracked S)) : Type 0 where
  pub aliases : Side → ℕ
  pub known : (side : Side) → IsKnownAs table side (host_in side c.key) (aliases side) c.until.0
  pub pair : IfSome c.session (λ t. IsPairOf t.client t.pair (λ side. host_in side c.key) aliases)

-- what crossing gives for a session's pair
pub record PairCrosses {S : Type 0} (table : Bindings) (t : Tracked S) : Type 0 where
  pub client : seen table t.client t.pair.client ≡ Some t.pair.client_alias
  pub server : seen table t.client t.pair.server_alias ≡ Some t.pair.server

-- an address of the realm crosses to its listed image through a binding that is for good or lasts at least until a moment: its own, or that
-- of the host for which it stands; one that is kept crosses unchanged
abbrev pub IsImage : Bindings → Side → ℕ → Addr → Option Addr → Type 0
IsImage table side until address None = is_same table address ≡ true
IsImage table side until address (Some image) =
    IsBoundTo table side address.0 image.0 until ⊎ IsBoundTo table (other side) image.0 address.0 until

abbrev pub IsEntryBound : Bindings → Side → ℕ → Entry → Type 0
IsEntryBound table side until entry = IsImage table side until entry.0 entry.1

-- the realm of a host
abbrev pub side_of : {S : Type 0} → Host → Tracked S → Side
side_of Client t = t.client
side_of Server t = other t.client

-- what the lists of a session rename is bound, as it is listed, until a moment
abbrev pub ListsAreBound : {S : Type 0} → SessionRules S → Bindings → ℕ → Tracked S → Type 0
ListsAreBound rules table until t = (host : Host) → AllByRecursion (IsEntryBound table (side_of host t) until) (rules.listed host t.session)

-- for as long as its connection lives
abbrev pub KeepsLists : {S : Type 0} → SessionRules S → Bindings → Connection (Tracked S) → Type 0
KeepsLists rules table c = IfSome c.session (ListsAreBound rules table c.until.0)

-- what each representation of sessions does with lists: nothing is listed when a session begins, the addresses in the units of a segment are entered into its sender's list and the other one stays, and a SYN completes no unit
pub record HasLists {S : Type 0} (rules : SessionRules S) : Type 0 where
  pub made : (port : ℕ) (pair : Pair) (initial mss : ℕ) (host : Host) → rules.listed host (rules.made port pair initial mss) ≡ []
  pub own : (image : Addr → Option Addr) (from : Host) (s : S) (g : Segment)
      → rules.listed from (rules.next image from s g) ≡ entered image (rules.listed from s) (addresses_in (rules.units from s g))
  pub other : (image : Addr → Option Addr) (from : Host) (s : S) (g : Segment)
      → rules.listed (peer from) (rules.next image from s g) ≡ rules.listed (peer from) s
  pub syn : (from : Host) (s : S) (g : Segment) → g.flags.syn ≡ true → rules.units from s g ≡ []

-- a world in which all that is listed is bound
pub record KeepsListed {S : Type 0} (rules : SessionRules S) (w : World S) : Type 0 where
  pub lawful : IsLawful w.table
  pub lists : All (KeepsLists rules w.table) w.connections

-- what crossing gives for an address that is listed: its image, or itself where it is kept
abbrev pub EntryCrosses : Bindings → Side → Entry → Type 0
EntryCrosses table side entry = seen table side entry.0 ≡ Some (unwrap_or entry.1 entry.0)

abbrev pub ListsCross : {S : Type 0} → SessionRules S → Bindings → Tracked S → Type 0
ListsCross rules table t = (host : Host) → AllByRecursion (EntryCrosses table (side_of host t)) (rules.listed host t.session)

-- no list is longer than the most
abbrev pub ListsAreFew : {S : Type 0} → SessionRules S → Tracked S → Type 0
ListsAreFew rules t = (host : Host) → length (rules.listed host t.session) ≤ MOST_ENTRIES
