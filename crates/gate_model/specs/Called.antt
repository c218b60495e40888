-- What addresses are called from one frame to later ones (RFC 2663, 3.2).
use Rattle.std.specs.Prelude.{◌≡◌, ◌<◌, ◌+◌, ◌⊎◌, ℕ, All, Contains, List, Some}
use Rattle.gate_base.specs.Prelude.{Event, other}
use Rattle.gate_base.specs.declared.address.Addr.{Addr}
use Rattle.gate_base.specs.declared.side.Side.{Side}
use Rattle.binding_table.specs.Prelude.{Bindings, seen}
use Rattle.gate_model.specs.Frame.{Echo, Error, Dns, Kind, Whole, Stream, datagram_in, kind_of}
use Rattle.gate_model.specs.Names.{message_in, named_in}
use Rattle.gate_model.specs.Rules.{SessionRules}
use Rattle.gate_model.specs.Verdict.{timeout_by, table_after}
use Rattle.gate_model.specs.declared.timeouts.TheConstants.{NAMED_TIMEOUT}
use Rattle.gate_model.specs.World.{World, at_moment, called, source_of, destination_of}

-- ## One frame

-- the bindings once an event's frame has used its addresses
abbrev pub table_by : {S : Type 0} → SessionRules S → World S → Event → Bindings
table_by rules w e =
    let d = datagram_in e in
    table_after rules (at_moment w e.moment) e.side e.moment d (kind_of d)

-- what an address of the event's realm is called then
abbrev pub called_by : {S : Type 0} → SessionRules S → World S → Event → Addr → Addr
called_by rules w e address = called (table_by rules w e) e.side address

-- the addresses between which goes what goes out for it
abbrev pub sent_from : {S : Type 0} → SessionRules S → World S → Event → Addr
sent_from rules w e = called_by rules w e (source_of (datagram_in e))

abbrev pub sent_to : {S : Type 0} → SessionRules S → World S → Event → Addr
sent_to rules w e = called_by rules w e (destination_of (datagram_in e))

-- until when its header keeps both bindings
abbrev pub header_until : {S : Type 0} → SessionRules S → World S → Event → ℕ
header_until rules w e =
    let d = datagram_in e in
    e.moment + timeout_by rules (at_moment w e.moment) e.side d (kind_of d)

-- until when the frame keeps an address: its source and its destination as its header does, and those that a DNS message over UDP names for
-- a time of their own
abbrev pub IsKeptUntil : {S : Type 0} → SessionRules S → World S → Event → Addr → ℕ → Type 0
IsKeptUntil rules w e address until =
    let d = datagram_in e in
    (((address ≡ source_of d) ⊎ (address ≡ destination_of d)) × (until ≡ header_until rules w e))
    ⊎ ((kind_of d ≡ Whole Dns) × Contains (named_in (message_in d)) address × (until ≡ e.moment + NAMED_TIMEOUT))

-- ## Later ones

-- an address of the realm and one of the other realm are called each other
pub record CrossBack (table : Bindings) (side : Side) (address image : Addr) : Type 0 where
  pub there : seen table side address ≡ Some image
  pub back : seen table (other side) image ≡ Some address

-- these events come before a moment
abbrev pub AllBefore : ℕ → List Event → Type 0
AllBefore moment events = All (λ e. e.moment < moment) events

-- ## How long

-- for how many seconds the header of a kind has to keep its addresses at least (RFC 4787, REQ-5; RFC 5508, REQ-2; RFC 5382, REQ-5)
abbrev pub least_seconds : Kind → ℕ
least_seconds (Whole Echo) = 60
least_seconds (Whole Error) = 60
least_seconds (Whole _) = 300
least_seconds Stream = 240
