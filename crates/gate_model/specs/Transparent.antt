-- That translation is transparent: nothing goes out under an address of the wrong realm, an alias means one host at a time, and replies
-- come back (RFC 2663, RFC 4787, RFC 5382, RFC 5508).
use Rattle.std.specs.Prelude.{◌≡◌, ◌⊎◌, Bool, true, false, if◌then◌else◌, map, All, List, [], ◌∷◌, ◌++◌, Some, None, IfSome, option_and_then}
use Rattle.gate_base.specs.Prelude.{Event, other, is_unicast_number}
use Rattle.verdicts.specs.Prelude.{first_that_holds}
use Rattle.gate_base.specs.declared.address.Addr.{Addr}
use Rattle.verdicts.specs.declared.verdict.Verdict.TheVariants.{Pass}
use Rattle.verdicts.specs.declared.refusal.Refusal.{Refusal}
use Rattle.verdicts.specs.declared.refusal.Refusal.TheVariants.{PoolEmpty, SessionsFull}
use Rattle.gate_base.specs.declared.side.Side.{Side}
use Rattle.binding_table.specs.Prelude.{Bindings, is_same, in_pool, seen, needed, image_after}
use Rattle.icmp_errors.specs.Inner.{inner_fields, inner_with}
use Rattle.twice_translate.specs.Renamed.{renamed, with_payload}
use Rattle.gate_model.specs.Called.{table_by, called_by, sent_from, sent_to, CrossBack}
use Rattle.gate_model.specs.Frame.{Udp, Echo, Error, Kind, Whole, Stream, datagram_in, header_tests, datagram_tests, transport_tests, kind_of}
use Rattle.gate_model.specs.Inner.{inside, inner_session, inner_number, is_inner_unbound, with_inside}
use Rattle.gate_model.specs.Names.{message_in, named_in, carried, reply_by}
use Rattle.gate_model.specs.Rules.{SessionRules}
use Rattle.gate_model.specs.Step.{out}
use Rattle.gate_model.specs.Stream.{found_in, has_tracked_port, session_in, is_full}
use Rattle.gate_model.specs.Verdict.{address_tests, is_pool_empty, is_reachable, kind_tests, late_tests, payload_addresses, verdict, verdict_of}
use Rattle.gate_model.specs.Held.{host_in}
use Rattle.gate_model.specs.World.{Tracked, World, at_moment, source_of, destination_of, addresses_of}
use Rattle.tcp_tracker.specs.declared.connection.Connection.{Connection}

-- ## Nothing untranslated

-- a frame goes out from an alias, one of the pool of the realm that it goes to, to a host of that realm; only an address that means the
-- same host in both realms stays as it is
pub record IsTranslated {S : Type 0} (rules : SessionRules S) (w : World S) (e : Event) : Type 0 where
  pub source : CrossBack (table_by rules w e) e.side (source_of (datagram_in e)) (sent_from rules w e)
  pub destination : CrossBack (table_by rules w e) e.side (destination_of (datagram_in e)) (sent_to rules w e)
  pub alias : (is_same (table_by rules w e) (sent_from rules w e) ≡ true) ⊎ (in_pool (table_by rules w e) (other e.side) (sent_from rules w e) ≡ true)
  pub host : in_pool (table_by rules w e) (other e.side) (sent_to rules w e) ≡ false

-- ## While a frame keeps an address

-- what a later frame finds of an address of a realm and of what that is called in the other one: if the address is a host's,
pub record MeansOne {S : Type 0} (rules : SessionRules S) (side : Side) (address image : Addr) (v : World S) (x : Event) : Type 0 where
  -- whatever the host sends, and to whomever, goes out from the same alias (endpoint-independent mapping: RFC 4787, REQ-1; RFC 5382, REQ-1);
  pub maps : x.side ≡ side → source_of (datagram_in x) ≡ address → sent_from rules v x ≡ image
  -- whoever sends to the alias reaches the host (endpoint-independent filtering: RFC 4787, REQ-8; RFC 5382, REQ-3);
  pub reaches : in_pool (at_moment v x.moment).table side address ≡ false → is_unicast_number address.0 ≡ true → x.side ≡ other side
      → destination_of (datagram_in x) ≡ image
      → (is_reachable (at_moment v x.moment).table x.side (destination_of (datagram_in x)) ≡ true) × (sent_to rules v x ≡ address)
  -- and what another host sends doesn't go out from it
  pub alone : x.side ≡ side → verdict rules v x ≡ Pass → sent_from rules v x ≡ image → source_of (datagram_in x) ≡ address

-- what a later frame finds of an address that a frame keeps, and of what it is called:
pub record KeepsAlias {S : Type 0} (rules : SessionRules S) (w : World S) (e : Event) (address : Addr) (v : World S) (x : Event) : Type 0 where
  -- each is called the other;
  pub crosses : CrossBack (at_moment v x.moment).table e.side address (called_by rules w e address)
  -- each means one host: the address where it is a host's of the frame's realm, and what it is called where that is a host's of the other one
  pub own : MeansOne rules e.side address (called_by rules w e address) v x
  pub far : MeansOne rules (other e.side) (called_by rules w e address) address v x

-- what a DNS message over UDP names goes out as it is called, and what means the same host in both realms as it is
abbrev pub NamesAreCalled : {S : Type 0} → SessionRules S → World S → Event → Type 0
NamesAreCalled rules w e =
    let table = (at_moment w e.moment).table in
    All (λ a. image_after table (table_by rules w e) e.side a ≡ (if is_same table a then None else Some (called_by rules w e a)))
    (named_in (message_in (datagram_in e)))

-- so it goes out, renamed by that
abbrev pub GoesOutCalled : {S : Type 0} → SessionRules S → World S → Event → Type 0
GoesOutCalled rules w e =
    let d = datagram_in e in
    let images = map (λ a. if is_same (at_moment w e.moment).table a then None else Some (called_by rules w e a)) (named_in (message_in d)) in
    out rules w e ≡ renamed (with_payload d (reply_by images (carried d) (message_in d))) (sent_from rules w e).0 (sent_to rules w e).0 ∷ []

-- ## Replies

-- a frame of the other realm answers what went out for one: it goes from where that went, to where that came from
pub record IsReply {S : Type 0} (rules : SessionRules S) (w : World S) (e r : Event) : Type 0 where
  pub side : r.side ≡ other e.side
  pub source : source_of (datagram_in r) ≡ sent_to rules w e
  pub destination : destination_of (datagram_in r) ≡ sent_from rules w e

-- the tests of a frame by itself
abbrev pub own_tests : Event → List (Bool × Refusal)
own_tests e = let d = datagram_in e in header_tests e ++ (datagram_tests d ++ transport_tests d)

-- a kind of which nothing behind the header of its protocol is looked at
abbrev pub IsPlainKind : Kind → Type 0
IsPlainKind (Whole Udp) = Unit {0}
IsPlainKind (Whole Echo) = Unit {0}
IsPlainKind _ = ⊥

-- a segment of a connection that no session tracks
pub record IsUntracked {S : Type 0} (v : World S) (r : Event) : Type 0 where
  pub kind : kind_of (datagram_in r) ≡ Stream
  pub ports : has_tracked_port (datagram_in r) ≡ false
  pub session : session_in (found_in (at_moment v r.moment) r.side (datagram_in r)) ≡ None

-- a frame gets through, from an alias to a host, whatever others do:
pub record GetsThrough {S : Type 0} (rules : SessionRules S) (v : World S) (r : Event) (alias host : Addr) : Type 0 where
  -- neither of its addresses is a reason to refuse it, and neither needs a new alias;
  pub addresses : first_that_holds (address_tests (at_moment v r.moment).table r.side (datagram_in r)) ≡ None
  pub room : needed (at_moment v r.moment).table r.side (addresses_of (datagram_in r)) ≡ 0
  -- what goes out for it goes from the alias to the host;
  pub from : sent_from rules v r ≡ alias
  pub to : sent_to rules v r ≡ host
  -- where nothing behind its headers is looked at, it is refused only for what it is by itself, and carries what it carried;
  pub plain : IsPlainKind (kind_of (datagram_in r)) → verdict rules v r ≡ verdict_of (first_that_holds (own_tests r))
  pub sent : IsPlainKind (kind_of (datagram_in r)) → first_that_holds (own_tests r) ≡ None
      → out rules v r ≡ renamed (datagram_in r) alias.0 host.0 ∷ []
  -- so does a TCP segment that no session tracks, as long as there is room for its connection;
  pub segment : IsUntracked v r → let live = at_moment v r.moment in let d = datagram_in r in
      verdict rules v r ≡ verdict_of (first_that_holds (own_tests r ++ (is_full live.connections (found_in live r.side d) d, SessionsFull) ∷ []))
  pub segment_sent : IsUntracked v r → verdict rules v r ≡ Pass → out rules v r ≡ renamed (datagram_in r) alias.0 host.0 ∷ []
  -- and any other one is refused only for what it is by itself, for what it carries, or for want of aliases, where that names addresses
  pub carries : let live = at_moment v r.moment in let d = datagram_in r in
      verdict rules v r ≡ verdict_of (first_that_holds (own_tests r ++ (kind_tests rules live r.side r.moment d (kind_of d)
      ++ (is_pool_empty rules live r.side d (kind_of d), PoolEmpty) ∷ late_tests rules live r.side r.moment d (kind_of d))))
  pub pool : let live = at_moment v r.moment in let d = datagram_in r in
      payload_addresses rules live r.side d (kind_of d) ≡ [] → is_pool_empty rules live r.side d (kind_of d) ≡ false

-- a reply comes back: it gets through to the host that sent the first frame, from the address to which that went
abbrev pub ComesBack : {S : Type 0} → SessionRules S → Event → World S → Event → Type 0
ComesBack rules e v r = GetsThrough rules v r (destination_of (datagram_in e)) (source_of (datagram_in e))

-- ## ICMP errors

-- a frame of the other realm holds the addresses of what went out for one
pub record IsAbout {S : Type 0} (rules : SessionRules S) (w : World S) (e r : Event) : Type 0 where
  pub side : r.side ≡ other e.side
  pub source : (inner_fields (inside (datagram_in r))).source ≡ sent_from rules w e
  pub destination : (inner_fields (inside (datagram_in r))).destination ≡ sent_to rules w e

-- an error that holds them goes out with those that its receiver sent (RFC 5508, REQ-4, REQ-5),
pub record ComesHome {S : Type 0} (rules : SessionRules S) (e : Event) (v : World S) (r : Event) : Type 0 where
  pub source : seen (at_moment v r.moment).table r.side (inner_fields (inside (datagram_in r))).source ≡ Some (source_of (datagram_in e))
  pub destination : seen (at_moment v r.moment).table r.side (inner_fields (inside (datagram_in r))).destination
      ≡ Some (destination_of (datagram_in e))
  -- and where no session is asked for a number, they are no reason to refuse it
  pub bound : inner_session (at_moment v r.moment) r.side (inner_fields (inside (datagram_in r))) ≡ None
      → is_inner_unbound rules (at_moment v r.moment) r.side (inner_fields (inside (datagram_in r))) ≡ false
  -- if it passes, it goes out with them inside
  pub sent : kind_of (datagram_in r) ≡ Whole Error → verdict rules v r ≡ Pass → let octets = inside (datagram_in r) in
      out rules v r ≡ renamed (with_inside (datagram_in r) (inner_with octets (datagram_in e).source (datagram_in e).destination
      (option_and_then (λ number. number) (inner_number rules (at_moment v r.moment) r.side (inner_fields octets)))))
      (sent_from rules v r).0 (sent_to rules v r).0 ∷ []

-- ## Connections

-- both hosts of a connection and their aliases are called each other, and so are those of a session's pair, which the lines of FTP tell
pub record ReachesHosts {S : Type 0} (table : Bindings) (c : Connection (Tracked S)) : Type 0 where
  pub aliases : Side → Addr
  pub crosses : (side : Side) → CrossBack table side (record { 0 = host_in side c.key }) (aliases side)
  pub pair : IfSome c.session (λ t. CrossBack table t.client t.pair.client t.pair.client_alias
      × CrossBack table (other t.client) t.pair.server t.pair.server_alias)
