-- Sessions that remember: each segment that passed, what went out, and what was acknowledged.
use Rattle.std.specs.Prelude.{◌≡◌, ℕ, List, [], ◌∷◌, ◌++◌, Option, Some, None, IfSome, All, map}
use Rattle.std.specs.List.{fold, AllByRecursion}
use Rattle.gate_base.specs.declared.address.Addr.{Addr}
use Rattle.gate_base.specs.declared.event.Pair.{Pair}
use Rattle.gate_base.specs.declared.host.Host.{Host}
use Rattle.dialogue.specs.Prelude.{Entry, AllListed, cut}
use Rattle.dns_messages.specs.declared.message.Message.{Message}
use Rattle.dns_gateway.specs.Addresses.{message_addresses}
use Rattle.dns_stream.specs.Prelude.{message_in, image_in, renamed, dns_units}
use Rattle.stream_model.specs.Prelude.{known, Session, Segment, Outgoing, own, other, due_in, if_by, if_to, places_of, numbers_of, IsBack, SentIs}
use Rattle.tcp_tracker.specs.declared.connection.Connection.{Connection}
use Rattle.gate_model.specs.Lists.{Lists, list_of}
use Rattle.gate_model.specs.Rules.{SessionRules, whole_rules}
use Rattle.gate_model.specs.Sessions.{WholeSession, meaning_by}
use Rattle.gate_model.specs.World.{Tracked}

-- a segment that passed, which host sent it, and what an address that it names first was called
pub record Passed : Type 0 where
  pub from : Host
  pub segment : Segment
  pub image : Addr → Option Addr

-- of the stream of one host: what went out of its segments, the places of its image that the other host acknowledged, and the acknowledgement numbers that went out to it
pub record Remembered : Type 0 where
  pub sent : List Outgoing
  pub places : List ℕ
  pub numbers : List ℕ

-- a session, the server's port, the pair and the numbers with which it began, the segments that passed, in their order, and what is remembered
-- of each host's stream
pub record RememberedSession : Type 0 where
  pub session : WholeSession
  pub port : ℕ
  pub pair : Pair
  pub initial : ℕ
  pub mss : ℕ
  pub past : List Passed
  pub streams : Host → Remembered

-- one segment more, of which this went out
abbrev pub remembered : Host → Host → Session → Segment → List Outgoing → Remembered → Remembered
remembered host from s segment outs r = record {
  sent = r.sent ++ if_by host from outs;
  places = r.places ++ if_to host from (places_of (other from s) segment);
  numbers = r.numbers ++ if_to host from (numbers_of (other from s) segment outs);
}

-- they answer as sessions over whole lists do
abbrev pub remembering_rules : SessionRules RememberedSession
remembering_rules = record {
  made = λ port pair initial mss. record {
    session = whole_rules.made port pair initial mss;
    port = port;
    pair = pair;
    initial = initial;
    mss = mss;
    past = [];
    streams = λ host. record { sent = []; places = []; numbers = [] };
  };
  refusal = λ from t g. whole_rules.refusal from t.session g;
  units = λ from t g. whole_rules.units from t.session g;
  listed = λ host t. whole_rules.listed host t.session;
  next = λ image from t g. record t {
    session = whole_rules.next image from t.session g;
    past = t.past ++ record { from = from; segment = g; image = image } ∷ [];
    streams = λ host. remembered host from t.session.session g (whole_rules.out image from t.session g) (t.streams host);
  };
  out = λ image from t g. whole_rules.out image from t.session g;
  ends = λ from t g. whole_rules.ends from t.session g;
  inner = λ host t number. whole_rules.inner host t.session number;
  pending = λ t. whole_rules.pending t.session;
}

-- as it began
abbrev pub begun : RememberedSession → RememberedSession
begun t = remembering_rules.made t.port t.pair t.initial t.mss

-- after one segment more
abbrev pub step : RememberedSession → Passed → RememberedSession
step t p = remembering_rules.next p.image p.from t p.segment

-- none of these segments, one after the other, is refused
abbrev pub AllPass : RememberedSession → List Passed → Type 0
AllPass t [] = Unit {0}
AllPass t (p ∷ ps) = (remembering_rules.refusal p.from t p.segment ≡ None) × AllPass (step t p) ps

-- a unit holds a message, each of whose addresses is listed, and goes on as that message renamed by the list
pub record IsRenamed (entries : List Entry) (unit : List ℕ) : Type 0 where
  pub message : Message
  pub holds : message_in unit ≡ Some message
  pub listed : AllListed entries (message_addresses message)
  pub image : (dns_units entries).image unit ≡ renamed (map (image_in entries) (message_addresses message)) unit message

-- each whole unit of a host's stream in a DNS session is renamed by the list of that host
abbrev pub UnitsAreRenamed : Option Lists → Host → List ℕ → Type 0
UnitsAreRenamed lists host octets =
    IfSome lists (λ all. let entries = list_of host all in AllByRecursion (IsRenamed entries) (cut (dns_units entries) octets).units)

-- what holds of the stream of a host:
pub record StreamIs (host : Host) (t : Tracked RememberedSession) : Type 0 where
  -- its lines are renamed by the session's one pair, or its units by the list of its sender;
  pub meaning : (own host t.session.session.session).meaning ≡ meaning_by t.session.session.lists t.pair host
  -- each whole unit of DNS is a message, which that list renames;
  pub units : UnitsAreRenamed t.session.session.lists host (own host t.session.session.session).octets
  -- the octets that went out are those of its image that are due, each at its place and none left out;
  pub sent : SentIs (known (own host t.session.session.session).initial) (due_in (own host t.session.session.session)) (t.session.streams host).sent
  -- and each acknowledgement that went out to its sender covers only octets whose images the other host acknowledged
  pub acknowledged : let past = t.session.streams host in AllByRecursion (IsBack (own host t.session.session.session) past.places) past.numbers

-- what holds of a session: what it remembers is true (it began with its hosts' pair, none of its segments was refused, and it is what they
-- made of it), and the streams of both hosts are as they should be
pub record SessionIs (t : Tracked RememberedSession) : Type 0 where
  pub pair : t.session.pair ≡ t.pair
  pub passed : AllPass (begun t.session) t.session.past
  pub session : t.session ≡ fold step (begun t.session) t.session.past
  pub streams : (host : Host) → StreamIs host t

-- each tracked session has this
abbrev pub EachTracked : {S : Type 0} → (Tracked S → Type 0) → List (Connection (Tracked S)) → Type 0
EachTracked Q all = All (λ c. IfSome c.session Q) all
