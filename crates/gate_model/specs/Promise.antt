-- What is promised of the frames of two realms, whatever they are.
use Rattle.std.specs.Prelude.{◌≡◌, ◌≤◌, ◌<◌, ◌+◌, ◌-◌, ◌⊎◌, ℕ, true, false, All, List, [], ◌∷◌, ◌++◌, length, Option, Some, None}
use Rattle.std.specs.List.{fold}
use Rattle.dialogue.specs.Prelude.{image, is_listed}
use Rattle.dns_stream.specs.Prelude.{image_in}
use Rattle.gate_base.specs.Prelude.{Event, other}
use Rattle.verdicts.specs.Prelude.{first_that_holds}
use Rattle.gate_base.specs.declared.address.Addr.{Addr}
use Rattle.verdicts.specs.declared.verdict.Verdict.TheVariants.{Pass, Refused}
use Rattle.verdicts.specs.declared.refusal.Refusal.{Refusal}
use Rattle.gate_base.specs.declared.host.Host.{Host}
use Rattle.gate_base.specs.declared.side.Side.{Side}
use Rattle.gate_settings.specs.declared.settings.Settings.{Settings}
use Rattle.binding_table.specs.Prelude.{is_same}
use Rattle.twice_translate.specs.Renamed.{datagram_of, renamed}
use Rattle.gate_model.specs.Called.{CrossBack, IsKeptUntil, AllBefore, header_until, table_by, sent_from, sent_to}
use Rattle.gate_model.specs.ForGood.{IsFixed}
use Rattle.gate_model.specs.Frame.{Dns, Whole, Stream, datagram_in, kind_of}
use Rattle.gate_model.specs.GoingOn.{streams_of, OnlyRestsWait, HasDataSegment, GoesOnBy, ComesThrough}
use Rattle.gate_model.specs.Held.{PairCrosses, KeepsLists, ListsCross}
use Rattle.gate_model.specs.Octets.{AreOctets, GoesAsItCame, IsReadAs, IsAnswer}
use Rattle.gate_model.specs.Origins.{ComesFromUse, IsMeant}
use Rattle.gate_model.specs.Reading.{world_as}
use Rattle.gate_model.specs.Rounds.{FrameRound, AllFrameRounds, after_frame_rounds}
use Rattle.gate_model.specs.Rules.{whole_rules}
use Rattle.gate_model.specs.Sessions.{WholeSession}
use Rattle.gate_model.specs.Step.{next, out, taker_in, translated}
use Rattle.gate_model.specs.Stream.{has_tracked_port}
use Rattle.gate_model.specs.Taken.{TakesSegment, said, taken_by}
use Rattle.gate_model.specs.Transparent.{IsTranslated, KeepsAlias, NamesAreCalled, GoesOutCalled, IsReply, ComesBack, IsAbout, ComesHome}
use Rattle.gate_model.specs.Transparent.{GetsThrough, IsUntracked, ReachesHosts}
use Rattle.gate_model.specs.Remembered.{RememberedSession, remembering_rules, SessionIs, EachTracked}
use Rattle.stream_model.specs.Prelude.{acknowledged_of, own}
use Rattle.gate_model.specs.Verdict.{tests, verdict}
use Rattle.gate_model.specs.World.{Tracked, World, at_moment, destination_of, opening_world, source_of}

-- what is known after these events
abbrev pub known_after : Settings → List Event → World WholeSession
known_after settings events = fold (next whole_rules) (opening_world settings) events

-- the same, where each session remembers what passed and what went out
abbrev pub remembered_after : Settings → List Event → World RememberedSession
remembered_after settings events = fold (next remembering_rules) (opening_world settings) events

-- the first reason to refuse an event's frame, if there is one
abbrev pub reason : World WholeSession → Event → Option Refusal
reason w e = first_that_holds (tests whole_rules (at_moment w e.moment) e)

-- no session takes an event's frame
abbrev pub IsPlain : World WholeSession → Event → Type 0
IsPlain w e = kind_of (datagram_in e) ≡ Stream → taker_in whole_rules (at_moment w e.moment) e.side e.moment (datagram_in e) ≡ None

-- the renaming of an event's frame: its addresses are called as after its uses, those in its payload too, and its lifetime is less by 1
abbrev pub renaming : World WholeSession → Event → List ℕ
renaming w e =
    let d = datagram_in e in
    let payload = translated whole_rules (at_moment w e.moment) (table_by whole_rules w e) e.side d (kind_of d) in
    renamed payload (sent_from whole_rules w e).0 (sent_to whole_rules w e).0

-- what becomes of an event's frame, by what is known after the events before it
pub record FrameIs (settings : Settings) (done : List Event) (w : World WholeSession) (e : Event) : Type 0 where
  -- where there is a reason to refuse it, it is refused by the name of the first one, and nothing goes out;
  pub refused : (r : Refusal) → reason w e ≡ Some r → (verdict whole_rules w e ≡ Refused r) × (out whole_rules w e ≡ [])
  -- else it passes, and something goes out at its own event;
  pub passes : reason w e ≡ None → (verdict whole_rules w e ≡ Pass) × (1 ≤ length (out whole_rules w e))
  -- and where no session takes it, that is its renaming
  pub renames : verdict whole_rules w e ≡ Pass → IsPlain w e → out whole_rules w e ≡ renaming w e ∷ []
  -- translation is transparent: what passes goes out from an alias, of the realm that it goes to, to a host of that realm;
  pub translated : verdict whole_rules w e ≡ Pass → IsTranslated whole_rules w e
  -- each datagram that goes out has a lifetime less by 1 (RFC 791, 3.2);
  pub lifetimes : verdict whole_rules w e ≡ Pass → All (λ octets. (datagram_of octets).lifetime ≡ (datagram_in e).lifetime - 1) (out whole_rules w e)
  -- whoever gets what goes out as it came reads in its octets between which addresses it goes, and what was sent;
  pub octets : verdict whole_rules w e ≡ Pass → GoesAsItCame w e → AreOctets e.octets → (sent : List ℕ) × (out whole_rules w e ≡ sent ∷ [])
      × IsReadAs sent (datagram_in e) (sent_from whole_rules w e).0 (sent_to whole_rules w e).0
  -- a DNS message over UDP goes out with what the addresses that it names are called;
  pub named : verdict whole_rules w e ≡ Pass → kind_of (datagram_in e) ≡ Whole Dns → NamesAreCalled whole_rules w e × GoesOutCalled whole_rules w e
  -- a frame reaches a host only by a binding that is static, or that a frame has used until a moment that isn't over;
  pub meant : verdict whole_rules w e ≡ Pass
      → (is_same (at_moment w e.moment).table (destination_of (datagram_in e)) ≡ true) ⊎ IsMeant whole_rules settings done w e
  -- a TCP segment to no port at which connections are tracked is of no session;
  pub untracked : kind_of (datagram_in e) ≡ Stream → has_tracked_port (datagram_in e) ≡ false → IsUntracked w e
  -- and a frame between two hosts for which settings fix what they are called gets through, whatever came before
  pub between : (alias host : Addr) → IsFixed settings e.side (source_of (datagram_in e)) alias
      → IsFixed settings (other e.side) host (destination_of (datagram_in e)) → GetsThrough whole_rules w e alias host

-- what becomes of an event's segment that a session takes, by what is known before it, and remembered
pub record SegmentIs (w : World WholeSession) (v : World RememberedSession) (e : Event) (t : Tracked RememberedSession) : Type 0 where
  -- what the session says goes out, and nothing else;
  pub said_is : out whole_rules w e ≡ said remembering_rules v e t
  -- what holds of each session holds of this one afterwards, also where it ends with that;
  pub session : SessionIs (taken_by remembering_rules v e t)
  -- each address that its lists named before has kept its image;
  pub images : (host : Host) (number : ℕ) → let old = remembering_rules.listed host t.session in
      let new = remembering_rules.listed host (taken_by remembering_rules v e t).session in
      is_listed old number ≡ true → image_in new number ≡ image_in old number
  -- and what goes out for a segment without SYN and RST brings what is lacking of its sender's octets, also where the session ends with that
  pub going : HasDataSegment e → GoesOnBy v e t

-- each round of repeats of a host's octets raises what is acknowledged of their image, or what their sender knows to be acknowledged; so
-- there are no more rounds than octets and their image have, with the end counted in both
abbrev pub RoundsEnd : Settings → List Event → Host → Tracked RememberedSession → ℕ → ℕ → List FrameRound → Type 0
RoundsEnd settings done host t knows had rounds =
    let w = remembered_after settings done in
    let a = own host (streams_of t) in
    let new = own host (streams_of (after_frame_rounds w t rounds)) in
    knows ≤ acknowledged_of a → a.acked ≤ had → AllFrameRounds host w t knows had rounds
    → (length rounds + a.acked + knows ≤ new.acked + acknowledged_of new)
    × (length rounds ≤ length (image new.meaning new.octets) + length new.octets + 2)

-- what holds after events, by what is known then, and remembered
pub record WorldIs (settings : Settings) (done : List Event) (w : World WholeSession) (v : World RememberedSession) : Type 0 where
  -- the sessions that remember are those that are known;
  pub remembers : world_as (λ (t : RememberedSession). t.session) v ≡ w
  -- in each the octets that were sent to a host are a prefix of the peer's stream with its address lines renamed by the session's pair, or its
  -- messages by the session's lists, and acknowledgements cover only octets whose images were acknowledged;
  pub sessions : EachTracked SessionIs v.connections
  -- the pair of each session is what crossing gives for its hosts;
  pub pairs : EachTracked (PairCrosses w.table) w.connections
  -- what its lists rename is bound, as it is listed, for as long as its connection lives, so that crossing gives each listed address its one
  -- image;
  pub lists : All (KeepsLists whole_rules w.table) w.connections × EachTracked (ListsCross whole_rules w.table) w.connections
  -- sessions go on: of their hosts' octets nothing waits but held rests;
  pub waits : EachTracked (λ t. OnlyRestsWait (streams_of t)) v.connections
  -- where a host sends again what it has no acknowledgement of, and the other acknowledges what it has, there are no more such rounds than
  -- octets and their image have;
  pub rounds : (host : Host) (t : Tracked RememberedSession) (knows had : ℕ) (rounds : List FrameRound)
      → RoundsEnd settings done host t knows had rounds
  -- while a connection lives, both its hosts are reached;
  pub reached : (now : ℕ) → All (λ c. now < c.until.0 → ReachesHosts (at_moment w now).table c) w.connections
  -- what settings fix is for good: at every moment, whatever frames came, a host and its alias are called each other;
  pub fixed : (side : Side) (host alias : Addr) → IsFixed settings side host alias → (now : ℕ) → CrossBack (at_moment w now).table side host alias
  -- and a binding that isn't static ends exactly with a use of its own
  pub origins : All (ComesFromUse whole_rules settings done) w.table.entries

-- what a later frame finds, with these between it and one that passed, by what is known before each
pub record LaterIs (w : World WholeSession) (e : Event) (between : List Event) (v : World WholeSession) (x : Event) : Type 0 where
  -- while the frame keeps an address, that is called as it was, everybody reaches it so, and nobody else is called so;
  pub aliases : (address : Addr) (until : ℕ) → IsKeptUntil whole_rules w e address until → AllBefore until between → x.moment < until
      → KeepsAlias whole_rules w e address v x
  -- whoever answers what is read in the octets that went out replies to it;
  pub answers : (sent : List ℕ) → GoesAsItCame w e → AreOctets e.octets → out whole_rules w e ≡ sent ∷ [] → IsAnswer sent e x → IsReply whole_rules w e x
  -- while its header keeps its addresses, a reply to it comes back;
  pub replies : IsReply whole_rules w e x → AllBefore (header_until whole_rules w e) between → x.moment < header_until whole_rules w e
      → ComesBack whole_rules e v x
  -- and an ICMP error about it holds what was sent
  pub errors : IsAbout whole_rules w e x → AllBefore (header_until whole_rules w e) between → x.moment < header_until whole_rules w e
      → ComesHome whole_rules e v x

-- by accepted settings, at each of these events and after each
pub record Promised (settings : Settings) (events : List Event) : Type 0 where
  -- each frame is forwarded at its own event, unless exactly its named refusal holds; one that no session takes goes out as its renaming;
  pub frames : (done others : List Event) (e : Event) → events ≡ done ++ e ∷ others → FrameIs settings done (known_after settings done) e
  -- each segment that a session takes goes out as that session's stream does;
  pub segments : (done others : List Event) (e : Event) → events ≡ done ++ e ∷ others → (t : Tracked RememberedSession)
      → TakesSegment remembering_rules (remembered_after settings done) e t
      → SegmentIs (known_after settings done) (remembered_after settings done) e t
  -- nothing else changes a session, whatever frames come in between;
  pub through : (done others : List Event) (e : Event) → events ≡ done ++ e ∷ others
      → EachTracked (ComesThrough (remembered_after settings done) e) (next remembering_rules (remembered_after settings done) e).connections
  -- after each event, sessions, connections and bindings are as WorldIs says;
  pub worlds : (done others : List Event)
      → events ≡ done ++ others
      → WorldIs settings done (known_after settings done) (remembered_after settings done)
  -- and later frames find what a frame that passed has kept
  pub later : (done between others : List Event) (e x : Event) → events ≡ done ++ e ∷ (between ++ x ∷ others)
      → verdict whole_rules (known_after settings done) e ≡ Pass
      → LaterIs (known_after settings done) e between (known_after settings (done ++ e ∷ between)) x
