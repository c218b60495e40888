-- What was heard of a session goes on as the session does, and what holds of each session stays so.
use Rattle.std.proofs.Common.{◌≡◌, ◌≤◌, ℕ, List, length, Option, Some, None, refl, ◌∙◌, ap, arith}
use Rattle.gate_base.specs.declared.address.Addr.{Addr}
use Rattle.gate_base.specs.declared.event.Pair.{Pair}
use Rattle.gate_base.proofs.Hosts.{both}
use Rattle.gate_base.specs.declared.host.Host.{Host}
use Rattle.gate_base.specs.declared.host.Host.TheVariants.{Client, Server}
use Rattle.gate_base.specs.Prelude.{peer}
use Rattle.dialogue.specs.Prelude.{Entry, AllListed, Meaning}
use Rattle.dns_stream.specs.Prelude.{unit_addresses}
use Rattle.stream_model.specs.Prelude.{Session, Segment, own, session_next}
use Rattle.audit_streams.specs.Hosts.{Heard, sender_by}
use Rattle.gate_model.specs.Prelude.{HasLists, Lists, addresses_in, entered, Reads, whole_rules, WholeSession, lists_at}
use Rattle.gate_model.specs.Prelude.{meaning_by, entries_by, completed, whole_units, whole_learned, whole_next}
use Rattle.dialogue.specs.declared.TheConstants.{MOST_ENTRIES}
use Rattle.gate_model.specs.Sessions.{with_entries}
use Rattle.gate_model.proofs.Entering.{listed_units_more}
use Rattle.gate_model.proofs.ListsWorld.{whole_lists}
use Rattle.gate_model.proofs.RememberedSessions.{longer, units_next, new_listed, made_each, meaning_step}
use Rattle.audit_sessions.specs.Heard.{HeardSession, session_in, heard_of, heard_in, heard_rules, AreKnown, IsSession}

-- ## Sessions are read off what was heard of them

-- both hosts read by the session's lists
abbrev AreRead : Pair → Option Lists → Session → Type 0
AreRead pair lists s = (host : Host) → (own host s).meaning ≡ meaning_by lists pair host

abbrev with_meanings : Option Lists → Session → Meaning → Meaning → WholeSession
with_meanings lists s m n =
    record { lists = lists; session = record { client = sender_by m (heard_of s.client); server = sender_by n (heard_of s.server) } }

read_back : (pair : Pair) (lists : Option Lists) (s : Session) → AreRead pair lists s
    → (let x : WholeSession = record { lists = lists; session = s } in x) ≡ session_in (heard_in pair (record { lists = lists; session = s }))
read_back pair lists s r =
    ap (λ (m : Meaning). with_meanings lists s m s.server.meaning) (r Client)
    ∙ ap (with_meanings lists s (meaning_by lists pair Client)) (r Server)

next_read : (pair : Pair) (lists : Option Lists) (f : Host) (s : Session) (g : Segment) → AreRead pair lists s → (host : Host)
    → (own host (session_next f s g)).meaning ≡ meaning_by lists pair host
next_read pair lists f s g r host = meaning_step host f s g ∙ r host

abbrev entered_in : Pair → Option Lists → Heard → Heard → Host → List Entry → WholeSession
entered_in pair lists a b f es = with_entries f es (session_in (record { pair = pair; lists = lists; client = a; server = b }))

entered_read : (pair : Pair) (lists : Option Lists) (a b : Heard) (f : Host) (es : List Entry) (host : Host)
    → (own host (entered_in pair lists a b f es).session).meaning ≡ meaning_by (entered_in pair lists a b f es).lists pair host
entered_read pair None a b Client es Client = refl
entered_read pair None a b Client es Server = refl
entered_read pair None a b Server es Client = refl
entered_read pair None a b Server es Server = refl
entered_read pair (Some l) a b Client es Client = refl
entered_read pair (Some l) a b Client es Server = refl
entered_read pair (Some l) a b Server es Client = refl
entered_read pair (Some l) a b Server es Server = refl

learned_read : (image : Addr → Option Addr) (f : Host) (h : HeardSession) (g : Segment)
    → AreRead h.pair (whole_learned image f (session_in h) g).lists (whole_learned image f (session_in h) g).session
learned_read image f h g =
    entered_read h.pair h.lists h.client h.server f (entered image (entries_by h.lists f) (addresses_in (whole_units f (session_in h) g)))

pub reads_whole : Reads session_in heard_rules whole_rules
reads_whole = record {
  made = λ port pair initial mss. refl;
  refusal = λ f h g. refl;
  units = λ f h g n. refl;
  listed = λ host h. refl;
  next = λ image f h g n. let y : WholeSession = whole_learned image f (session_in h) g in
      read_back h.pair y.lists (session_next f y.session g) (next_read h.pair y.lists f y.session g (learned_read image f h g));
  out = λ image f h g n. refl;
  ends = λ f h g. refl;
  inner = λ f h number. refl;
  pending = λ h. refl;
}

pub heard_lists : HasLists heard_rules
heard_lists = record {
  made = λ port pair initial mss host. whole_lists.made port pair initial mss host;
  own = λ image f h g. whole_lists.own image f (session_in h) g;
  other = λ image f h g. whole_lists.other image f (session_in h) g;
  syn = λ f h g syn. whole_lists.syn f (session_in h) g syn;
}

-- ## What holds of each session

pub made_session : (port : ℕ) (pair : Pair) (initial mss : ℕ) → IsSession (heard_rules.made port pair initial mss)
made_session port pair initial mss = record {
  known = made_each (λ es u. AllListed es (unit_addresses u)) (lists_at port) (meaning_by (lists_at port) pair Client)
      (meaning_by (lists_at port) pair Server) initial mss;
  few = λ host. omega (arith, ap length (heard_lists.made port pair initial mss host));
}

own_read : (f : Host) (h : HeardSession) → (own f (session_in h).session).meaning ≡ meaning_by h.lists h.pair f
own_read Client h = refl
own_read Server h = refl

next_known : (image : Addr → Option Addr) (f : Host) (h : HeardSession) (g : Segment)
    → ((host : Host) → AreKnown h.lists host (own host (session_in h).session).octets) → (host : Host)
    → AreKnown (heard_rules.next image f h g).lists host (own host (session_in (heard_rules.next image f h g)).session).octets
next_known image f h g k =
    both (λ (b : Host). AreKnown (heard_rules.next image f h g).lists b (own b (session_in (heard_rules.next image f h g)).session).octets) Client
    (next Client) (next Server)
  where
    next : (host : Host) → AreKnown (whole_next image f (session_in h) g).lists host (own host (whole_next image f (session_in h) g).session).octets
    next host =
        units_next (λ es u. AllListed es (unit_addresses u)) listed_units_more h.lists h.pair host f (session_in h).session g
        (entered image (entries_by h.lists f) (addresses_in (whole_units f (session_in h) g)))
        (longer h.lists f image (addresses_in (whole_units f (session_in h) g)))
        (own_read f h) (k f) (k host) (new_listed image h.lists f (completed (own f (session_in h).session) g))

pub next_session : (image : Addr → Option Addr) (f : Host) (h : HeardSession) (g : Segment) → IsSession h
    → length (entered image (heard_rules.listed f h) (addresses_in (heard_rules.units f h g))) ≤ MOST_ENTRIES
    → IsSession (heard_rules.next image f h g)
next_session image f h g k few = record {
  known = next_known image f h g k.known;
  few = both (λ (b : Host). length (heard_rules.listed b (heard_rules.next image f h g)) ≤ MOST_ENTRIES) f
      (omega (arith, few, ap length (heard_lists.own image f h g)))
      (omega (arith, k.few (peer f), ap length (heard_lists.other image f h g)));
}
