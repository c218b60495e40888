-- Sessions by all that was heard of both hosts: they answer as sessions over whole lists do.
use Rattle.std.specs.Prelude.{◌≤◌, ℕ, List, Option, IfSome, length}
use Rattle.gate_base.specs.declared.event.Pair.{Pair}
use Rattle.gate_base.specs.declared.host.Host.{Host}
use Rattle.gate_base.specs.declared.host.Host.TheVariants.{Client, Server}
use Rattle.dns_stream.specs.Prelude.{unit_addresses, dns_units}
use Rattle.stream_model.specs.Prelude.{Sender, own}
use Rattle.audit_streams.specs.Hosts.{Heard, sender_by}
use Rattle.dialogue.specs.Prelude.{AllUnitsListed}
use Rattle.gate_model.specs.Prelude.{Lists, list_of, SessionRules, whole_rules, WholeSession, meaning_by}
use Rattle.dialogue.specs.declared.TheConstants.{MOST_ENTRIES}
use Rattle.lawful_files.specs.Wanted.{Sends, whole_sent}

-- the pair of a session's hosts, its lists where it is one of DNS, and what was heard of both hosts
pub record HeardSession : Type 0 where
  pub pair : Pair
  pub lists : Option Lists
  pub client : Heard
  pub server : Heard

-- the session over whole lists of which this was heard
abbrev pub session_in : HeardSession → WholeSession
session_in h = record {
  lists = h.lists;
  session = record { client = sender_by (meaning_by h.lists h.pair Client) h.client; server = sender_by (meaning_by h.lists h.pair Server) h.server };
}

-- what was heard of a sender
abbrev pub heard_of : Sender → Heard
heard_of a = record { mss = a.mss; initial = a.initial; octets = a.octets; ended = a.ended; acked = a.acked }

-- and of a session of hosts of this pair
abbrev pub heard_in : Pair → WholeSession → HeardSession
heard_in pair x = record { pair = pair; lists = x.lists; client = heard_of x.session.client; server = heard_of x.session.server }

-- sessions by what was heard
abbrev pub heard_rules : SessionRules HeardSession
heard_rules = record {
  made = λ port pair initial mss. heard_in pair (whole_rules.made port pair initial mss);
  refusal = λ from h g. whole_rules.refusal from (session_in h) g;
  units = λ from h g. whole_rules.units from (session_in h) g;
  listed = λ host h. whole_rules.listed host (session_in h);
  next = λ image from h g. heard_in h.pair (whole_rules.next image from (session_in h) g);
  out = λ image from h g. whole_rules.out image from (session_in h) g;
  ends = λ from h g. whole_rules.ends from (session_in h) g;
  inner = λ host h number. whole_rules.inner host (session_in h) number;
  pending = λ h. whole_rules.pending (session_in h);
}

-- what they send for a segment that passes, before it is cut
abbrev pub heard_sent : Sends HeardSession
heard_sent image from h g = whole_sent image from (session_in h) g

-- all addresses in the whole units of a host's octets have an entry, where there are lists
abbrev pub AreKnown : Option Lists → Host → List ℕ → Type 0
AreKnown lists host octets = IfSome lists (λ l. AllUnitsListed unit_addresses (dns_units (list_of host l)) (list_of host l) octets)

-- what holds of each session by itself: all addresses that were heard of are listed, and no list is longer than the most
pub record IsSession (h : HeardSession) : Type 0 where
  pub known : (host : Host) → AreKnown h.lists host (own host (session_in h).session).octets
  pub few : (host : Host) → length (heard_rules.listed host h) ≤ MOST_ENTRIES
