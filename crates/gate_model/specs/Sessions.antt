-- Sessions over whole lists of octets: one of FTP, or one of DNS, which has lists of entries besides.
use Rattle.std.specs.Prelude.{ℕ, ◌==◌, if◌then◌else◌, List, [], drop, length, Option, Some, None, option_map}
use Rattle.gate_base.specs.declared.address.Addr.{Addr}
use Rattle.gate_base.specs.declared.event.Pair.{Pair}
use Rattle.gate_base.specs.declared.host.Host.{Host}
use Rattle.gate_base.specs.declared.host.Host.TheVariants.{Client, Server}
use Rattle.dialogue.specs.Prelude.{Entry, Meaning, cut}
use Rattle.dns_stream.specs.Prelude.{dns_units}
use Rattle.ftp_lines.specs.Renaming.{client_lines, server_lines}
use Rattle.stream_model.specs.Prelude.{Sender, Session, Segment, own, other, session, session_next, own_after}
use Rattle.gate_base.specs.declared.protocol.TheConstants.{DNS_PORT}
use Rattle.gate_model.specs.Lists.{Lists, list_of, with_list, addresses_in, entered}

-- the session of both hosts, and its lists where it is one of DNS
pub record WholeSession : Type 0 where
  pub lists : Option Lists
  pub session : Session

-- the lists with which a session on a port of the server begins: only one of DNS has lists, and nothing is listed
abbrev pub lists_at : ℕ → Option Lists
lists_at port = if port == DNS_PORT then Some (record { client = []; server = [] }) else None

-- how the octets of a host are cut and renamed: by the lines of FTP and the pair of the hosts, or by the units of DNS and the list
abbrev pub meaning_by : Option Lists → Pair → Host → Meaning
meaning_by None pair Client = client_lines pair
meaning_by None pair Server = server_lines pair
meaning_by (Some lists) pair host = dns_units (list_of host lists)

-- the entries of a host
abbrev pub entries_by : Option Lists → Host → List Entry
entries_by None host = []
entries_by (Some lists) host = list_of host lists

-- units, where the session is one of DNS
abbrev pub units_by : Option Lists → List (List ℕ) → List (List ℕ)
units_by None units = []
units_by (Some lists) units = units

-- the units that a sender's segment completes: those that are whole in its octets after the segment and weren't before
abbrev pub completed : Sender → Segment → List (List ℕ)
completed sender segment = drop (length (cut sender.meaning sender.octets).units) (cut sender.meaning (own_after sender segment).octets).units

-- a sender whose units are renamed by its list, if there are lists
abbrev pub reads_by : Option Lists → Host → Sender → Sender
reads_by None host sender = sender
reads_by (Some lists) host sender = record sender { meaning = dns_units (list_of host lists) }

-- the session in which the list of a host is another
abbrev pub with_entries : Host → List Entry → WholeSession → WholeSession
with_entries host entries x =
    let lists = option_map (with_list host entries) x.lists in
    record { lists = lists; session = session host (reads_by lists host (own host x.session)) (other host x.session) }

-- the units that a segment completes in a session of DNS
abbrev pub whole_units : Host → WholeSession → Segment → List (List ℕ)
whole_units from x segment = units_by x.lists (completed (own from x.session) segment)

-- the session that has learned what a segment's units name: their addresses are entered into the list of its sender
abbrev pub whole_learned : (Addr → Option Addr) → Host → WholeSession → Segment → WholeSession
whole_learned image from x segment = with_entries from (entered image (entries_by x.lists from) (addresses_in (whole_units from x segment))) x

-- and that has taken the segment then
abbrev pub whole_next : (Addr → Option Addr) → Host → WholeSession → Segment → WholeSession
whole_next image from x segment = let y = whole_learned image from x segment in record y { session = session_next from y.session segment }
