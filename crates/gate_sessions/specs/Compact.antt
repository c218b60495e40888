-- Sessions by what is kept of them.
use Rattle.std.specs.Prelude.{◌≡◌, ℕ, cond, List, [], ◌++◌, drop, max, length, Option, IfSome, option_map}
use Rattle.gate_base.specs.declared.address.Addr.{Addr}
use Rattle.gate_base.specs.declared.event.Pair.{Pair}
use Rattle.gate_base.specs.declared.host.Host.{Host}
use Rattle.gate_base.specs.declared.host.Host.TheVariants.{Client, Server}
use Rattle.dialogue.specs.Prelude.{Entry, AllUnitsListed, Meaning, cut}
use Rattle.dns_stream.specs.Prelude.{unit_addresses, dns_units}
use Rattle.stream_model.specs.Prelude.{Segment, arrival, own, is_data}
use Rattle.compact_stream.specs.Prelude.{CompactSender, InRange, start_kept, kept_out, kept_ends, inner_kept, CompactState, StandsForSession, sender_kept, kept_made, kept_refusal, kept_next}
use Rattle.stream_gate.specs.Prelude.{nothing_pushed, IsListedStream as IsStreamListed}
use Rattle.gate_model.specs.Prelude.{Lists, list_of, with_list, addresses_in, entered, SessionRules, WholeSession, lists_at, meaning_by, entries_by, units_by}

-- the pair of a session's hosts, the lists of a DNS session, and what is kept of both hosts
pub record CompactSession : Type 0 where
  pub pair : Pair
  pub lists : Option Lists
  pub kept : CompactState

-- how many changed lines or units wait to be acknowledged
abbrev pub kept_pending : CompactState → ℕ
kept_pending h = max (length h.client.ledger.changed) (length h.server.ledger.changed)

-- the units that a sender's segment completes: those in the held rest and what goes on behind it
abbrev pub kept_completed : Meaning → CompactSender → Segment → List (List ℕ)
kept_completed m h segment = cond (is_data (arrival segment)) (cut m (h.rest ++ drop (start_kept h segment).before segment.octets)).units []

abbrev pub kept_units : Host → CompactSession → Segment → List (List ℕ)
kept_units from k segment = units_by k.lists (kept_completed (meaning_by k.lists k.pair from) (sender_kept from k.kept) segment)

-- the lists after the addresses of a segment's units were entered, by what they are called
abbrev pub kept_lists : (Addr → Option Addr) → Host → CompactSession → Segment → Option Lists
kept_lists image from k segment =
    option_map (with_list from (entered image (entries_by k.lists from) (addresses_in (kept_units from k segment)))) k.lists

-- sessions by what is kept of them
abbrev pub compact_rules : SessionRules CompactSession
compact_rules = record {
  made = λ port pair initial mss. record { pair = pair; lists = lists_at port; kept = kept_made initial mss nothing_pushed nothing_pushed };
  refusal = λ from k g. kept_refusal from k.kept g;
  units = kept_units;
  listed = λ host k. entries_by k.lists host;
  next = λ image from k g. let lists = kept_lists image from k g in
      record { pair = k.pair; lists = lists; kept = kept_next (meaning_by lists k.pair Client) (meaning_by lists k.pair Server) from k.kept g };
  out = λ image from k g. let lists = kept_lists image from k g in
      kept_out (meaning_by lists k.pair Client) (meaning_by lists k.pair Server) from k.kept g;
  ends = λ from k g. kept_ends from k.kept g;
  inner = λ host k number. inner_kept host k.kept number;
  pending = λ k. kept_pending k.kept;
}

-- each address of the whole units of a stream is listed, where there are lists
abbrev pub AllNamesListed : Option Lists → Host → List ℕ → Type 0
AllNamesListed lists host octets = IfSome lists (λ l. AllUnitsListed unit_addresses (dns_units (list_of host l)) (list_of host l) octets)

-- what is kept is that of this session, and in its ranges
pub record StandsFor (x : WholeSession) (k : CompactSession) : Type 0 where
  pub lists : x.lists ≡ k.lists
  pub session : StandsForSession (meaning_by k.lists k.pair Client) (meaning_by k.lists k.pair Server) k.kept x.session
  pub client : InRange (meaning_by k.lists k.pair Client) k.kept.client
  pub server : InRange (meaning_by k.lists k.pair Server) k.kept.server
  pub listed : (host : Host) → AllNamesListed k.lists host (own host x.session).octets

-- what is kept is that of some session, all of whose addresses are listed
pub record IsOfSome (k : CompactSession) : Type 0 where
  pub session : WholeSession
  pub stands : StandsFor session k

-- a stream of which this is kept, all of whose addresses are listed
abbrev pub IsListedStream : List Entry → CompactSender → Type 0
IsListedStream entries h = IsStreamListed unit_addresses (dns_units entries) entries h
