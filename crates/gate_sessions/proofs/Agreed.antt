-- What is kept of a session answers as it does, and goes on as it does.
use Rattle.std.proofs.Common.{◌≡◌, ℕ, List, [], length, max, Option, Some, None, option_map, refl, sym, ◌∙◌, ap, subst, arith, fold}
use Rattle.gate_base.specs.Prelude.{Event}
use Rattle.gate_base.specs.declared.address.Addr.{Addr}
use Rattle.gate_base.specs.declared.event.Pair.{Pair}
use Rattle.gate_base.specs.declared.host.Host.{Host}
use Rattle.gate_base.specs.declared.host.Host.TheVariants.{Client, Server}
use Rattle.gate_settings.specs.declared.settings.Settings.{Settings}
use Rattle.dialogue.specs.Prelude.{Entry, AllListed, Meaning, IsLawful}
use Rattle.dns_stream.specs.Prelude.{unit_addresses}
use Rattle.shift_ledger.specs.Prelude.{StandsFor as Stands}
use Rattle.stream_model.specs.Prelude.{Sender, Session, Segment, own, session_next, open_of, segment_refusal}
use Rattle.stream_model.proofs.PassLemmas.{passes}
use Rattle.compact_stream.specs.Prelude.{InRange, extent_kept, unlike_kept, kept_out, CompactState, StandsForSession, kept_refusal, kept_next}
use Rattle.compact_stream.proofs.Begins.{session_begins, ranges_begin}
use Rattle.compact_stream.proofs.OpenLines.{open_is}
use Rattle.compact_stream.proofs.RangeLemmas.{own_in_range, other_in_range}
use Rattle.compact_stream.proofs.SessionLemmas.{verdict_is, goes_on}
use Rattle.stream_gate.proofs.OutLaw.{session_out_is, session_ends_is, session_inner_is}
use Rattle.stream_gate.specs.Prelude.{nothing_pushed}
use Rattle.gate_model.specs.Prelude.{Lists, with_list, addresses_in, entered, Agree, AreRelated, whole_rules, WholeSession, lists_at, meaning_by, entries_by, units_by, completed, whole_units, whole_next, next, World, opening_world}
use Rattle.gate_model.proofs.Entering.{listed_units_more}
use Rattle.gate_model.proofs.Related.{related_run, opening_related}
use Rattle.gate_model.proofs.RememberedSessions.{IsLonger, longer, learned, meaning_lawful, units_next, new_listed, made_each}
use Rattle.gate_sessions.specs.Compact.{CompactSession, kept_units, compact_rules, StandsFor, AllNamesListed}
use Rattle.gate_sessions.proofs.Completed.{completed_is}
use Rattle.gate_sessions.proofs.Relearned.{keeps_longer, in_range_longer}

nothing_stands : Stands nothing_pushed [] 0
nothing_stands = record { proper = tt; octets_in = refl; octets_out = refl; changed = refl; within = omega arith }

pub made_stands : (port : ℕ) (pair : Pair) (initial mss : ℕ)
    → StandsFor (whole_rules.made port pair initial mss) (compact_rules.made port pair initial mss)
made_stands port pair initial mss =
    let m = meaning_by (lists_at port) pair Client in
    let n = meaning_by (lists_at port) pair Server in
    let ranges =
    ranges_begin m n initial mss nothing_pushed nothing_pushed (meaning_lawful (lists_at port) pair Client)
    (meaning_lawful (lists_at port) pair Server) nothing_stands nothing_stands in
    record {
      lists = refl;
      session = session_begins m n initial mss nothing_pushed nothing_pushed nothing_stands nothing_stands;
      client = ranges.0;
      server = ranges.1;
      listed = made_each (λ es u. AllListed es (unit_addresses u)) (lists_at port) m n initial mss;
    }

-- ## What a segment completes

units_at : (lists : Option Lists) (pair : Pair) (h : CompactState) (s : Session) (f : Host) (g : Segment)
    → StandsForSession (meaning_by lists pair Client) (meaning_by lists pair Server) h s → segment_refusal f s g ≡ None
    → kept_units f (record { pair = pair; lists = lists; kept = h }) g ≡ units_by lists (completed (own f s) g)
units_at None pair h s f g st v = refl
units_at (Some l) pair h s Client g st v = completed_is l.client Client h.client s.client s.server g st.client (passes Client s.client s.server g v)
units_at (Some l) pair h s Server g st v = completed_is l.server Server h.server s.server s.client g st.server (passes Server s.server s.client g v)

-- ## A session that has learned, and then goes on

-- what is kept is that of a session, in its ranges
record Fits (m n : Meaning) (h : CompactState) (s : Session) : Type 0 where
  session : StandsForSession m n h s
  client : InRange m h.client
  server : InRange n h.server

fits_learned : (lists : Option Lists) (pair : Pair) (f : Host) (h : CompactState) (s : Session) (es : List Entry) → IsLonger lists f es
    → AllNamesListed lists f (own f s).octets → Fits (meaning_by lists pair Client) (meaning_by lists pair Server) h s
    → let after = option_map (with_list f es) lists in Fits (meaning_by after pair Client) (meaning_by after pair Server) h (learned f after s)
fits_learned None pair Client h s es more listed st =
    record { session = record { client = st.session.client; server = st.session.server }; client = st.client; server = st.server }
fits_learned None pair Server h s es more listed st =
    record { session = record { client = st.session.client; server = st.session.server }; client = st.client; server = st.server }
fits_learned (Some l) pair Client h s es more listed st = record {
  session = record { client = keeps_longer l.client es h.client s.client more listed st.session.client; server = st.session.server };
  client = in_range_longer l.client es h.client st.client;
  server = st.server;
}
fits_learned (Some l) pair Server h s es more listed st = record {
  session = record { client = st.session.client; server = keeps_longer l.server es h.server s.server more listed st.session.server };
  client = st.client;
  server = in_range_longer l.server es h.server st.server;
}

fits_next : (m n : Meaning) → IsLawful m → IsLawful n → (f : Host) (h : CompactState) (s : Session) (g : Segment) → segment_refusal f s g ≡ None
    → Fits m n h s → Fits m n (kept_next m n f h g) (session_next f s g)
fits_next m n law_m law_n Client h s g v st =
    let w : kept_refusal Client h g ≡ None = verdict_is m n h s Client g st.session ∙ v in
    record {
      session = goes_on m n law_m law_n h s Client g st.client.acked st.server.acked st.session v;
      client = own_in_range Client m law_m h.client (extent_kept h.server) g (unlike_kept h.client g) st.client w;
      server = other_in_range Client n h.server (extent_kept h.client) g (unlike_kept h.client g) st.server w;
    }
fits_next m n law_m law_n Server h s g v st =
    let w : kept_refusal Server h g ≡ None = verdict_is m n h s Server g st.session ∙ v in
    record {
      session = goes_on m n law_m law_n h s Server g st.client.acked st.server.acked st.session v;
      client = other_in_range Server m h.client (extent_kept h.server) g (unlike_kept h.server g) st.client w;
      server = own_in_range Server n law_n h.server (extent_kept h.client) g (unlike_kept h.server g) st.server w;
    }

-- what the lists are after a segment
abbrev lists_with : (Addr → Option Addr) → Option Lists → Host → List (List ℕ) → Option Lists
lists_with image lists f units = option_map (with_list f (entered image (entries_by lists f) (addresses_in units))) lists

abbrev session_with : (Addr → Option Addr) → Option Lists → Host → Session → Segment → Session
session_with image lists f s g = learned f (lists_with image lists f (units_by lists (completed (own f s) g))) s

-- the session that has learned passes the segment too, since what is kept of it is the same
learned_passes : (m n m' n' : Meaning) (f : Host) (h : CompactState) (s y : Session) (g : Segment) → StandsForSession m n h s
    → StandsForSession m' n' h y → segment_refusal f s g ≡ None → segment_refusal f y g ≡ None
learned_passes m n m' n' f h s y g a b v = sym (verdict_is m' n' h y f g b) ∙ verdict_is m n h s f g a ∙ v

meaning_is : (m n : Meaning) (f : Host) (h : CompactState) (s : Session) (own_meaning : Host → Meaning) → own_meaning Client ≡ m
    → own_meaning Server ≡ n → StandsForSession m n h s → (own f s).meaning ≡ own_meaning f
meaning_is m n Client h s o a b st = ap (λ (x : Sender). x.meaning) st.client.is ∙ sym a
meaning_is m n Server h s o a b st = ap (λ (x : Sender). x.meaning) st.server.is ∙ sym b

pub next_at : (image : Addr → Option Addr) (lists : Option Lists) (pair : Pair) (f : Host) (h : CompactState) (s : Session) (g : Segment)
    → StandsFor (record { lists = lists; session = s }) (record { pair = pair; lists = lists; kept = h }) → segment_refusal f s g ≡ None
    → StandsFor (whole_next image f (record { lists = lists; session = s }) g)
    (compact_rules.next image f (record { pair = pair; lists = lists; kept = h }) g)
next_at image lists pair f h s g st v =
    let units = units_by lists (completed (own f s) g) in
    let es = entered image (entries_by lists f) (addresses_in (units_by lists (completed (own f s) g))) in
    let after = lists_with image lists f (units_by lists (completed (own f s) g)) in
    let more = longer lists f image (addresses_in (units_by lists (completed (own f s) g))) in
    let first = fits_learned lists pair f h s es more (st.listed f) (record { session = st.session; client = st.client; server = st.server }) in
    let w = learned_passes (meaning_by lists pair Client) (meaning_by lists pair Server) (meaning_by after pair Client)
    (meaning_by after pair Server) f h s (session_with image lists f s g) g st.session first.session v in
    let last =
    fits_next (meaning_by after pair Client) (meaning_by after pair Server) (meaning_lawful after pair Client)
    (meaning_lawful after pair Server) f h (session_with image lists f s g) g w first in
    let at : StandsFor (whole_next image f (record { lists = lists; session = s }) g)
    (record { pair = pair; lists = after; kept = kept_next (meaning_by after pair Client) (meaning_by after pair Server) f h g }) = record {
      lists = refl;
      session = last.session;
      client = last.client;
      server = last.server;
      listed =
          λ host. units_next (λ es u. AllListed es (unit_addresses u)) listed_units_more lists pair host f s g es more
          (meaning_is (meaning_by lists pair Client) (meaning_by lists pair Server) f h s (meaning_by lists pair) refl refl st.session)
          (st.listed f) (st.listed host) (new_listed image lists f (completed (own f s) g));
    } in
    subst (λ (us : List (List ℕ)). StandsFor (whole_next image f (record { lists = lists; session = s }) g)
    (record {
      pair = pair;
      lists = lists_with image lists f us;
      kept =
          kept_next (meaning_by (lists_with image lists f us) pair Client) (meaning_by (lists_with image lists f us) pair Server) f h g;
    }))
    (sym (units_at lists pair h s f g st.session v)) at

pub out_at : (image : Addr → Option Addr) (lists : Option Lists) (pair : Pair) (f : Host) (h : CompactState) (s : Session) (g : Segment)
    → StandsFor (record { lists = lists; session = s }) (record { pair = pair; lists = lists; kept = h }) → segment_refusal f s g ≡ None
    → compact_rules.out image f (record { pair = pair; lists = lists; kept = h }) g
    ≡ whole_rules.out image f (record { lists = lists; session = s }) g
out_at image lists pair f h s g st v =
    let es = entered image (entries_by lists f) (addresses_in (units_by lists (completed (own f s) g))) in
    let after = lists_with image lists f (units_by lists (completed (own f s) g)) in
    let more = longer lists f image (addresses_in (units_by lists (completed (own f s) g))) in
    let first = fits_learned lists pair f h s es more (st.listed f) (record { session = st.session; client = st.client; server = st.server }) in
    let w = learned_passes (meaning_by lists pair Client) (meaning_by lists pair Server) (meaning_by after pair Client)
    (meaning_by after pair Server) f h s (session_with image lists f s g) g st.session first.session v in
    ap (λ (us : List (List ℕ)). kept_out (meaning_by (lists_with image lists f us) pair Client)
    (meaning_by (lists_with image lists f us) pair Server) f h g) (units_at lists pair h s f g st.session v)
    ∙ session_out_is (meaning_by after pair Client) (meaning_by after pair Server) (meaning_lawful after pair Client)
    (meaning_lawful after pair Server) h (session_with image lists f s g) f g first.client first.server first.session w

-- ## Both

-- with the same lists
same_lists : (x : WholeSession) (k : CompactSession) → StandsFor x k → StandsFor (record { lists = k.lists; session = x.session }) k
same_lists x k s = record { lists = refl; session = s.session; client = s.client; server = s.server; listed = s.listed }

pub next_stands : (image : Addr → Option Addr) (f : Host) (x : WholeSession) (k : CompactSession) (g : Segment) → StandsFor x k
    → segment_refusal f x.session g ≡ None → StandsFor (whole_next image f x g) (compact_rules.next image f k g)
next_stands image f x k g s v =
    subst (λ (lists : Option Lists). StandsFor (whole_next image f (record { lists = lists; session = x.session }) g)
    (compact_rules.next image f k g)) (sym s.lists)
    (next_at image k.lists k.pair f k.kept x.session g (same_lists x k s) v)

out_is : (image : Addr → Option Addr) (f : Host) (x : WholeSession) (k : CompactSession) (g : Segment) → StandsFor x k
    → segment_refusal f x.session g ≡ None → compact_rules.out image f k g ≡ whole_rules.out image f x g
out_is image f x k g s v =
    out_at image k.lists k.pair f k.kept x.session g (same_lists x k s) v
    ∙ ap (λ (lists : Option Lists). whole_rules.out image f (record { lists = lists; session = x.session }) g) (sym s.lists)

units_are : (f : Host) (x : WholeSession) (k : CompactSession) (g : Segment) → StandsFor x k → segment_refusal f x.session g ≡ None
    → kept_units f k g ≡ whole_units f x g
units_are f x k g s v = units_at k.lists k.pair k.kept x.session f g s.session v
    ∙ ap (λ (lists : Option Lists). units_by lists (completed (own f x.session) g)) (sym s.lists)

pub agreed : Agree StandsFor whole_rules compact_rules
agreed = record {
  made = made_stands;
  refusal = λ f x k g s. verdict_is (meaning_by k.lists k.pair Client) (meaning_by k.lists k.pair Server) k.kept x.session f g s.session;
  units = λ f x k g s v. units_are f x k g s v;
  listed = λ host x k s. ap (λ (lists : Option Lists). entries_by lists host) (sym s.lists);
  next = next_stands;
  out = out_is;
  ends = λ f x k g s. session_ends_is (meaning_by k.lists k.pair Client) (meaning_by k.lists k.pair Server) k.kept x.session f g s.session;
  inner = λ f x k number s. session_inner_is (meaning_by k.lists k.pair Client) (meaning_by k.lists k.pair Server)
      (meaning_lawful k.lists k.pair Client) (meaning_lawful k.lists k.pair Server) k.kept x.session f number s.client s.server s.session;
  pending = λ x k s.
      ap (λ (c : ℕ). max c (length k.kept.server.ledger.changed))
      (open_is (meaning_by k.lists k.pair Client) k.kept.client x.session.client s.session.client)
      ∙ ap (max (open_of x.session.client)) (open_is (meaning_by k.lists k.pair Server) k.kept.server x.session.server s.session.server);
}

pub run_related : (settings : Settings) (events : List Event)
    → AreRelated StandsFor (fold (next whole_rules) (opening_world settings) events) (fold (next compact_rules) (opening_world settings) events)
run_related settings events =
    related_run StandsFor whole_rules compact_rules agreed events (opening_world settings) (opening_world settings)
    (opening_related StandsFor settings)

pub pending_related : (w : World WholeSession) (v : World CompactSession) → AreRelated StandsFor w v → v.pending ≡ w.pending
pending_related w v h = ap (λ (x : World CompactSession). x.pending) (sym h.two) ∙ ap (λ (x : World WholeSession). x.pending) h.one
