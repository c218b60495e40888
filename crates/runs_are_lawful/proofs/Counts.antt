-- How many datagrams an event gives.
use Rattle.std.proofs.Common.{◌≡◌, ◌≤◌, ◌<◌, ◌+◌, ◌-◌, ◌/◌, ◌^◌, ℕ, zero, suc, Bool, true, false, cond, List, [], ◌∷◌, length, drop, Option, Some, None, refl, sym, ap, subst, arith, length-take, length-drop, IfSome, nat_lt, slice_range, if◌then◌else◌}
use Rattle.std.proofs.Math.Nat.{div-le_self}
use Rattle.std.proofs.lemmas.List.{length-map}
use Rattle.std.proofs.lemmas.List.Elements.{All-filter}
use Rattle.dialogue.specs.Prelude.{Meaning, IsLawful, image}
use Rattle.dns_stream.specs.Prelude.{dns_units-lawful}
use Rattle.gate_base.specs.Prelude.{Event}
use Rattle.gate_base.specs.declared.address.Addr.{Addr}
use Rattle.gate_base.specs.declared.event.Pair.{Pair}
use Rattle.verdicts.specs.declared.verdict.Verdict.{Verdict}
use Rattle.verdicts.specs.declared.verdict.Verdict.TheVariants.{Pass, Refused, Held}
use Rattle.gate_base.specs.declared.side.Side.{Side}
use Rattle.gate_base.specs.declared.host.Host.{Host}
use Rattle.gate_base.specs.declared.host.Host.TheVariants.{Client, Server}
use Rattle.binding_table.specs.Prelude.{Bindings}
use Rattle.ipv4_frames.specs.Ipv4.{Datagram}
use Rattle.stream_model.specs.Prelude.{Sender, Session, Segment, own, other, session, extent, start_of, segment_refusal, Sent, pieces, limit_of, taken, standing, low, high, acknowledgement_at, acked_with, syn_sent, reset_sent, other_sent, sent, session_out, session_next, session_made, own_after}
use Rattle.stream_model.specs.Sending.{sent_in}
use Rattle.stream_model.specs.declared.refusals.Extent.{Extent}
use Rattle.stream_model.specs.declared.numbers.Offset.{Offset}
use Rattle.stream_model.proofs.Cutting.{pieces_from, pieces_are}
use Rattle.stream_model.proofs.FactLemmas.{image_small, short_step}
use Rattle.tcp_tracker.specs.Prelude.{is_live}
use Rattle.tcp_tracker.specs.declared.connection.Connection.{Connection}
use Rattle.gate_model.specs.Prelude.{Whole, Kind, Stream, datagram_in, kind_of, Lists, list_of, whole_rules, WholeSession, lists_at, meaning_by}
use Rattle.gate_model.specs.Prelude.{reads_by, whole_learned, out, out_by, out_kind, stream_out, taker_in, tcp_of, segment_of, sent_as, found_in}
use Rattle.gate_model.specs.Prelude.{key_in, begins, made_by, taker_by, session_refusal, EachTracked, table_after, image_in, kind_tests, verdict}
use Rattle.gate_model.specs.Prelude.{World, Tracked, at_moment, called, source_of, destination_of, host_on}
use Rattle.gate_model.proofs.Passing.{NoneHolds, passes, stream_passes}
use Rattle.gate_model.proofs.RememberedSessions.{meaning_lawful, meaning_step}
use Rattle.gate_model.proofs.Tracking.{Keeps, all_found}

-- ## What each session keeps

pub record Fit (a : Sender) : Type 0 where
  pub lawful : IsLawful a.meaning
  pub short : length a.octets < 2 ^ 30

abbrev pub AreFit : Tracked WholeSession → Type 0
AreFit t = (host : Host) → Fit (own host t.session.session)

made_fit : (lists : Option Lists) (pair : Pair) (initial mss : ℕ) (host : Host)
    → Fit (own host (session_made (meaning_by lists pair Client) (meaning_by lists pair Server) initial mss))
made_fit lists pair initial mss Client = record { lawful = meaning_lawful lists pair Client; short = omega arith }
made_fit lists pair initial mss Server = record { lawful = meaning_lawful lists pair Server; short = omega arith }

-- the session that has learned, whatever its lists are
abbrev learned : Option Lists → Host → Session → Session
learned lists from s = session from (reads_by lists from (own from s)) (other from s)

learned_fit : (lists : Option Lists) (host from : Host) (s : Session) → Fit (own host s) → Fit (own host (learned lists from s))
learned_fit None Client Client s h = h
learned_fit None Client Server s h = h
learned_fit None Server Client s h = h
learned_fit None Server Server s h = h
learned_fit (Some lists) Client Client s h = record { lawful = dns_units-lawful (list_of Client lists); short = h.short }
learned_fit (Some lists) Server Server s h = record { lawful = dns_units-lawful (list_of Server lists); short = h.short }
learned_fit (Some lists) Client Server s h = h
learned_fit (Some lists) Server Client s h = h

-- the octets afterwards don't depend on how they are read
own_short : (lists : Option Lists) (from : Host) (a : Sender) (g : Segment) → length (own_after a g).octets < 2 ^ 30
    → length (own_after (reads_by lists from a) g).octets < 2 ^ 30
own_short None from a g h = h
own_short (Some lists) from a g h = by_flags g.flags.syn g.flags.reset h
  where
    by_flags : (syn reset : Bool) → length (cond syn (record a { initial = Some g.sequence; mss = g.mss }) (cond reset a (taken a g))).octets < 2 ^ 30
        → length (cond syn (record (reads_by (Some lists) from a) { initial = Some g.sequence; mss = g.mss })
        (cond reset (reads_by (Some lists) from a) (taken (reads_by (Some lists) from a) g))).octets < 2 ^ 30
    by_flags true reset k = k
    by_flags false true k = k
    by_flags false false k = k

next_short : (lists : Option Lists) (host from : Host) (s : Session) (g : Segment) → length (own host (session_next from s g)).octets < 2 ^ 30
    → length (own host (session_next from (learned lists from s) g)).octets < 2 ^ 30
next_short lists Client Client s g h = own_short lists Client s.client g h
next_short lists Server Server s g h = own_short lists Server s.server g h
next_short lists Client Server s g h = h
next_short lists Server Client s g h = h

next_fit : (lists : Option Lists) (from host : Host) (s : Session) (g : Segment) → segment_refusal from s g ≡ None → Fit (own host s)
    → Fit (own host (session_next from (learned lists from s) g))
next_fit lists from host s g v h = record {
  lawful = subst (λ (m : Meaning). IsLawful m) (sym (meaning_step host from (learned lists from s) g)) (learned_fit lists host from s h).lawful;
  short = next_short lists host from s g (short_step host from s g v h.short);
}

pub fit_keeps : Keeps whole_rules AreFit
fit_keeps = record {
  made = λ port side pair initial mss host. made_fit (lists_at port) pair initial mss host;
  next = λ image from t g v fit h host. next_fit (whole_learned image from t.session g).lists from host t.session.session g v (h host);
}

-- ## How many segments a session sends

count_pieces : (limit offset : ℕ) (octets : List ℕ) (fin push : Bool) → length (pieces limit offset octets fin push) ≤ length octets + 1
count_pieces limit offset octets fin push =
    let few : (length octets - 1) / limit ≤ length octets - 1 = div-le_self (length octets - 1) limit in
    omega (arith, few, ap length (pieces_are limit offset octets fin push), count_from ((length octets - 1) / limit) limit offset octets fin push)
  where
    count_from : (whole limit offset : ℕ) (octets : List ℕ) (fin push : Bool) → length (pieces_from whole limit offset octets fin push) ≡ whole + 1
    count_from zero limit offset octets fin push = omega arith
    count_from (suc whole) limit offset octets fin push = omega (arith, count_from whole limit (offset + limit) (drop limit octets) fin push)

part_short : (xs : List ℕ) (low high : ℕ) → length (slice_range xs low high) ≤ length xs
part_short xs low high = omega (arith, length-take (high - low) (drop low xs), length-drop low xs)

sent_few : (s : Sent) (octets : List ℕ) → length (sent_in s octets) ≤ length octets + 1
sent_few s [] = omega arith
sent_few s (x ∷ xs) = rw length-map (count_pieces s.limit 0 (x ∷ xs) s.flags.fin s.flags.push)

either_few : (b : Bool) (x y : Sent) (most : ℕ) → length x.octets ≤ most → y.octets ≡ [] → length (cond b x y).octets ≤ most
either_few true x y most few none = few
either_few false x y most few none = omega (arith, ap length none)

data_few : (old : Extent) (new : Sender) (start : Offset) (g : Segment) (ack limit : ℕ)
    → length (other_sent old (standing new) start g ack limit).octets ≤ length (image new.meaning new.octets)
data_few old new start g ack limit =
    either_few (nat_lt (low old (standing new) start) (high old (standing new) start (length g.octets) g.flags.fin)) _ _ _
    (part_short (image new.meaning new.octets) (low old (standing new) start) (high old (standing new) start (length g.octets) g.flags.fin)) refl

sender_few : (a b : Sender) (g : Segment) → IsLawful a.meaning → length (own_after a g).octets < 2 ^ 30 → length (sent a b g).octets + 1 < 2 ^ 31
sender_few a b g law short = by_flags g.flags.syn g.flags.reset short
  where
    by_flags : (syn reset : Bool)
        → length (cond syn (record a { initial = Some g.sequence; mss = g.mss }) (cond reset a (taken a g))).octets < 2 ^ 30
        → length (cond syn (syn_sent g (limit_of b.mss g))
        (cond reset (reset_sent (standing a) (standing b) g (limit_of b.mss g))
        (other_sent (extent a) (standing (taken a g)) (start_of a g) g (acknowledgement_at (standing b) (acked_with (standing b) g))
        (limit_of b.mss g)))).octets + 1 < 2 ^ 31
    by_flags true reset h = omega arith
    by_flags false true h = omega arith
    by_flags false false h =
        omega (
          arith,
          h,
          data_few (extent a) (taken a g) (start_of a g) g (acknowledgement_at (standing b) (acked_with (standing b) g)) (limit_of b.mss g),
          image_small a.meaning law (taken a g).octets,
        )

session_few : (from : Host) (s : Session) (g : Segment) → Fit (own from s) → length (own from (session_next from s g)).octets < 2 ^ 30
    → length (session_out from s g) < 2 ^ 31
session_few Client s g h short =
    omega (arith, sent_few (sent s.client s.server g) (sent s.client s.server g).octets, sender_few s.client s.server g h.lawful short)
session_few Server s g h short =
    omega (arith, sent_few (sent s.server s.client g) (sent s.server s.client g).octets, sender_few s.server s.client g h.lawful short)

whole_few : (image : Addr → Option Addr) (from : Host) (x : WholeSession) (g : Segment) → segment_refusal from x.session g ≡ None
    → Fit (own from x.session) → length (session_out from (whole_learned image from x g).session g) < 2 ^ 31
whole_few image from x g v h =
    let lists = (whole_learned image from x g).lists in
    session_few from (learned lists from x.session) g (learned_fit lists from from x.session h)
    (next_short lists from from x.session g (short_step from from x.session g v h.short))

-- ## How many datagrams an event gives

taker_fit : (table : Bindings) (side : Side) (d : Datagram) (found : Option (Connection (Tracked WholeSession)))
    → IfSome found (λ c. IfSome c.session AreFit) → IfSome (taker_by whole_rules table side d found) AreFit
taker_fit table side d None h = by_test (begins {S = WholeSession} None d)
  where
    by_test : (b : Bool) → IfSome (if b then Some (made_by whole_rules table side d) else None) AreFit
    by_test true = fit_keeps.made (tcp_of d).destination_port side (made_by whole_rules table side d).pair (tcp_of d).sequence (tcp_of d).mss
    by_test false = tt
taker_fit table side d (Some c) h = h

stream_few : (image : Addr → Option Addr) (side : Side) (d : Datagram) (source destination : ℕ) (t : Option (Tracked WholeSession))
    → session_refusal whole_rules side d t ≡ None → IfSome t AreFit → length (stream_out whole_rules image side d source destination t) < 2 ^ 32
stream_few image side d source destination None v h = omega arith
stream_few image side d source destination (Some t) v h =
    let from = host_on side t in
    omega (
      arith,
      length-map (session_out from (whole_learned image from t.session (segment_of d)).session (segment_of d))
          (sent_as d source destination),
      whole_few image from t.session (segment_of d) v (h from),
    )

kind_few : (live : World WholeSession) (side : Side) (moment : ℕ) (d : Datagram) (kind : Kind)
    → (kind ≡ Stream → session_refusal whole_rules side d (taker_in whole_rules live side moment d) ≡ None) → EachTracked AreFit live.connections
    → length (out_kind whole_rules live side moment d kind) < 2 ^ 32
kind_few live side moment d (Whole payload) v h = omega arith
kind_few live side moment d Stream v h =
    let table = table_after whole_rules live side moment d Stream in
    stream_few (image_in whole_rules live side moment d) side d (called table side (source_of d)).0 (called table side (destination_of d)).0
    (taker_in whole_rules live side moment d) (v refl)
    (taker_fit table side d (found_in live side d) (all_found (λ c. IfSome c.session AreFit) (key_in live.table side d) live.connections h))

pub out_few : (w : World WholeSession) (e : Event) → EachTracked AreFit w.connections → length (out whole_rules w e) < 2 ^ 32
out_few w e h = by_verdict (verdict whole_rules w e) refl
  where
    by_verdict : (v : Verdict) → verdict whole_rules w e ≡ v → length (out_by whole_rules (at_moment w e.moment) e v) < 2 ^ 32
    by_verdict (Refused r) p = omega arith
    by_verdict Held p = omega arith
    by_verdict Pass p =
        kind_few (at_moment w e.moment) e.side e.moment (datagram_in e) (kind_of (datagram_in e))
        (λ same. (stream_passes whole_rules (at_moment w e.moment) e.side e.moment (datagram_in e)
        (subst (λ (k : Kind). NoneHolds (kind_tests whole_rules (at_moment w e.moment) e.side e.moment (datagram_in e) k)) same
        (passes whole_rules w e p).content)).taken)
        (All-filter (is_live (record { 0 = e.moment })) (λ c. IfSome c.session AreFit) w.connections h)
