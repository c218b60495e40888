-- Tracked sessions go on.
use Rattle.std.proofs.Common.{◌≡◌, true, List, length, Option, Some, None, option_map, ◌∙◌, ap, subst, arith}
use Rattle.gate_base.specs.Prelude.{Event}
use Rattle.gate_base.specs.declared.address.Addr.{Addr}
use Rattle.gate_base.specs.declared.event.Pair.{Pair}
use Rattle.gate_base.specs.declared.host.Host.{Host}
use Rattle.gate_base.specs.declared.host.Host.TheVariants.{Client, Server}
use Rattle.gate_settings.specs.declared.settings.Settings.{Settings}
use Rattle.dialogue.specs.Prelude.{Entry, ReadAlike, Meaning}
use Rattle.dialogue.proofs.Alike.{due_alike, back_alike}
use Rattle.dns_stream.specs.Prelude.{dns_units}
use Rattle.stream_model.specs.Prelude.{Sender, Session, Segment, Outgoing, own, due_in, arrival, is_data, segment_refusal, acknowledged_of, Brings}
use Rattle.stream_model.proofs.Lacking.{session_brings, session_carries}
use Rattle.stream_model.proofs.RecentFact.{facts_of}
use Rattle.stream_model.proofs.Waiting.{only_held}
use Rattle.gate_model.specs.Prelude.{Lists, with_list, addresses_in, entered, meaning_by, entries_by, whole_units, whole_learned, Tracked, at_moment}
use Rattle.gate_model.specs.Prelude.{host_on, RememberedSession, remembering_rules, UnitsAreRenamed, EachTracked, datagram_in, segment_of}
use Rattle.gate_model.specs.Prelude.{TakesSegment, image_in, streams_of, remembered_after}
use Rattle.gate_model.specs.Taken.{taken_by}
use Rattle.gate_model.specs.GoingOn.{OnlyRestsWait, HasDataSegment, GoesOn, GoesOnBy}
use Rattle.gate_model.proofs.Tracking.{taken_before, taken_keeps}
use Rattle.gate_model.proofs.RememberedSessions.{with_meaning, Holds, own_same, own_alike, learned, IsLonger, longer, holds_learned, verdict_learned, TrackedHolds, remembered_keeps, run_holds, each}

-- the same of a sender whose octets are read by another meaning, in the same way
brings_alike : (a : Sender) (n : Meaning) (new : Sender) (g : Segment) (outs : List Outgoing) → ReadAlike a.meaning n a.octets
    → Brings (with_meaning a n) new g outs → Brings a new g outs
brings_alike a n new g outs h b =
    let back : acknowledged_of a ≡ acknowledged_of (with_meaning a n) = back_alike a.meaning n a.ended a.octets a.acked h in
    let due : length (due_in a) ≡ length (due_in (with_meaning a n)) = ap length (due_alike a.meaning n a.ended a.octets h) in
    record {
      due = λ q from l. b.due q (omega (arith, from, due)) l;
      ended = b.ended;
      lacking = λ c l. b.lacking (record { begins = omega (arith, c.begins, back); goes_past = omega (arith, c.goes_past, back) }) l;
      onward = λ c r. b.onward (record { begins = omega (arith, c.begins, back); goes_past = omega (arith, c.goes_past, back) }) r;
      each = λ p q x from c at f l k. b.each p q x (omega (arith, from, back)) (record { begins = c.begins; goes_past = c.goes_past }) at f l k;
      ending = b.ending;
      behind = λ fin l begins. b.behind fin l (omega (arith, begins, back));
      again = λ by_it r k. b.again (omega (arith, by_it, back)) r k;
    }

brings_learned : (lists : Option Lists) (pair : Pair) (f : Host) (s : Session) (g : Segment) (es : List Entry) (new : Sender) (outs : List Outgoing)
    → IsLonger lists f es → UnitsAreRenamed lists f (own f s).octets → (own f s).meaning ≡ meaning_by lists pair f
    → Brings (own f (learned f (option_map (with_list f es) lists) s)) new g outs → Brings (own f s) new g outs
brings_learned None pair f s g es new outs more units is b = subst (λ (a : Sender). Brings a new g outs) (own_same f f s) b
brings_learned (Some l) pair Client s g es new outs more units is b =
    brings_alike s.client (dns_units es) new g outs (own_alike l.client es s.client is more units) b
brings_learned (Some l) pair Server s g es new outs more units is b =
    brings_alike s.server (dns_units es) new g outs (own_alike l.server es s.server is more units) b

-- a segment that a session doesn't refuse
goes_by : (image : Addr → Option Addr) (f : Host) (t : Tracked RememberedSession) (g : Segment) → TrackedHolds t
    → segment_refusal f (streams_of t) g ≡ None → is_data (arrival g) ≡ true
    → OnlyRestsWait (remembering_rules.next image f t.session g).session.session
    → GoesOn f (streams_of t) (remembering_rules.next image f t.session g).session.session g (remembering_rules.out image f t.session g)
goes_by image f t g h v d waits =
    record {
      brings =
          brings_learned t.session.session.lists t.pair f t.session.session.session g
          (entered image (entries_by t.session.session.lists f) (addresses_in (whole_units f t.session.session g))) _ _
          (longer t.session.session.lists f image (addresses_in (whole_units f t.session.session g))) (h.streams.units f) (h.streams.holds f).meaning
          (session_brings f (whole_learned image f t.session.session g).session g holds.acked.lawful
          (facts_of (own f (whole_learned image f t.session.session g).session) (t.session.streams f).places
          (t.session.streams f).numbers holds.acked holds.short holds.few) passes d);
      carries = session_carries f (whole_learned image f t.session.session g).session g d;
      waits = waits;
    }
  where
    holds : Holds (meaning_by (whole_learned image f t.session.session g).lists t.pair f) (own f (whole_learned image f t.session.session g).session)
        (t.session.streams f)
    holds = holds_learned t.session.session.lists t.pair f f t.session.session.session (t.session.streams f)
        (entered image (entries_by t.session.session.lists f) (addresses_in (whole_units f t.session.session g)))
        (longer t.session.session.lists f image (addresses_in (whole_units f t.session.session g))) (h.streams.units f) (h.streams.holds f)

    passes : segment_refusal f (whole_learned image f t.session.session g).session g ≡ None
    passes = verdict_learned t.session.session.lists t.pair f t.session.session.session g
        (entered image (entries_by t.session.session.lists f) (addresses_in (whole_units f t.session.session g)))
        (longer t.session.session.lists f image (addresses_in (whole_units f t.session.session g))) (h.streams.units f) (h.streams.holds f).meaning
        ∙ v

-- nothing but held rests waits in what holds
rests_wait : (t : Tracked RememberedSession) → TrackedHolds t → OnlyRestsWait (streams_of t)
rests_wait t h host = only_held (own host (streams_of t)) (h.streams.holds host).acked.lawful

pub waits_are : (events : List Event) (settings : Settings)
    → EachTracked (λ t. OnlyRestsWait (streams_of t)) (remembered_after settings events).connections
waits_are events settings = each (λ t. OnlyRestsWait (streams_of t)) rests_wait events settings

pub goes_on : (events : List Event) (settings : Settings) (e : Event) (t : Tracked RememberedSession)
    → TakesSegment remembering_rules (remembered_after settings events) e t → HasDataSegment e → GoesOnBy (remembered_after settings events) e t
goes_on events settings e t takes d =
    let w = remembered_after settings events in
    let image = image_in remembering_rules (at_moment w e.moment) e.side e.moment (datagram_in e) in
    let before = taken_before remembering_rules TrackedHolds remembered_keeps w e t takes (run_holds events settings) in
    let behind = taken_keeps remembering_rules TrackedHolds remembered_keeps w e t takes (run_holds events settings) in
    goes_by image (host_on e.side t) t (segment_of (datagram_in e)) before.0 before.1 d (rests_wait (taken_by remembering_rules w e t) behind)
