-- Rounds of repeats of a tracked session come to an end.
use Rattle.std.proofs.Common.{◌≡◌, ◌≤◌, ◌+◌, ℕ, true, List, [], ◌∷◌, length, Option, Some, None, option_map, refl, sym, ◌∙◌, ap, subst, arith, inl, inr, ◌⊎◌}
use Rattle.gate_base.specs.declared.address.Addr.{Addr}
use Rattle.gate_base.specs.declared.event.Pair.{Pair}
use Rattle.gate_base.specs.declared.host.Host.{Host}
use Rattle.gate_base.specs.declared.host.Host.TheVariants.{Client, Server}
use Rattle.gate_base.specs.Prelude.{peer}
use Rattle.dialogue.specs.Prelude.{Entry, Meaning, image}
use Rattle.dialogue.proofs.Alike.{back_alike}
use Rattle.dns_stream.specs.Prelude.{dns_units}
use Rattle.stream_model.specs.Prelude.{known, acknowledged_of, Hears, LacksOctets, LacksEnd, Sender, Session, Segment, Outgoing, own, due_in, extent, arrival, place_acknowledged, own_after, other_after, session_next, session_out, is_data, segment_refusal}
use Rattle.stream_model.proofs.Lacking.{data_of, out_is}
use Rattle.stream_model.proofs.PassLemmas.{Passes, passes}
use Rattle.stream_model.proofs.RoundsEnd.{Stands, Raised, raised_in, IsFull, full}
use Rattle.gate_model.specs.Prelude.{datagram_in, streams_of, Lists, with_list, addresses_in, entered, Remembered, RememberedSession}
use Rattle.gate_model.specs.Prelude.{remembering_rules, UnitsAreRenamed, EachTracked, meaning_by, entries_by, whole_units}
use Rattle.gate_model.specs.Prelude.{next as world_next, segment_of, image_in, Tracked, World, at_moment, host_on}
use Rattle.gate_model.specs.Rounds.{FrameRound, at_repeat, at_answer, at_end, repeated, answered, IsFrameRound, AllFrameRounds, after_frame_rounds}
use Rattle.gate_model.proofs.RememberedSessions.{with_meaning, Holds, own_same, own_alike, learned, IsLonger, longer, holds_learned, verdict_learned, TrackedHolds, remembered_keeps}
use Rattle.gate_model.proofs.Tracking.{run_keeps, next_keeps, taken_before}

-- ## One round of a session that learns first what the segment's units name

-- what a host lacks is read off its octets and numbers alone
lacks_alike : (a : Sender) (n : Meaning) (new : Sender) (g : Segment) (knows : ℕ) → LacksOctets a new g knows ⊎ LacksEnd a new g knows
    → LacksOctets (with_meaning a n) new g knows ⊎ LacksEnd (with_meaning a n) new g knows
lacks_alike a n new g knows lacks =
    elim lacks [
      | inl o ↦ inl (record { covers = record { begins = o.covers.begins; goes_past = o.covers.goes_past }; lacks = o.lacks })
      | inr o ↦ inr (record { begins = o.begins; fin = o.fin; ended = o.ended; lacks = o.lacks })
    ]

-- what is acknowledged to a host doesn't depend on what it learns
acknowledged_learned : (lists : Option Lists) (pair : Pair) (f : Host) (s : Session) (es : List Entry) → IsLonger lists f es
    → UnitsAreRenamed lists f (own f s).octets → (own f s).meaning ≡ meaning_by lists pair f
    → (acknowledged_of (own f (learned f (option_map (with_list f es) lists) s)) ≡ acknowledged_of (own f s))
    × ((own f (learned f (option_map (with_list f es) lists) s)).acked ≡ (own f s).acked)
acknowledged_learned None pair f s es more units is = (ap acknowledged_of (own_same f f s), ap (λ (a : Sender). a.acked) (own_same f f s))
acknowledged_learned (Some l) pair Client s es more units is = (
  sym (back_alike s.client.meaning (dns_units es) s.client.ended s.client.octets s.client.acked (own_alike l.client es s.client is more units)),
  refl,
)
acknowledged_learned (Some l) pair Server s es more units is = (
  sym (back_alike s.server.meaning (dns_units es) s.server.ended s.server.octets s.server.acked (own_alike l.server es s.server is more units)),
  refl,
)

learned_stands : (lists : Option Lists) (pair : Pair) (f : Host) (s : Session) (r : Remembered) (es : List Entry) (knows had : ℕ)
    → IsLonger lists f es → UnitsAreRenamed lists f (own f s).octets → Holds (meaning_by lists pair f) (own f s) r → knows ≤ acknowledged_of (own f s)
    → (own f s).acked ≤ had
    → Stands (own f (learned f (option_map (with_list f es) lists) s)) knows had
learned_stands lists pair f s r es knows had more units h below hears =
    let k = holds_learned lists pair f f s r es more units h in
    let same = acknowledged_learned lists pair f s es more units h.meaning in
    record {
      lawful = k.acked.lawful;
      bound = k.acked.bound;
      below = subst (λ (n : ℕ). knows ≤ n) (sym same.0) below;
      hears = subst (λ (n : ℕ). n ≤ had) (sym same.1) hears;
    }

-- the repeat is taken by the session that has learned
raised_learned : (lists : Option Lists) (f : Host) (s : Session) (g h : Segment) (es : List Entry) (c : Sender) (knows had has : ℕ) → let y =
    learned f (option_map (with_list f es) lists) s in
    Stands (own f y) knows had → segment_refusal f y g ≡ None → is_data (arrival g) ≡ true
    → (LacksOctets (own f s) (own f (session_next f y g)) g knows ⊎ LacksEnd (own f s) (own f (session_next f y g)) g knows)
    → Hears (known (own f s).initial) (due_in (own f (session_next f y g))) had (session_out f y g) has
    → Passes (peer f) c (own f (session_next f y g)) h → is_data (arrival h) ≡ true
    → place_acknowledged (extent (own f (session_next f y g))) (arrival h) ≡ has
    → Raised (own f s) (other_after (own f (session_next f y g)) h) knows has
raised_learned None Client s g h es c knows had has st v d lacks hears q e all =
    raised_in Client s.client s.server c g h knows had has st (passes Client s.client s.server g v) d lacks
    (subst (λ (os : List Outgoing). Hears (known s.client.initial) (due_in (own_after s.client g)) had os has)
    (out_is s.client s.server g (data_of g d)) hears) q e all
raised_learned None Server s g h es c knows had has st v d lacks hears q e all =
    raised_in Server s.server s.client c g h knows had has st (passes Server s.server s.client g v) d lacks
    (subst (λ (os : List Outgoing). Hears (known s.server.initial) (due_in (own_after s.server g)) had os has)
    (out_is s.server s.client g (data_of g d)) hears) q e all
raised_learned (Some l) Client s g h es c knows had has st v d lacks hears q e all =
    let a = with_meaning s.client (dns_units es) in
    let r = raised_in Client a s.server c g h knows had has st (passes Client a s.server g v) d
    (lacks_alike s.client (dns_units es) (own_after a g) g knows lacks)
    (subst (λ (os : List Outgoing). Hears (known s.client.initial) (due_in (own_after a g)) had os has) (out_is a s.server g (data_of g d)) hears) q e
    all in
    record { stands = r.stands; more = r.more }
raised_learned (Some l) Server s g h es c knows had has st v d lacks hears q e all =
    let a = with_meaning s.server (dns_units es) in
    let r = raised_in Server a s.client c g h knows had has st (passes Server a s.client g v) d
    (lacks_alike s.server (dns_units es) (own_after a g) g knows lacks)
    (subst (λ (os : List Outgoing). Hears (known s.server.initial) (due_in (own_after a g)) had os has) (out_is a s.client g (data_of g d)) hears) q e
    all in
    record { stands = r.stands; more = r.more }

-- the answer, whose sender may learn too, changes the other host's numbers alone
answer_is : (f : Host) (lists : Option Lists) (s : Session) (h : Segment)
    → own f (session_next (peer f) (learned (peer f) lists s) h) ≡ other_after (own f s) h
answer_is Client lists s h = refl
answer_is Server lists s h = refl

answer_passes : (f : Host) (s : Session) (h : Segment) → segment_refusal (peer f) s h ≡ None → Passes (peer f) (own (peer f) s) (own f s) h
answer_passes Client s h v = passes Server s.server s.client h v
answer_passes Server s h v = passes Client s.client s.server h v

-- ## Over sessions that remember

abbrev after_segment : (Addr → Option Addr) → Host → RememberedSession → Segment → Session
after_segment image f x g = (remembering_rules.next image f x g).session.session

raised_by_segments : (image other_image : Addr → Option Addr) (f by : Host) (t : Tracked RememberedSession) (g h : Segment) (knows had has : ℕ)
    → by ≡ peer f → TrackedHolds t → segment_refusal f (streams_of t) g ≡ None → is_data (arrival g) ≡ true
    → (LacksOctets (own f (streams_of t)) (own f (after_segment image f t.session g)) g knows
    ⊎ LacksEnd (own f (streams_of t)) (own f (after_segment image f t.session g)) g knows)
    → Hears (known (own f (streams_of t)).initial) (due_in (own f (after_segment image f t.session g))) had
    (remembering_rules.out image f t.session g) has
    → segment_refusal by (after_segment image f t.session g) h ≡ None → is_data (arrival h) ≡ true
    → place_acknowledged (extent (own f (after_segment image f t.session g))) (arrival h) ≡ has
    → knows ≤ acknowledged_of (own f (streams_of t)) → (own f (streams_of t)).acked ≤ had
    → Raised (own f (streams_of t)) (own f (after_segment other_image by (remembering_rules.next image f t.session g) h)) knows has
raised_by_segments image other_image f by t g h knows had has other_host holds v d lacks hears answered e all below acked =
    subst (λ (b : Host). segment_refusal b (after_segment image f t.session g) h ≡ None
    → Raised (own f (streams_of t)) (own f (after_segment other_image b (remembering_rules.next image f t.session g) h)) knows has)
    (sym other_host)
    (λ w. subst (λ (z : Sender). Raised (own f (streams_of t)) z knows has)
    (sym (answer_is f (option_map
    (with_list (peer f) (entered other_image (entries_by (remembering_rules.next image f t.session g).session.lists (peer f))
    (addresses_in (whole_units (peer f) (remembering_rules.next image f t.session g).session h))))
    (remembering_rules.next image f t.session g).session.lists) (after_segment image f t.session g) h))
    (raised_learned t.session.session.lists f (streams_of t) g h es (own (peer f) (after_segment image f t.session g)) knows had has
    (learned_stands t.session.session.lists t.pair f (streams_of t) (t.session.streams f) es knows had more (holds.streams.units f)
    (holds.streams.holds f) below acked)
    (verdict_learned t.session.session.lists t.pair f (streams_of t) g es more (holds.streams.units f) (holds.streams.holds f).meaning ∙ v)
    d lacks hears (answer_passes f (after_segment image f t.session g) h w) e all))
    answered
  where
    es : List Entry
    es = entered image (entries_by t.session.session.lists f) (addresses_in (whole_units f t.session.session g))

    more : IsLonger t.session.session.lists f
        (entered image (entries_by t.session.session.lists f) (addresses_in (whole_units f t.session.session g)))
    more = longer t.session.session.lists f image (addresses_in (whole_units f t.session.session g))

-- ## Over worlds

-- what a world that comes of events keeps
abbrev Reached : World RememberedSession → Type 0
Reached w = EachTracked TrackedHolds w.connections

end_reached : (w : World RememberedSession) (x : FrameRound) → Reached w → Reached (at_answer w x) × Reached (at_end w x)
end_reached w x h =
    let repeat =
    next_keeps remembering_rules TrackedHolds remembered_keeps (at_repeat w x) x.repeat
    (run_keeps remembering_rules TrackedHolds remembered_keeps x.before w h) in
    let answer = run_keeps remembering_rules TrackedHolds remembered_keeps x.between (world_next remembering_rules (at_repeat w x) x.repeat) repeat in
    (answer, next_keeps remembering_rules TrackedHolds remembered_keeps (at_answer w x) x.answer answer)

round_raises : (host : Host) (w : World RememberedSession) (t : Tracked RememberedSession) (knows had : ℕ) (x : FrameRound) → Reached w
    → knows ≤ acknowledged_of (own host (streams_of t)) → (own host (streams_of t)).acked ≤ had → IsFrameRound host w t knows had x
    → Raised (own host (streams_of t)) (own host (streams_of (answered w x t))) knows x.has
round_raises host w t knows had x reached below acked r =
    subst (λ (b : Host). IsFrameRound b w t knows had x → knows ≤ acknowledged_of (own b (streams_of t)) → (own b (streams_of t)).acked ≤ had
    → Raised (own b (streams_of t)) (own b (streams_of (answered w x t))) knows x.has) r.by of_sender r below acked
  where
    of_sender : IsFrameRound (host_on x.repeat.side t) w t knows had x → knows ≤ acknowledged_of (own (host_on x.repeat.side t) (streams_of t))
        → (own (host_on x.repeat.side t) (streams_of t)).acked ≤ had
        → Raised (own (host_on x.repeat.side t) (streams_of t)) (own (host_on x.repeat.side t) (streams_of (answered w x t))) knows x.has
    of_sender r below acked =
        let before =
        taken_before remembering_rules TrackedHolds remembered_keeps (at_repeat w x) x.repeat t r.takes
        (run_keeps remembering_rules TrackedHolds remembered_keeps x.before w reached) in
        let behind =
        taken_before remembering_rules TrackedHolds remembered_keeps (at_answer w x) x.answer (repeated w x t) r.takes_answer
        (end_reached w x reached).0 in
        raised_by_segments
        (image_in remembering_rules (at_moment (at_repeat w x) x.repeat.moment) x.repeat.side x.repeat.moment (datagram_in x.repeat))
        (image_in remembering_rules (at_moment (at_answer w x) x.answer.moment) x.answer.side x.answer.moment (datagram_in x.answer))
        (host_on x.repeat.side t) (host_on x.answer.side t) t (segment_of (datagram_in x.repeat))
        (segment_of (datagram_in x.answer)) knows had x.has r.answers_by before.0 before.1 r.kind r.lacks r.hears behind.1 r.answer_kind r.all
        below acked

pub frame_rounds_raise : (host : Host) (xs : List FrameRound) (w : World RememberedSession) (t : Tracked RememberedSession) (knows had : ℕ)
    → EachTracked TrackedHolds w.connections → knows ≤ acknowledged_of (own host (streams_of t)) → (own host (streams_of t)).acked ≤ had
    → AllFrameRounds host w t knows had xs
    → let new = own host (streams_of (after_frame_rounds w t xs)) in
    length xs + (own host (streams_of t)).acked + knows ≤ new.acked + acknowledged_of new
frame_rounds_raise host [] w t knows had reached below acked all = omega (arith, below)
frame_rounds_raise host (x ∷ xs) w t knows had reached below acked all =
    let one : Raised (own host (streams_of t)) (own host (streams_of (answered w x t))) knows x.has =
    round_raises host w t knows had x reached below acked all.0 in
    let rest =
    frame_rounds_raise host xs (at_end w x) (answered w x t) (acknowledged_of (own host (streams_of (answered w x t)))) x.has
    (end_reached w x reached).1 one.stands.below one.stands.hears all.1 in
    omega (arith, one.more, rest)

frame_rounds_full : (host : Host) (xs : List FrameRound) (w : World RememberedSession) (t : Tracked RememberedSession) (knows had : ℕ)
    → EachTracked TrackedHolds w.connections → knows ≤ acknowledged_of (own host (streams_of t)) → (own host (streams_of t)).acked ≤ had
    → IsFull (own host (streams_of t))
    → AllFrameRounds host w t knows had xs → IsFull (own host (streams_of (after_frame_rounds w t xs)))
frame_rounds_full host [] w t knows had reached below acked now all = now
frame_rounds_full host (x ∷ xs) w t knows had reached below acked now all =
    let one : Raised (own host (streams_of t)) (own host (streams_of (answered w x t))) knows x.has =
    round_raises host w t knows had x reached below acked all.0 in
    frame_rounds_full host xs (at_end w x) (answered w x t) (acknowledged_of (own host (streams_of (answered w x t)))) x.has
    (end_reached w x reached).1 one.stands.below one.stands.hears
    (full (own host (streams_of (answered w x t))) one.stands.lawful one.stands.bound) all.1

pub frame_rounds_few : (host : Host) (xs : List FrameRound) (w : World RememberedSession) (t : Tracked RememberedSession) (knows had : ℕ)
    → EachTracked TrackedHolds w.connections → knows ≤ acknowledged_of (own host (streams_of t)) → (own host (streams_of t)).acked ≤ had
    → AllFrameRounds host w t knows had xs
    → let new = own host (streams_of (after_frame_rounds w t xs)) in length xs ≤ length (image new.meaning new.octets) + length new.octets + 2
frame_rounds_few host [] w t knows had reached below acked all = omega arith
frame_rounds_few host (x ∷ xs) w t knows had reached below acked all =
    let one : Raised (own host (streams_of t)) (own host (streams_of (answered w x t))) knows x.has =
    round_raises host w t knows had x reached below acked all.0 in
    let sum = frame_rounds_raise host (x ∷ xs) w t knows had reached below acked all in
    let most = frame_rounds_full host xs (at_end w x) (answered w x t) (acknowledged_of (own host (streams_of (answered w x t)))) x.has
    (end_reached w x reached).1 one.stands.below one.stands.hears
    (full (own host (streams_of (answered w x t))) one.stands.lawful one.stands.bound) all.1 in
    omega (arith, sum, most)
