-- A session changes with the segments that it takes alone.
use Rattle.std.proofs.Common.{◌≡◌, List, Option, Some, None, option_map, refl, inl, inr, IfSome, Contains}
use Rattle.std.proofs.lemmas.List.Elements.{All-contains_itself, All-filter, All-weaker}
use Rattle.gate_base.specs.Prelude.{Event}
use Rattle.verdicts.specs.declared.verdict.Verdict.{Verdict}
use Rattle.verdicts.specs.declared.verdict.Verdict.TheVariants.{Pass, Refused, Held}
use Rattle.tcp_tracker.specs.Prelude.{place_of, is_live}
use Rattle.tcp_tracker.specs.declared.connection.Connection.{Connection}
use Rattle.gate_model.specs.Prelude.{Whole, Kind, Stream, datagram_in, kind_of, RememberedSession, remembering_rules, EachTracked, taker_in, after_kind, next_by, next, key_in, stepped, connection_after, image_in, verdict, Tracked, World, at_moment}
use Rattle.gate_model.specs.GoingOn.{IsTracked, ComesThrough}
use Rattle.gate_model.proofs.Tracking.{all_changed, after_keeps}

-- each session of a list is tracked there
each_stands : (all : List (Connection (Tracked RememberedSession))) → EachTracked (IsTracked all) all
each_stands all =
    All-weaker (Contains all) (λ c. IfSome c.session (IsTracked all)) (λ c h. by_session c h c.session refl) all (All-contains_itself all)
  where
    by_session : (c : Connection (Tracked RememberedSession)) → Contains all c → (o : Option (Tracked RememberedSession)) → c.session ≡ o
        → IfSome o (IsTracked all)
    by_session c h None e = tt
    by_session c h (Some t) e = record { connection = c; stands = h; session = e }

pub through : (w : World RememberedSession) (e : Event) → EachTracked (ComesThrough w e) (next remembering_rules w e).connections
through w e = by_verdict (verdict remembering_rules w e) refl
  where
    live : World RememberedSession
    live = at_moment w e.moment

    P : Connection (Tracked RememberedSession) → Type 0
    P c = IfSome c.session (ComesThrough w e)

    there : (c : Connection (Tracked RememberedSession)) (o : Option (Tracked RememberedSession)) → IfSome o (IsTracked w.connections)
        → IfSome o (ComesThrough w e)
    there c None h = tt
    there c (Some t) h = inl h

    stays : EachTracked (ComesThrough w e) (at_moment w e.moment).connections
    stays = All-filter (is_live (record { 0 = e.moment })) P w.connections
        (All-weaker (λ c. IfSome c.session (IsTracked w.connections)) P (λ c h. there c c.session h) w.connections (each_stands w.connections))

    steps : verdict remembering_rules w e ≡ Pass → kind_of (datagram_in e) ≡ Stream → (o : Option (Tracked RememberedSession))
        → taker_in remembering_rules (at_moment w e.moment) e.side e.moment (datagram_in e) ≡ o
        → IfSome
        (option_map
        (stepped remembering_rules (image_in remembering_rules (at_moment w e.moment) e.side e.moment (datagram_in e)) e.side (datagram_in e)) o)
        (ComesThrough w e)
    steps p k None q = tt
    steps p k (Some t) q = inr (record { before = t; takes = record { passes = p; stream = k; taker = q }; is = refl })

    by_kind : (kind : Kind) → verdict remembering_rules w e ≡ Pass → kind_of (datagram_in e) ≡ kind
        → EachTracked (ComesThrough w e) (after_kind remembering_rules (at_moment w e.moment) e.side e.moment (datagram_in e) kind).connections
    by_kind (Whole payload) p k = stays
    by_kind Stream p k =
        let d = datagram_in e in
        let image = image_in remembering_rules live e.side e.moment d in
        let taker = taker_in remembering_rules live e.side e.moment d in
        all_changed P live.connections (place_of (key_in live.table e.side d) live.connections)
        (connection_after remembering_rules image live e.side e.moment d taker) stays
        (after_keeps remembering_rules (ComesThrough w e) image live e.side e.moment d taker (steps p k taker refl))

    by_verdict : (v : Verdict) → verdict remembering_rules w e ≡ v
        → EachTracked (ComesThrough w e) (next_by remembering_rules (at_moment w e.moment) e v).connections
    by_verdict Pass p = by_kind (kind_of (datagram_in e)) p refl
    by_verdict (Refused r) p = stays
    by_verdict Held p = stays
